-- Lists of variables outside functions, or of literals, by their numbers.
use Rattle.std.specs.Prelude.{◌≡◌, ℕ, List, Contains, Option, Some}
use Rattle.heap_graph.specs.Graphs.{Target, Name, OfGlobal, OfLiteral, Graph}
use Rattle.dsa_inlining.specs.declared.told_statics.Statics.{Statics}
use Rattle.dsa_inlining.specs.Crossed.{Comes}

-- those of a list come to their copies
abbrev pub ListedCome : Graph → (ℕ → Option ℕ) → (ℕ → Name) → List ℕ → Graph → Type 0
ListedCome callee copies name numbers graph = (number : ℕ) → Contains numbers number → Comes callee copies (name number) (name number) graph

-- those that are listed do
pub record ListCome (callee : Graph) (copies : ℕ → Option ℕ) (statics : Statics) (graph : Graph) : Type 0 where
  pub globals : ListedCome callee copies OfGlobal statics.globals.items graph
  pub literals : ListedCome callee copies OfLiteral statics.literals.items graph

-- those do of which a graph tells
pub record ToldCome (told callee : Graph) (copies : ℕ → Option ℕ) (graph : Graph) : Type 0 where
  pub globals : (number : ℕ) (target : Target) → told.targets (OfGlobal number) ≡ Some target → Comes callee copies (OfGlobal number) (OfGlobal number) graph
  pub literals : (number : ℕ) (target : Target) → told.targets (OfLiteral number) ≡ Some target → Comes callee copies (OfLiteral number) (OfLiteral number) graph
