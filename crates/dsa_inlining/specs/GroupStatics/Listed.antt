-- Lists of variables outside functions and literals.
use Rattle.std.specs.Prelude.{◌≡◌, ℕ, Contains, Some}
use Rattle.heap_graph.specs.Graphs.{Target, Name, OfGlobal, OfLiteral, Graph}
use Rattle.dsa_inlining.specs.declared.told_statics.Statics.{Statics}

-- one of them is listed
abbrev pub Lists : Statics → Name → Type 0
Lists statics (OfGlobal number) = Contains statics.globals.items number
Lists statics (OfLiteral number) = Contains statics.literals.items number
Lists statics name = ⊥

-- one that is listed lies in the node
pub record IsRepresented (statics : Statics) (graph : Graph) (number : ℕ) : Type 0 where
  pub name : Name
  pub listed : Lists statics name
  pub target : Target
  pub is : graph.targets name ≡ Some target
  pub node : target.node ≡ number

-- so it is of each node in which one lies
pub record Represents (statics : Statics) (graph : Graph) : Type 0 where
  pub globals : (number : ℕ) (target : Target) → graph.targets (OfGlobal number) ≡ Some target → IsRepresented statics graph target.node
  pub literals : (number : ℕ) (target : Target) → graph.targets (OfLiteral number) ≡ Some target → IsRepresented statics graph target.node
