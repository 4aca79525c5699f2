-- The variables outside functions, or the literals, of a list, one after the other.
use Rattle.std.proofs.Common.{◌≡◌, ℕ, ◌<◌, ◌≤◌, List, length, get_or, Option, subst, ◌∙◌, arith}
use Rattle.std.proofs.lemmas.List.{get_or_default}
use Rattle.std.proofs.lemmas.List.Elements.{Contains-get_or}
use Rattle.tac_ir.specs.Code.{Tac}
use Rattle.heap_graph.specs.Structures.{AreMade}
use Rattle.heap_graph.specs.Graphs.{Name, OfGlobal, OfLiteral, Graph}
use Rattle.heap_graph.specs.Merging.{IsSound}
use Rattle.dsa_inlining.specs.declared.told_statics.Statics.{Statics}
use Rattle.dsa_inlining.specs.Crossed.{Comes}
use Rattle.dsa_inlining.specs.Joins.{Joins}
use Rattle.dsa_inlining.specs.OuterCalls.Listed.{ListedCome, ListCome}
use Rattle.dsa_inlining.proofs.Kept.{Keeps, comes_kept}
use Rattle.dsa_inlining.proofs.Joining.{Below, joins_then, joins_for}

-- the one that stands at a place of the list
abbrev pub ComesAt : Graph → (ℕ → Option ℕ) → (ℕ → Name) → List ℕ → ℕ → Graph → Type 0
ComesAt callee copies name numbers place graph = place < length numbers → Comes callee copies (name (get_or numbers place 0)) (name (get_or numbers place 0)) graph

module _ (tac : Tac) (made : AreMade tac.structs) (callee : Graph) (copies : ℕ → Option ℕ) (name : ℕ → Name) (numbers : List ℕ) where
  pub comes_at_kept : (place : ℕ) → Keeps tac.structs (ComesAt callee copies name numbers place)
  comes_at_kept place old new sound goes comes = λ within. comes_kept tac.structs made callee copies (name (get_or numbers place 0)) (name (get_or numbers place 0)) old new sound goes (comes within)

  pub listed_kept : Keeps tac.structs (ListedCome callee copies name numbers)
  listed_kept old new sound goes come = λ number among. comes_kept tac.structs made callee copies (name number) (name number) old new sound goes (come number among)

  pub one_joined : (place : ℕ) → place < length numbers → (old new : Graph) → Joins tac callee (Comes callee copies (name (get_or numbers place 0)) (name (get_or numbers place 0))) old new
      → Joins tac callee (ComesAt callee copies name numbers place) old new
  one_joined place within old new joins =
      joins_for tac made callee old new (Comes callee copies (name (get_or numbers place 0)) (name (get_or numbers place 0))) (ComesAt callee copies name numbers place) (λ graph comes. comes within)
      (λ comes less. comes) joins

  -- where there are no more, all were joined
  pub list_joined : (count : ℕ) → length numbers ≤ count → (old new : Graph) → Joins tac callee (Below (ComesAt callee copies name numbers) count) old new
      → Joins tac callee (ListedCome callee copies name numbers) old new
  list_joined count out old new joins =
      joins_for tac made callee old new (Below (ComesAt callee copies name numbers) count) (ListedCome callee copies name numbers)
      (λ graph all place less within. all (get_or numbers place 0) (Contains-get_or numbers place 0 within))
      (λ below number among.
      let within = among.1 in
      let there : get_or numbers among.0 0 ≡ number = get_or_default numbers among.0 0 number within ∙ among.2 in
      subst (λ n. Comes callee copies (name n) (name n) new) there (below among.0 (omega (arith, within, out)) within))
      joins

-- variables first, then literals
pub statics_joined : (tac : Tac) (made : AreMade tac.structs) (callee : Graph) (copies : ℕ → Option ℕ) (statics : Statics) (one two three : Graph) → IsSound tac.structs one → IsSound tac.structs two
    → Joins tac callee (ListedCome callee copies OfGlobal statics.globals.items) one two → Joins tac callee (ListedCome callee copies OfLiteral statics.literals.items) two three
    → Joins tac callee (ListCome callee copies statics) one three
statics_joined tac made callee copies statics one two three sound second globals literals =
    joins_for tac made callee one three (λ g. Globals g × Literals g) (ListCome callee copies statics) (λ g its. (its.globals, its.literals)) (λ its. record { globals = its.0; literals = its.1 })
    (joins_then tac made callee one two three sound second Globals Literals (λ g. Globals g × Literals g) (listed_kept tac made callee copies OfGlobal statics.globals.items) (λ g its. its) (λ g a b. (a, b)) globals literals)
  where
    Globals : Graph → Type 0
    Globals = ListedCome callee copies OfGlobal statics.globals.items

    Literals : Graph → Type 0
    Literals = ListedCome callee copies OfLiteral statics.literals.items
