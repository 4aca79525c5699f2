-- Lists that go along with the owners, and the owners as `start` or numbers of functions.
use Rattle.std.proofs.Common.{◌≡◌, ℕ, zero, suc, ◌||◌, true, List, [], ◌∷◌, length, inl, inr, Option, Some, refl, sym, ap, ◌∙◌, arith}
use Rattle.std.specs.Prelude.{slice_get}
use Rattle.std.proofs.lemmas.Bool.{or_left, or_right}
use Rattle.std.proofs.lemmas.Option.{none-some, same_Some, slice_get_cases, slice_get_within}
use Rattle.tac_ir.specs.declared.register.FunctionId.{FunctionId}
use Rattle.tac_ir.specs.Code.{Tac}
use Rattle.tac_ir.specs.States.{Owner}
use Rattle.heap_graph.specs.Graphs.{Graph}
use Rattle.heap_graph.specs.Targets.{has_target}
use Rattle.heap_graph.specs.Escaping.{same_owner}
use Rattle.heap_graph.specs.Closed.{is_name}
use Rattle.graph_unification.specs.Memory.{owner_of}
use Rattle.heap_graph.proofs.Outside.{same_itself}
use Rattle.dsa_local.specs.Mentioned.{is_among}
use Rattle.dsa_local.specs.Told.{OnlyNames}
use Rattle.dsa_inlining.specs.Kept.{AllTold}
use Rattle.dsa_inlining.specs.Owners.{is_owner}
use Rattle.dsa_inlining.specs.Crossings.{owners_in}

-- what one list has at a place, another of the same length has too
pub also_there : {A B : Type 0} (xs : List A) (ys : List B) (place : ℕ) (y : B) → length xs ≡ length ys → slice_get ys place ≡ Some y → (x : A) × (slice_get xs place ≡ Some x)
also_there xs ys place y same is = elim (slice_get_cases xs place).1 [ inl found ↦ (found.0, found.2) | inr past ↦ absurd (omega (arith, past.0, slice_get_within ys place y is, same)) ]

-- ---- owners

pub among_is : (owners : List (Option FunctionId)) (owner : Owner) → is_among owner (owners_in owners) ≡ is_owner owners owner
among_is [] owner = refl
among_is (first ∷ owners) owner = ap (λ b. same_owner (owner_of first) owner || b) (among_is owners owner)

-- an owner in the list is one of them
pub owner_there : (owners : List (Option FunctionId)) (place : ℕ) (owner : Option FunctionId) → slice_get owners place ≡ Some owner → is_owner owners (owner_of owner) ≡ true
owner_there [] place owner is = absurd (none-some owner is)
owner_there (first ∷ owners) zero owner is =
    or_left (same_owner (owner_of first) (owner_of owner)) (is_owner owners (owner_of owner)) (ap (λ o. same_owner (owner_of o) (owner_of owner)) (same_Some first owner is) ∙ same_itself (owner_of owner))
owner_there (first ∷ owners) (suc place) owner is = or_right (same_owner (owner_of first) (owner_of owner)) (is_owner owners (owner_of owner)) (owner_there owners place owner is)

pub among_there : (owners : List (Option FunctionId)) (place : ℕ) (owner : Option FunctionId) → slice_get owners place ≡ Some owner → is_among (owner_of owner) (owners_in owners) ≡ true
among_there owners place owner is = among_is owners (owner_of owner) ∙ owner_there owners place owner is

-- ---- names

-- only names of these owners have targets, beside copies
pub all_told : (tac : Tac) (owners : List (Option FunctionId)) (made : Graph) → OnlyNames tac (owners_in owners) made → AllTold tac (is_owner owners) made
all_told tac owners made only name target plain is = sym (λ i. is_name tac (λ owner. among_is owners owner i) name) ∙ only name plain (ap has_target is)
