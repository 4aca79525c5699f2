-- The nodes from which callers of a group's functions begin.
use Rattle.std.proofs.Common.{◌≡◌, ℕ, zero, suc, ◌+◌, ◌<◌, ◌≤◌, ◌==◌, ◌||◌, ◌⊎◌, inl, inr, Bool, true, false, List, [], ◌∷◌, length, get_or, All, Some, refl, sym, ap, subst, ◌∙◌, arith}
use Rattle.std.specs.Prelude.{slice_get}
use Rattle.std.proofs.lemmas.Bool.{false≢true, cases_lt}
use Rattle.std.proofs.lemmas.Bool.Decides.{Decides-eqb}
use Rattle.std.proofs.lemmas.Option.{none-some, same_Some, slice_get_within, slice_get-get_or}
use Rattle.tac_ir.specs.declared.register.FunctionId.{FunctionId}
use Rattle.heap_graph.specs.Closed.{is_in}
use Rattle.heap_graph.specs.declared.program.FunctionGraph.{FunctionGraph}
use Rattle.heap_graph.specs.declared.marks.NodeMarks.{NodeMarks}
use Rattle.heap_graph.specs.Marks.{Adds, IsOutside}
use Rattle.heap_graph.specs.Complete.{numbers}
use Rattle.heap_graph.proofs.Adding.{adds_nothing, adds_both, adds_same}

-- ---- the numbers of members

pub member_in : (members : List FunctionId) (place : ℕ) (member : FunctionId) → slice_get members place ≡ Some member → is_in member.0 (numbers members) ≡ true
member_in [] place member is = absurd (none-some member is)
member_in (first ∷ members) zero member is = ap (λ (f : FunctionId). (first.0 == f.0) || is_in f.0 (numbers members)) (sym (same_Some first member is)) ∙ ap (λ t. t || is_in first.0 (numbers members)) ((Decides-eqb first.0 first.0).1 refl)
member_in (first ∷ members) (suc place) member is = by (first.0 == member.0) (member_in members place member is)
  where
    by : (test : Bool) → is_in member.0 (numbers members) ≡ true → ◌≡◌ {A = Bool} (test || is_in member.0 (numbers members)) true
    by true later = refl
    by false later = later

pub in_member : (members : List FunctionId) (number : ℕ) → is_in number (numbers members) ≡ true → (place : ℕ) × (member : FunctionId) × (slice_get members place ≡ Some member) × (member.0 ≡ number)
in_member [] number is = absurd (false≢true is)
in_member (first ∷ members) number is = by (first.0 == number) refl (in_member members number)
  where
    by : (test : Bool) → (first.0 == number) ≡ test
        → (is_in number (numbers members) ≡ true → (place : ℕ) × (member : FunctionId) × (slice_get members place ≡ Some member) × (member.0 ≡ number))
        → (place : ℕ) × (member : FunctionId) × (slice_get (first ∷ members) place ≡ Some member) × (member.0 ≡ number)
    by true found later = (0, first, refl, (Decides-eqb first.0 number).0 found)
    by false found later = let rest = later (sym (ap (λ t. t || is_in number (numbers members)) found) ∙ is) in (suc rest.0, rest.1, rest.2, rest.3)

-- members whose numbers are those of functions
pub members_within : (members : List FunctionId) (bound : ℕ) → ((function : ℕ) → is_in function (numbers members) ≡ true → function < bound) → All (λ (member : FunctionId). member.0 < bound) members
members_within members bound within = λ place default below. within (get_or members place default).0 (member_in members place (get_or members place default) (slice_get-get_or members place default below))

-- ---- in a loop

-- the node of a formal or of the result of one of the first members
pub record IsOutsideFirst (members : List FunctionId) (functions : List FunctionGraph) (count number : ℕ) : Type 0 where
  pub place : ℕ
  pub below : place < count
  pub member : FunctionId
  pub is : slice_get members place ≡ Some member
  pub own : FunctionGraph
  pub there : slice_get functions member.0 ≡ Some own
  pub outside : IsOutside own.names number

module _ (members : List FunctionId) (functions : List FunctionGraph) where
  pub outside_none : (marks : NodeMarks) → Adds marks marks (IsOutsideFirst members functions 0)
  outside_none marks = adds_nothing marks (IsOutsideFirst members functions 0) (λ number found. omega (arith, found.below))

  pub outside_more : (old mid new : NodeMarks) (count : ℕ) (member : FunctionId) (own : FunctionGraph) → slice_get members count ≡ Some member → slice_get functions member.0 ≡ Some own
      → Adds old mid (IsOutsideFirst members functions count) → Adds mid new (IsOutside own.names) → Adds old new (IsOutsideFirst members functions (count + 1))
  outside_more old mid new count member own is there one two =
      adds_same old new (λ number. IsOutsideFirst members functions count number ⊎ IsOutside own.names number) (IsOutsideFirst members functions (count + 1)) to from
      (adds_both old mid new (IsOutsideFirst members functions count) (IsOutside own.names) one two)
    where
      to : (number : ℕ) → IsOutsideFirst members functions count number ⊎ IsOutside own.names number → IsOutsideFirst members functions (count + 1) number
      to number (inl found) =
          record { place = found.place; below = omega (arith, found.below); member = found.member; is = found.is; own = found.own; there = found.there; outside = found.outside }
      to number (inr outside) = record { place = count; below = omega arith; member = member; is = is; own = own; there = there; outside = outside }

      last : (number : ℕ) (found : IsOutsideFirst members functions (count + 1) number) → found.place ≡ count → IsOutside own.names number
      last number found same =
          let one : found.member ≡ member = same_Some found.member member (sym found.is ∙ (ap (slice_get members) same ∙ is)) in
          let names : found.own ≡ own = same_Some found.own own (sym found.there ∙ (ap (λ (f : FunctionId). slice_get functions f.0) one ∙ there)) in
          subst (λ (f : FunctionGraph). IsOutside f.names number) names found.outside

      from : (number : ℕ) → IsOutsideFirst members functions (count + 1) number → IsOutsideFirst members functions count number ⊎ IsOutside own.names number
      from number found =
          elim (cases_lt found.place count) [
            | inl lt ↦ inl (record { place = found.place; below = lt; member = found.member; is = found.is; own = found.own; there = found.there; outside = found.outside })
            | inr le ↦ inr (last number found (omega (arith, le, found.below)))
          ]

  pub outside_within : (count number : ℕ) (place : ℕ) (member : FunctionId) (own : FunctionGraph) → length members ≤ count → slice_get members place ≡ Some member
      → slice_get functions member.0 ≡ Some own → IsOutside own.names number → IsOutsideFirst members functions count number
  outside_within count number place member own long is there outside =
      record { place = place; below = omega (arith, long, slice_get_within members place member is); member = member; is = is; own = own; there = there; outside = outside }
