-- The number of a function's group is where its group stands.
use Rattle.std.proofs.Common.{◌≡◌, ℕ, zero, suc, ◌+◌, ◌<◌, ◌≤◌, ◌==◌, ◌||◌, Bool, true, false, cond, List, [], ◌∷◌, ◌++◌, length, Some, ◌⊎◌, inl, inr, refl, sym, ap, subst, ◌∙◌, arith, eqb-true, eq-eqb}
use Rattle.std.specs.Prelude.{slice_get}
use Rattle.std.proofs.lemmas.Bool.{false≢true}
use Rattle.std.proofs.lemmas.Option.{none-some, same_Some}
use Rattle.tac_ir.specs.Code.{Tac}
use Rattle.tac_ir.specs.Groups.{IsIn, IsAmong, AreGroups}
use Rattle.heap_graph.specs.Closed.{is_in, group_from}

-- ---- what is in a group

pub in_is : (number : ℕ) (group : List ℕ) → is_in number group ≡ true → IsIn number group
in_is number [] e = absurd (false≢true e)
in_is number (first ∷ others) e = by (λ rest. in_is number others rest) (first == number) refl e
  where
    by : (is_in number others ≡ true → IsIn number others) → (b : Bool) → (first == number) ≡ b → (b || is_in number others) ≡ true → (number ≡ first) ⊎ IsIn number others
    by later true same _ = inl (sym (eqb-true first number same))
    by later false _ rest = inr (later rest)

pub is_then_in : (number : ℕ) (group : List ℕ) → IsIn number group → is_in number group ≡ true
is_then_in number [] is = absurd is
is_then_in number (first ∷ others) (inl same) = ap (λ b. b || is_in number others) (eq-eqb first number (sym same))
is_then_in number (first ∷ others) (inr is) = by (first == number) (is_then_in number others is)
  where
    by : (b : Bool) → is_in number others ≡ true → (b || is_in number others) ≡ true
    by true _ = refl
    by false rest = rest

-- ---- where a group stands

pub record Stands (groups : List (List ℕ)) (at : ℕ) (group : List ℕ) : Type 0 where
  pub before : List (List ℕ)
  pub after : List (List ℕ)
  pub is : groups ≡ before ++ group ∷ after
  pub count : length before ≡ at

pub stands : (groups : List (List ℕ)) (at : ℕ) (group : List ℕ) → slice_get groups at ≡ Some group → Stands groups at group
stands [] at group e = absurd (none-some group e)
stands (first ∷ groups) zero group e = record { before = []; after = groups; is = ap (λ g. g ∷ groups) (same_Some first group e); count = refl }
stands (first ∷ groups) (suc at) group e =
    let rest = stands groups at group e in
    record { before = first ∷ rest.before; after = rest.after; is = ap (λ gs. first ∷ gs) rest.is; count = ap suc rest.count }

among_front : (number : ℕ) (before after : List (List ℕ)) → IsAmong number before → IsAmong number (before ++ after)
among_front number [] after is = absurd is
among_front number (first ∷ before) after (inl is) = inl is
among_front number (first ∷ before) after (inr is) = inr (among_front number before after is)

counted : (count number : ℕ) (before after : List (List ℕ)) (group : List ℕ) → (IsAmong number before → ⊥) → is_in number group ≡ true → group_from count (before ++ group ∷ after) number ≡ count + length before
counted count number [] after group apart here = ap (λ b. cond b count (group_from (suc count) after number)) here ∙ omega arith
counted count number (first ∷ before) after group apart here = by (counted (suc count) number before after group (λ is. apart (inr is)) here) (is_in number first) refl
  where
    by : group_from (suc count) (before ++ group ∷ after) number ≡ suc count + length before → (b : Bool) → is_in number first ≡ b
        → cond b count (group_from (suc count) (before ++ group ∷ after) number) ≡ count + suc (length before)
    by rest true e = absurd (apart (inl (in_is number first e)))
    by rest false e = rest ∙ omega arith

pub own_number : (tac : Tac) (groups : List (List ℕ)) → AreGroups tac groups → (at number : ℕ) (group : List ℕ) → slice_get groups at ≡ Some group → is_in number group ≡ true
    → group_from 0 groups number ≡ at
own_number tac groups are at number group found here =
    let place = stands groups at group found in
    let apart : IsAmong number place.before → ⊥ = λ is. are.once place.before place.after group number place.is (in_is number group here) (among_front number place.before place.after is) in
    ap (λ gs. group_from 0 gs number) place.is ∙ (counted 0 number place.before place.after group apart here ∙ omega (arith, place.count))

-- ---- and what has the number of a group is in it

is_found : (count number : ℕ) (groups : List (List ℕ)) → IsAmong number groups → (at : ℕ) × (group : List ℕ) × (group_from count groups number ≡ count + at) × (slice_get groups at ≡ Some group) × (is_in number group ≡ true)
is_found count number [] is = absurd is
is_found count number (first ∷ groups) is = by (λ rest. is_found (suc count) number groups rest) (is_in number first) refl is
  where
    by : (IsAmong number groups → (at : ℕ) × (group : List ℕ) × (group_from (suc count) groups number ≡ suc count + at) × (slice_get groups at ≡ Some group) × (is_in number group ≡ true))
        → (b : Bool) → is_in number first ≡ b → IsIn number first ⊎ IsAmong number groups
        → (at : ℕ) × (group : List ℕ) × (cond b count (group_from (suc count) groups number) ≡ count + at) × (slice_get (first ∷ groups) at ≡ Some group) × (is_in number group ≡ true)
    by later true e _ = (0, first, omega arith, refl, e)
    by later false e (inl here) = absurd (false≢true (sym e ∙ is_then_in number first here))
    by later false e (inr rest) = let found = later rest in (suc found.0, found.1, found.2 ∙ omega arith, found.3, found.4)

pub in_own : (tac : Tac) (groups : List (List ℕ)) → AreGroups tac groups → (at number : ℕ) → number < length tac.functions → group_from 0 groups number ≡ at
    → (group : List ℕ) × (slice_get groups at ≡ Some group) × (is_in number group ≡ true)
in_own tac groups are at number within is =
    let found = is_found 0 number groups (are.all number within) in
    let same : found.0 ≡ at = omega (arith, found.2, is) in
    (found.1, ap (λ k. slice_get groups k) (sym same) ∙ found.3, found.4)

pub among_at : (before after : List (List ℕ)) (group : List ℕ) (number : ℕ) (groups : List (List ℕ)) → groups ≡ before ++ group ∷ after → IsIn number group → IsAmong number groups
among_at before after group number groups is here = subst (IsAmong number) (sym is) (behind before)
  where
    behind : (before : List (List ℕ)) → IsAmong number (before ++ group ∷ after)
    behind [] = inl here
    behind (first ∷ others) = inr (behind others)

-- numbers of groups count up
above : (count number : ℕ) (groups : List (List ℕ)) → count ≤ group_from count groups number
above count number [] = omega arith
above count number (first ∷ groups) = by (above (suc count) number groups) (is_in number first)
  where
    by : suc count ≤ group_from (suc count) groups number → (b : Bool) → count ≤ cond b count (group_from (suc count) groups number)
    by later true = omega arith
    by later false = omega (arith, later)

-- a number of a group within the list tells that the function is in the group there
found_at : (count number at : ℕ) (groups : List (List ℕ)) → group_from count groups number ≡ count + at → at < length groups
    → (group : List ℕ) × (slice_get groups at ≡ Some group) × (is_in number group ≡ true)
found_at count number at [] is within = absurd (omega (arith, within))
found_at count number zero (first ∷ groups) is within = by (is_in number first) refl is
  where
    by : (b : Bool) → is_in number first ≡ b → cond b count (group_from (suc count) groups number) ≡ count + 0 → (group : List ℕ) × (Some first ≡ Some group) × (is_in number group ≡ true)
    by true e _ = (first, refl, e)
    by false e later = absurd (let least = above (suc count) number groups in omega (arith, least, later))
found_at count number (suc at) (first ∷ groups) is within = by (λ e. found_at (suc count) number at groups e (omega (arith, within))) (is_in number first) refl is
  where
    by : (group_from (suc count) groups number ≡ suc count + at → (group : List ℕ) × (slice_get groups at ≡ Some group) × (is_in number group ≡ true))
        → (b : Bool) → is_in number first ≡ b → cond b count (group_from (suc count) groups number) ≡ count + suc at
        → (group : List ℕ) × (slice_get groups at ≡ Some group) × (is_in number group ≡ true)
    by later true e is = absurd (omega (arith, is))
    by later false e is = later (is ∙ omega arith)

pub in_own_at : (number : ℕ) (groups : List (List ℕ)) (at : ℕ) → group_from 0 groups number ≡ at → at < length groups
    → (group : List ℕ) × (slice_get groups at ≡ Some group) × (is_in number group ≡ true)
in_own_at number groups at is within = found_at 0 number at groups (is ∙ omega arith) within
