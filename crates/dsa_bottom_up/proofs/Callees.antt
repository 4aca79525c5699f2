-- What the functions of a group call is in it or in a group before.
use Rattle.std.proofs.Common.{◌≡◌, ℕ, suc, ◌+◌, ◌<◌, ◌⊎◌, inl, inr, Bool, true, false, cond, List, [], ◌∷◌, ◌++◌, length, refl, sym, ap, ◌∙◌, arith}
use Rattle.std.specs.Prelude.{slice_get, Some}
use Rattle.std.proofs.lemmas.Bool.{false≢true}
use Rattle.std.proofs.lemmas.Option.{slice_get_within}
use Rattle.tac_ir.specs.Code.{Tac}
use Rattle.tac_ir.specs.Groups.{IsIn, IsAmong, Calls, AreGroups}
use Rattle.heap_graph.specs.Closed.{is_in, group_from}
use Rattle.heap_graph.proofs.GroupNumbers.{in_is, is_then_in, stands, in_own}

-- the number of a group that stands in front
in_front : (count number : ℕ) (before rest : List (List ℕ)) → IsAmong number before → group_from count (before ++ rest) number < count + length before
in_front count number [] rest is = absurd is
in_front count number (first ∷ before) rest is = by (is_in number first) refl is (in_front (suc count) number before rest)
  where
    by : (b : Bool) → is_in number first ≡ b → IsIn number first ⊎ IsAmong number before → (IsAmong number before → group_from (suc count) (before ++ rest) number < suc count + length before)
        → cond b count (group_from (suc count) (before ++ rest) number) < count + suc (length before)
    by true e is later = omega arith
    by false e (inl here) later = absurd (false≢true (sym e ∙ is_then_in number first here))
    by false e (inr is) later = let less = later is in omega (arith, less)

module _ (tac : Tac) (groups : List (List ℕ)) (are : AreGroups tac groups) where
  pub callee_less : (number caller called : ℕ) (group : List ℕ) → slice_get groups number ≡ Some group → is_in caller group ≡ true → Calls tac caller called → (is_in called group ≡ true) ⊎ (group_from 0 groups called < number)
  callee_less number caller called group row inside calls =
      let place = stands groups number group row in
      elim (are.ready place.before place.after group place.is caller called (in_is caller group inside) calls) [
        | inl here ↦ inl (is_then_in called group here)
        | inr earlier ↦ inr (
            let less = in_front 0 called place.before (group ∷ place.after) earlier in
            let same = ap (λ gs. group_from 0 gs called) place.is in
            let count = place.count in
            omega (arith, less, same, count))
      ]

  -- each function is in a group
  pub all_within : (called : ℕ) → called < length tac.functions → group_from 0 groups called < length groups
  all_within called within =
      let found = in_own tac groups are (group_from 0 groups called) called within refl in
      slice_get_within groups (group_from 0 groups called) found.0 found.1
