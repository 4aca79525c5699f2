-- Two families of a program whose graphs of the groups below a number are closed and the least count as many nodes for the group of this number.
use Rattle.std.proofs.Common.{◌≡◌, ℕ, zero, suc, ◌<◌, ◌≤◌, inl, inr, Bool, true, false, not, List, [], ◌∷◌, map, length, get_or, Option, Some, None, refl, sym, ap, subst, ◌∙◌, arith}
use Rattle.std.specs.Prelude.{◌||◌, ◌==◌, slice_get, option_map}
use Rattle.std.proofs.lemmas.Bool.{false≢true, true≢false, and_parts, false_from_ne_true, eq-eqb}
use Rattle.std.proofs.lemmas.Option.{none-some, same_Some, slice_get-map}
use Rattle.tac_ir.specs.declared.register.Register.{Register}
use Rattle.tac_ir.specs.Code as O
use Rattle.tac_ir.specs.Code.{Callee, Function, Tac}
use Rattle.tac_ir.specs.States.{InFunction, function_of, points_of}
use Rattle.tac_ir.specs.Targets.{is_target}
use Rattle.tac_ir.specs.Groups.{AreGroups, Makes, by_call}
use Rattle.heap_graph.specs.Graphs.{Name, OfGlobal, OfLiteral, ProgramGraphs}
use Rattle.heap_graph.specs.Targets.{has_target}
use Rattle.heap_graph.specs.Closed.{Family, graph_of, group_from, is_in}
use Rattle.dsa_inlining.specs.Counting.{total, Outside, comes_out, group_count}
use Rattle.dsa_bottom_up.specs.Mapping.{GroupMaps, MapsBelow}
use Rattle.dsa_bottom_up.specs.Below.{ClosedBelow, LeastBelow}
use Rattle.dsa_bottom_up.specs.Refused.{IsOutsideOf, GroupCounts, StartCounts}
use Rattle.dsa_bottom_up.proofs.Callees.{callee_less, all_within}
use Rattle.dsa_bottom_up.proofs.RoundTrips.{family_with}
use Rattle.dsa_bottom_up.proofs.SameOutside.{escaping_fewer, told_too}
use Rattle.dsa_bottom_up.proofs.SameTotals.{CallAgrees, OwnersAgree, group_count_same, start_count_same}

-- two tests are one where each tells the other
one_test : (a b : Bool) → (a ≡ true → b ≡ true) → (b ≡ true → a ≡ true) → a ≡ b
one_test true b first then = sym (first refl)
one_test false b first then = sym (false_from_ne_true b (λ is. false≢true (then is)))

-- a function that stands in a group is in it
listed_in : (group : List ℕ) (place function : ℕ) → slice_get group place ≡ Some function → is_in function group ≡ true
listed_in [] place function is = absurd (none-some function is)
listed_in (first ∷ others) zero function is = ap (λ b. b || is_in function others) (eq-eqb first function (same_Some first function is))
listed_in (first ∷ others) (suc place) function is = by (first == function) (listed_in others place function is)
  where
    by : (b : Bool) → is_in function others ≡ true → (b || is_in function others) ≡ true
    by true rest = refl
    by false rest = rest

-- a function that has a call makes it
makes : (tac : Tac) (number at site : ℕ) (callee : Callee) (arguments : List Register) → slice_get (points_of (function_of tac (InFunction number))) at ≡ Some (O.Call site callee arguments) → Makes tac number callee
makes tac number at site callee arguments point = by (slice_get tac.functions number) refl point
  where
    by : (found : Option Function) → slice_get tac.functions number ≡ found → slice_get (points_of found) at ≡ Some (O.Call site callee arguments) → Makes tac number callee
    by None is there = absurd (none-some (O.Call site callee arguments) there)
    by (Some function) is there = record { function = function; is = is; at = at; site = site; arguments = arguments; point = there }

not_out : (b : Bool) → not b ≡ true → b ≡ false
not_out true is = absurd (false≢true is)
not_out false is = refl

module _ (tac : Tac) (groups : List (List ℕ)) (are : AreGroups tac groups) (first second : ProgramGraphs) (number : ℕ) (reach : number ≤ length groups)
    (one_closed : ClosedBelow (family_with tac groups first) number) (one_least : LeastBelow (family_with tac groups first) number)
    (two_closed : ClosedBelow (family_with tac groups second) number) (two_least : LeastBelow (family_with tac groups second) number) where
  abbrev one : Family
  one = family_with tac groups first

  abbrev two : Family
  two = family_with tac groups second

  there : (maps : GroupMaps) × MapsBelow (family_with tac groups first) (family_with tac groups second) number maps
  there = one_least second number (omega arith) two_closed

  back : (maps : GroupMaps) × MapsBelow (family_with tac groups second) (family_with tac groups first) number maps
  back = two_least first number (omega arith) one_closed

  told_same : (called : ℕ) → group_from 0 groups called < number → (name : Name) → has_target ((graph_of one (InFunction called)).targets name) ≡ has_target ((graph_of two (InFunction called)).targets name)
  told_same called below name =
      one_test (has_target ((graph_of one (InFunction called)).targets name)) (has_target ((graph_of two (InFunction called)).targets name))
      (told_too tac groups are first second number reach one_closed.groups there.0 back.0 there.1 back.1 called below name)
      (told_too tac groups are second first number reach two_closed.groups back.0 there.0 back.1 there.1 called below name)

  module _ (own : ℕ → Bool) (outside other : Outside) (told : IsOutsideOf (family_with tac groups first) own number outside) (told_other : IsOutsideOf (family_with tac groups second) own number other) where
    -- the same is told of what a call reaches, where that is of groups below
    call_agrees : (callee : Callee) → ((called : ℕ) → called < length tac.functions → is_target tac callee called ≡ true → own called ≡ false → group_from 0 groups called < number)
        → CallAgrees tac outside other callee
    call_agrees callee before = record {
      is_out = λ called less. told.is_out called less ∙ sym (told_other.is_out called less);
      escaping = λ called less comes.
          let below = under called less comes in
          let x = told.escaping called less below in
          let y = told_other.escaping called less below in
          let up = escaping_fewer tac groups are first second number reach one_closed.groups there.0 back.0 there.1 back.1 called below x.0 y.0 x.1 y.1 in
          let down = escaping_fewer tac groups are second first number reach two_closed.groups back.0 there.0 back.1 there.1 called below y.0 x.0 y.1 x.1 in
          let own_length = x.2 in
          let other_length = y.2 in
          omega (arith, up, down, own_length, other_length);
      globals = λ called place less comes.
          let below = under called less comes in
          told.globals called place less below ∙ (told_same called below (OfGlobal place) ∙ sym (told_other.globals called place less below));
      literals = λ called place less comes.
          let below = under called less comes in
          told.literals called place less below ∙ (told_same called below (OfLiteral place) ∙ sym (told_other.literals called place less below));
    }
      where
        under : (called : ℕ) → called < length tac.functions → comes_out tac outside callee called ≡ true → group_from 0 groups called < number
        under called less comes =
            let both = and_parts (is_target tac callee called) (outside.is_out called) comes in
            before called less both.0 (not_out (own called) (sym (told.is_out called less) ∙ both.1))

  -- ---- a group

  owners_agree : (group : List ℕ) → slice_get groups number ≡ Some group → (outside other : Outside) → IsOutsideOf (family_with tac groups first) (λ called. is_in called group) number outside
      → IsOutsideOf (family_with tac groups second) (λ called. is_in called group) number other → OwnersAgree tac outside other (map InFunction group)
  owners_agree group row outside other told told_other place owner is at site callee arguments point = by (slice_get group place) refl (sym (slice_get-map InFunction group place) ∙ is)
    where
      known : (function : ℕ) → slice_get group place ≡ Some function → InFunction function ≡ owner → CallAgrees tac outside other callee
      known function stands same =
          call_agrees (λ called. is_in called group) outside other told told_other callee
          (λ called less target out.
          elim (callee_less tac groups are number function called group row (listed_in group place function stands)
          (by_call callee (makes tac function at site callee arguments (ap (λ o. slice_get (points_of (function_of tac o)) at) same ∙ point)) target)) [
            | inl inner ↦ absurd (true≢false (sym inner ∙ out))
            | inr earlier ↦ earlier
          ])

      by : (found : Option ℕ) → slice_get group place ≡ found → option_map InFunction found ≡ Some owner → CallAgrees tac outside other callee
      by None e none = absurd (none-some owner none)
      by (Some function) e some = known function e (same_Some (InFunction function) owner some)

  pub same_counts : (counts : List ℕ) (n m : ℕ) → GroupCounts (family_with tac groups first) counts number n → GroupCounts (family_with tac groups second) counts number m → n ≡ m
  same_counts counts n m its others =
      let same : its.group ≡ others.group = same_Some its.group others.group (sym its.is ∙ others.is) in
      let told = subst (λ group. IsOutsideOf (family_with tac groups second) (λ called. is_in called group) number others.outside) (sym same) others.told in
      its.so_many
      ∙ (group_count_same tac its.outside others.outside (map InFunction its.group) (owners_agree its.group its.is its.outside others.outside its.told told) (total (λ function. get_or counts function 0) its.group)
      ∙ (ap (λ group. group_count tac others.outside (total (λ function. get_or counts function 0) group) (map InFunction group)) same ∙ sym others.so_many))

-- ---- `start`, whose calls are all of groups before

module _ (tac : Tac) (groups : List (List ℕ)) (are : AreGroups tac groups) (first second : ProgramGraphs)
    (one_closed : ClosedBelow (family_with tac groups first) (length groups)) (one_least : LeastBelow (family_with tac groups first) (length groups))
    (two_closed : ClosedBelow (family_with tac groups second) (length groups)) (two_least : LeastBelow (family_with tac groups second) (length groups)) where
  pub same_start_counts : (own n m : ℕ) → StartCounts (family_with tac groups first) own n → StartCounts (family_with tac groups second) own m → n ≡ m
  same_start_counts own n m its others =
      its.so_many
      ∙ (start_count_same tac its.outside others.outside
      (λ place owner is at site callee arguments point.
      call_agrees tac groups are first second (length groups) (omega arith) one_closed one_least two_closed two_least (λ called. false) its.outside others.outside its.told others.told callee
      (λ called less target out. all_within tac groups are called less)) own
      ∙ sym others.so_many)
