-- The functions of a group in memory are those of the group of its number.
use Rattle.std.proofs.Common.{◌≡◌, ◌↔◌, ℕ, ◌<◌, Bool, true, false, not, List, [], ◌∷◌, ◌++◌, length, zero, suc, Option, Some, None, refl, sym, ap, ◌∙◌, ◌⊎◌, inl, inr, arith, eqb-true, eq-eqb, lt-ltb, ltb-true}
use Rattle.std.specs.Prelude.{slice_get}
use Rattle.std.proofs.lemmas.Bool.{false≢true, true≢false, false_from_ne_true}
use Rattle.std.proofs.lemmas.List.{length-map}
use Rattle.std.proofs.lemmas.Option.{same_Some, slice_get_within}
use Rattle.tac_ir.specs.declared.program.Tac as memory_tac
use Rattle.tac_ir.specs.Code.{Callee}
use Rattle.tac_ir.specs.States.{InStart, InFunction}
use Rattle.tac_ir.specs.Views.{function_in, tac_of}
use Rattle.tac_ir.specs.Groups.{IsAmong, Makes, Calls, by_call}
use Rattle.tac_ir.specs.Targets.{is_target}
use Rattle.call_graph.proofs.RowLists.{some_at}
use Rattle.call_graph.specs.declared.group_lists.Groups.{Groups}
use Rattle.call_graph.specs.GroupViews.{groups_of}
use Rattle.heap_graph.specs.Closed.{is_in, group_from, group_of, same_group}
use Rattle.heap_graph.specs.declared.program.ProgramGraphs.{ProgramGraphs}
use Rattle.heap_graph.proofs.GroupNumbers.{in_is, is_then_in, stands, own_number, in_own, in_own_at, among_at}
use Rattle.dsa_local.specs.Members.{is_numbered}
use Rattle.dsa_inlining.specs.Before.{GraphsBefore, is_inside, is_out}
use Rattle.dsa_bottom_up.specs.AssembledGroups.Making.{IsGrouped, family_at, is_below, is_before}

-- two tests are one where each tells the other
pub one_test : (a b : Bool) → (a ≡ true → b ≡ true) → (b ≡ true → a ≡ true) → a ≡ b
one_test true b first then = sym (first refl)
one_test false b first then = sym (false_from_ne_true b (λ is. false≢true (then is)))

numbered_is : (number : ℕ) (found : Option ℕ) → is_numbered number found ≡ true → found ≡ Some number
numbered_is number None is = absurd (false≢true is)
numbered_is number (Some other) is = ap Some (eqb-true other number is)

below_is : (number : ℕ) (found : Option ℕ) → is_below number found ≡ true → (group : ℕ) × (found ≡ Some group) × (group < number)
below_is number None is = absurd (false≢true is)
below_is number (Some group) is = (group, refl, ltb-true group number is)

get_front : {X : Type 0} (front back : List X) (at : ℕ) → at < length front → slice_get (front ++ back) at ≡ slice_get front at
get_front [] back at less = absurd (omega (arith, less))
get_front (x ∷ front) back zero less = refl
get_front (x ∷ front) back (suc at) less = get_front front back at (omega (arith, less))

-- what is in one of the lists stands in it at its place
place_among : (number : ℕ) (lists : List (List ℕ)) → IsAmong number lists → (at : ℕ) × (list : List ℕ) × (slice_get lists at ≡ Some list) × (is_in number list ≡ true)
place_among number [] is = absurd is
place_among number (first ∷ lists) (inl here) = (0, first, refl, is_then_in number first here)
place_among number (first ∷ lists) (inr later) = let found = place_among number lists later in (suc found.0, found.1, found.2, found.3)

module _ (groups : Groups) where
  -- ---- the number of a function's group, where it is noted

  pub inside_noted : (number called : ℕ) → is_inside groups (Some number) called ≡ true → slice_get groups.group_of.items called ≡ Some number
  inside_noted number called is = numbered_is number (slice_get groups.group_of.items called) is

  pub noted_inside : (number called : ℕ) → slice_get groups.group_of.items called ≡ Some number → is_inside groups (Some number) called ≡ true
  noted_inside number called is = ap (is_numbered number) is ∙ eq-eqb number number refl

  pub before_noted : (number called : ℕ) → is_before groups number called ≡ true → (group : ℕ) × (slice_get groups.group_of.items called ≡ Some group) × (group < number)
  before_noted number called is = below_is number (slice_get groups.group_of.items called) is

  pub noted_before : (number called group : ℕ) → slice_get groups.group_of.items called ≡ Some group → group < number → is_before groups number called ≡ true
  noted_before number called group is less = ap (is_below number) is ∙ lt-ltb group number less

module _ (tac : memory_tac.Tac) (groups : Groups) (grouped : IsGrouped tac groups) where
  -- ---- and in which list the function stands

  pub listed_within : (number called : ℕ) (list : List ℕ) → slice_get (groups_of groups) number ≡ Some list → is_in called list ≡ true → called < length (tac_of tac).functions
  listed_within number called list at is =
      let place = stands (groups_of groups) number list at in
      grouped.groups.only called (among_at place.before place.after list called (groups_of groups) place.is (in_is called list is))

  pub listed_inside : (number called : ℕ) (list : List ℕ) → slice_get (groups_of groups) number ≡ Some list → is_in called list ≡ true → is_inside groups (Some number) called ≡ true
  listed_inside number called list at is =
      let within = listed_within number called list at is in
      let long = grouped.of.each in
      let many = length-map tac.functions.items (function_in tac.types) in
      let found = some_at groups.group_of.items called (omega (arith, within, long, many)) in
      let place = grouped.of.group called found.0 found.1 in
      let own = own_number (tac_of tac) (groups_of groups) grouped.groups number called list at is in
      let other = own_number (tac_of tac) (groups_of groups) grouped.groups found.0 called place.0 place.1 (is_then_in called place.0 place.2) in
      noted_inside groups number called (found.1 ∙ ap Some (sym other ∙ own))

  pub inside_listed : (number called : ℕ) → is_inside groups (Some number) called ≡ true → (list : List ℕ) × (slice_get (groups_of groups) number ≡ Some list) × (is_in called list ≡ true)
  inside_listed number called is =
      let place = grouped.of.group called number (inside_noted groups number called is) in
      (place.0, place.1, is_then_in called place.0 place.2)

  -- a function of a group is one of the group's list
  pub inside_is : (number : ℕ) (list : List ℕ) → slice_get (groups_of groups) number ≡ Some list → (called : ℕ) → is_inside groups (Some number) called ≡ is_in called list
  inside_is number list at called =
      one_test (is_inside groups (Some number) called) (is_in called list)
      (λ is.
      let place = inside_listed number called is in
      ap (is_in called) (same_Some list place.0 (sym at ∙ place.1)) ∙ place.2)
      (λ is. listed_inside number called list at is)

  pub inside_within : (number called : ℕ) → is_inside groups (Some number) called ≡ true → called < length (tac_of tac).functions
  inside_within number called is = let place = inside_listed number called is in listed_within number called place.0 place.1 place.2

  pub inside_group : (number called : ℕ) → is_inside groups (Some number) called ≡ true → number < length (groups_of groups)
  inside_group number called is = let place = inside_listed number called is in slice_get_within (groups_of groups) number place.0 place.1

  -- ---- the number of a group by its place

  pub inside_number : (number called : ℕ) → is_inside groups (Some number) called ≡ true → group_from 0 (groups_of groups) called ≡ number
  inside_number number called is = let place = inside_listed number called is in own_number (tac_of tac) (groups_of groups) grouped.groups number called place.0 place.1 place.2

  pub number_inside : (number called : ℕ) → called < length (tac_of tac).functions → group_from 0 (groups_of groups) called ≡ number → is_inside groups (Some number) called ≡ true
  number_inside number called within is = let place = in_own (tac_of tac) (groups_of groups) grouped.groups number called within is in listed_inside number called place.0 place.1 place.2

  -- ---- callees

  -- all functions of the program are in groups
  pub all_before : (called : ℕ) → called < length (tac_of tac).functions → is_before groups (length (groups_of groups)) called ≡ true
  all_before called within =
      let found = place_among called (groups_of groups) (grouped.groups.all called within) in
      noted_before groups (length (groups_of groups)) called found.0 (inside_noted groups found.0 called (listed_inside found.0 called found.1 found.2 found.3)) (slice_get_within (groups_of groups) found.0 found.1 found.2)

  -- what a function of a group calls is of the group or of one before
  pub callee_known : (number own called : ℕ) → is_inside groups (Some number) own ≡ true → Calls (tac_of tac) own called → (is_inside groups (Some number) called ≡ true) ⊎ (is_before groups number called ≡ true)
  callee_known number own called is calls =
      let place = inside_listed number own is in
      let at = stands (groups_of groups) number place.0 place.1 in
      elim (grouped.groups.ready at.before at.after place.0 at.is own called (in_is own place.0 place.2) calls) [
        | inl here ↦ inl (listed_inside number called place.0 place.1 (is_then_in called place.0 here))
        | inr earlier ↦
            let found = place_among called at.before earlier in
            let less = slice_get_within at.before found.0 found.1 found.2 in
            let count = at.count in
            let there : slice_get (groups_of groups) found.0 ≡ Some found.1 = ap (λ gs. slice_get gs found.0) at.is ∙ (get_front at.before (place.0 ∷ at.after) found.0 less ∙ found.2) in
            inr (noted_before groups number called found.0 (inside_noted groups found.0 called (listed_inside found.0 called found.1 there found.3)) (omega (arith, less, count)))
      ]

  pub target_known : (number own called : ℕ) (callee : Callee) → is_inside groups (Some number) own ≡ true → Makes (tac_of tac) own callee → is_target (tac_of tac) callee called ≡ true
      → (is_inside groups (Some number) called ≡ true) ⊎ (is_before groups number called ≡ true)
  target_known number own called callee is makes target = callee_known number own called is (by_call callee makes target)

  -- one that is outside is of a group before
  pub outer_before : (number own called : ℕ) (callee : Callee) → is_inside groups (Some number) own ≡ true → Makes (tac_of tac) own callee → is_target (tac_of tac) callee called ≡ true
      → is_out groups (Some number) called ≡ true → is_before groups number called ≡ true
  outer_before number own called callee is makes target out = elim (target_known number own called callee is makes target) [ inl inside ↦ absurd (false≢true (sym (ap not inside) ∙ out)) | inr earlier ↦ earlier ]

-- ---- in the graphs of the program

module _ (before : GraphsBefore) (all : ProgramGraphs) (grouped : IsGrouped before.tac before.groups) where
  -- a function of the program is of the group of this number
  pub inside_group_of : (number called : ℕ) → called < length (tac_of before.tac).functions → (is_inside before.groups (Some number) called ≡ true) ↔ (group_of (family_at before all) called ≡ number)
  inside_group_of number called within = (inside_number before.tac before.groups grouped number called, number_inside before.tac before.groups grouped number called within)

  -- what has the group of one that is inside is inside
  pub same_inside : (number own called : ℕ) → is_inside before.groups (Some number) own ≡ true → same_group (family_at before all) (InFunction own) called ≡ true → is_inside before.groups (Some number) called ≡ true
  same_inside number own called is same =
      let one = inside_number before.tac before.groups grouped number own is in
      let other = eqb-true (group_of (family_at before all) own) (group_of (family_at before all) called) same in
      let place = in_own_at called (groups_of before.groups) number (sym other ∙ one) (inside_group before.tac before.groups grouped number own is) in
      listed_inside before.tac before.groups grouped number called place.0 place.1 place.2

  pub inside_same : (number own called : ℕ) → is_inside before.groups (Some number) own ≡ true → is_inside before.groups (Some number) called ≡ true → same_group (family_at before all) (InFunction own) called ≡ true
  inside_same number own called is inside =
      eq-eqb (group_of (family_at before all) own) (group_of (family_at before all) called)
      (inside_number before.tac before.groups grouped number own is ∙ sym (inside_number before.tac before.groups grouped number called inside))

  -- so what has another is outside, and what is outside has another
  pub apart_out : (number own called : ℕ) → is_inside before.groups (Some number) own ≡ true → same_group (family_at before all) (InFunction own) called ≡ false → is_out before.groups (Some number) called ≡ true
  apart_out number own called is apart =
      ap not (false_from_ne_true (is_inside before.groups (Some number) called) (λ inside. true≢false (sym (inside_same number own called is inside) ∙ apart)))

  pub out_apart : (number own called : ℕ) → is_inside before.groups (Some number) own ≡ true → is_out before.groups (Some number) called ≡ true → same_group (family_at before all) (InFunction own) called ≡ false
  out_apart number own called is out =
      false_from_ne_true (same_group (family_at before all) (InFunction own) called) (λ same. false≢true (sym (ap not (same_inside number own called is same)) ∙ out))

-- all is outside of `start`
pub start_apart : (before : GraphsBefore) (all : ProgramGraphs) (called : ℕ) → same_group (family_at before all) InStart called ≡ false
start_apart before all called = refl

pub start_out : (groups : Groups) (called : ℕ) → is_out groups None called ≡ true
start_out groups called = refl
