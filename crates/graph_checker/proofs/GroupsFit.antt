-- Calls come to functions of the program, in the same group or in one before.
use Rattle.std.proofs.Common.{◌≡◌, ℕ, suc, ◌+◌, ◌<◌, Bool, true, false, cond, List, [], ◌∷◌, ◌++◌, length, Option, Some, None, ◌⊎◌, inl, inr, refl, sym, ap, subst, ◌∙◌, arith, eqb-true}
use Rattle.std.specs.Prelude.{slice_get}
use Rattle.std.proofs.lemmas.Bool.{false≢true, and_parts}
use Rattle.std.proofs.lemmas.List.{length-map}
use Rattle.std.proofs.lemmas.Option.{slice_get_within}
use Rattle.tac_ir.specs.declared.register.Register.{Register}
use Rattle.tac_ir.specs.Code as O
use Rattle.tac_ir.specs.Code.{Callee, Known, Through, Function, Op, Tac}
use Rattle.tac_ir.specs.States.{Owner}
use Rattle.tac_ir.specs.Views.{tac_of, function_in}
use Rattle.tac_ir.specs.Targets.{is_target, is_taken, has_type}
use Rattle.tac_ir.specs.Groups.{IsIn, IsAmong, Makes, by_call}
use Rattle.call_graph.specs.ClassLists.{numbers_of}
use Rattle.call_graph.specs.GroupViews.{groups_of}
use Rattle.heap_graph.specs.Closed.{is_in, group_from, group_of}
use Rattle.heap_graph.proofs.GroupNumbers.{in_is, is_then_in, stands, own_number, in_own}
use Rattle.graph_checker.specs.declared.program.Program.{Program}
use Rattle.graph_checker.specs.Programs.{family_of}
use Rattle.graph_checker.specs.Fits.{CallFits, OpFits, AllFit, IsFit}
use Rattle.heap_graph.proofs.Whole.{each_at, at_each, CallsWithin}

-- a function of one of the first groups has the number of one of these
among_first : (count number : ℕ) (before after : List (List ℕ)) → IsAmong number before → group_from count (before ++ after) number < count + length before
among_first count number [] after is = absurd is
among_first count number (group ∷ before) after is = by (λ rest. among_first (suc count) number before after rest) (is_in number group) refl is
  where
    by : (IsAmong number before → group_from (suc count) (before ++ after) number < suc count + length before) → (test : Bool) → is_in number group ≡ test → IsIn number group ⊎ IsAmong number before
        → cond test count (group_from (suc count) (before ++ after) number) < count + suc (length before)
    by later true e _ = omega arith
    by later false e (inl here) = absurd (false≢true (sym e ∙ is_then_in number group here))
    by later false e (inr rest) = let less = later rest in omega (arith, less)

pub op_fits : (program : Program) (group : Option ℕ) (op : Op) → ((site : ℕ) (callee : Callee) (arguments : List Register) → op ≡ O.Call site callee arguments → CallFits program group callee)
    → OpFits program group op
op_fits program group O.Reserved call = tt
op_fits program group (O.Jump to) call = tt
op_fits program group (O.Branch int_type condition holds fails) call = tt
op_fits program group (O.Assign to tree) call = tt
op_fits program group (O.Null to) call = tt
op_fits program group (O.FunctionAddress to function) call = tt
op_fits program group (O.Copy to from) call = tt
op_fits program group (O.Test to pointer) call = tt
op_fits program group (O.Move to pointer element is_minus number) call = tt
op_fits program group (O.Difference to element left right) call = tt
op_fits program group (O.ComparePointers to relation left right) call = tt
op_fits program group (O.Repoint to target from) call = tt
op_fits program group (O.AddressOf to path) call = tt
op_fits program group (O.Load to scalar path) call = tt
op_fits program group (O.Store path scalar value) call = tt
op_fits program group (O.Allocate site size) call = tt
op_fits program group (O.Free site pointer) call = tt
op_fits program group (O.Call site callee arguments) call = call site callee arguments refl
op_fits program group (O.GetChar site) call = tt
op_fits program group (O.PutChar site value) call = tt
op_fits program group (O.Exit status) call = tt
op_fits program group (O.Return value) call = tt

module _ (program : Program) (fit : IsFit program) where
  abbrev tac : Tac
  tac = tac_of program.tac.now

  abbrev groups : List (List ℕ)
  groups = groups_of program.groups.now

  pub as_many : length tac.functions ≡ length program.tac.now.functions.items
  as_many = length-map program.tac.now.functions.items (function_in program.tac.now.types)

  pub many_groups : length groups ≡ length program.groups.now.members.items
  many_groups = length-map program.groups.now.members.items (λ members. numbers_of members.items)

  target_within : (callee : Callee) (called : ℕ) → ((function : ℕ) → callee ≡ Known function → function < length program.tac.now.functions.items) → is_target tac callee called ≡ true
      → called < length program.tac.now.functions.items
  target_within (Known function) called known is = subst (λ n. n < length program.tac.now.functions.items) (eqb-true function called is) (known function refl)
  target_within (Through pointer c_type) called known is = by (slice_get tac.functions called) refl (and_parts (is_taken tac called) _ is).1
    where
      by : (found : Option Function) → slice_get tac.functions called ≡ found → has_type c_type found ≡ true → called < length program.tac.now.functions.items
      by None e has = absurd (false≢true has)
      by (Some function) e has = omega (arith, slice_get_within tac.functions called function e, as_many)

  -- ---- of a group

  module _ (own : ℕ) (within : own < length program.tac.now.functions.items) where
    abbrev at : ℕ
    at = group_of (family_of program) own

    called_before : (callee : Callee) → Makes tac own callee → (called : ℕ) → is_target tac callee called ≡ true → (Some at ≡ Some (group_of (family_of program) called) → ⊥)
        → group_of (family_of program) called < at
    called_before callee makes called target other =
        let are = fit.whole.groups in
        let home = in_own tac groups are at own (omega (arith, within, as_many)) refl in
        let place = stands groups at home.0 home.1 in
        by home.0 home.1 place.before place.after place.is place.count (are.ready place.before place.after home.0 place.is own called (in_is own home.0 home.2) (by_call callee makes target))
      where
        by : (group : List ℕ) → slice_get groups at ≡ Some group → (before after : List (List ℕ)) → groups ≡ before ++ group ∷ after → length before ≡ at → IsIn called group ⊎ IsAmong called before
            → group_of (family_of program) called < at
        by group found before after is count (inl inside) =
            absurd (other (ap Some (sym (own_number tac groups fit.whole.groups at called group found (is_then_in called group inside)))))
        by group found before after is count (inr among) =
            let less : group_from 0 (before ++ group ∷ after) called < 0 + length before = among_first 0 called before (group ∷ after) among in
            let same : group_from 0 groups called ≡ group_from 0 (before ++ group ∷ after) called = ap (λ gs. group_from 0 gs called) is in
            omega (arith, less, same, count)

    member_fits : (callee : Callee) → Makes tac own callee → CallFits program (Some at) callee
    member_fits callee makes = record {
      within = λ called target.
          target_within callee called (λ function same. let less = fit.known own function (subst (Makes tac own) same makes) in omega (arith, less, as_many)) target;
      before = called_before callee makes;
    }

    pub points_fit : (function : Function) → slice_get tac.functions own ≡ Some function → AllFit program (Some at) function.points
    points_fit function is =
        each_at (OpFits program (Some at)) function.points
        (λ k op found.
        op_fits program (Some at) op
        (λ site callee arguments same.
        member_fits callee (record { function = function; is = is; at = k; site = site; arguments = arguments; point = found ∙ ap Some same })))

  -- ---- of `start`

  pub group_below : (called : ℕ) → called < length program.tac.now.functions.items → group_of (family_of program) called < length program.groups.now.members.items
  group_below called within =
      let home = in_own tac groups fit.whole.groups (group_of (family_of program) called) called (omega (arith, within, as_many)) refl in
      let less = slice_get_within groups (group_of (family_of program) called) home.0 home.1 in
      omega (arith, less, many_groups)

  first_fits : (at site : ℕ) (callee : Callee) (arguments : List Register) → slice_get tac.start.points at ≡ Some (O.Call site callee arguments) → CallFits program None callee
  first_fits at site callee arguments is = record { within = within; before = λ called target other. group_below called (within called target) }
    where
      within : (called : ℕ) → is_target tac callee called ≡ true → called < length program.tac.now.functions.items
      within called target = target_within callee called (λ function same. fit.known_first at site function arguments (is ∙ ap (λ c. Some (O.Call site c arguments)) same)) target

  pub start_fits : AllFit program None tac.start.points
  start_fits = each_at (OpFits program None) tac.start.points (λ k op found. op_fits program None op (λ site callee arguments same. first_fits k site callee arguments (found ∙ ap Some same)))

  -- ---- what fits comes to functions of the program

  pub calls_within : (group : Option ℕ) (owner : Owner) (function : Function) → AllFit program group function.points → CallsWithin (family_of program) owner function
  calls_within group owner function fits at site callee arguments called is target =
      let less = (at_each (OpFits program group) function.points fits at (O.Call site callee arguments) is).within called target in
      omega (arith, less, as_many)
