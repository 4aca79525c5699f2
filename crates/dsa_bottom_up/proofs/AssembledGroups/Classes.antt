-- Functions to which one call may come through a pointer are one, once their groups have their graphs.
use Rattle.std.proofs.Common.{◌≡◌, ◌⊎◌, ℕ, suc, true, List, Option, Some, None, ap, ◌∙◌, inl, inr, arith, eq-eqb, lt-ltb, ltb-true}
use Rattle.std.specs.Prelude.{slice_get}
use Rattle.std.proofs.lemmas.Bool.{false≢true, cases_lt}
use Rattle.std.proofs.lemmas.Option.{same_Some}
use Rattle.c_typed.specs.Types.{CType}
use Rattle.tac_ir.specs.declared.register.Register.{Register}
use Rattle.tac_ir.specs.Code as O
use Rattle.tac_ir.specs.Code.{Through, Function}
use Rattle.tac_ir.specs.States.{Owner, InStart, InFunction, function_of}
use Rattle.tac_ir.specs.Views.{tac_of}
use Rattle.tac_ir.specs.Targets.{is_target}
use Rattle.heap_graph.specs.Closed.{Family}
use Rattle.call_graph.specs.declared.group_lists.Groups.{Groups}
use Rattle.heap_graph.specs.declared.program.ProgramGraphs.{ProgramGraphs}
use Rattle.dsa_local.specs.Joined.{IsCalled}
use Rattle.dsa_local.specs.Members.{is_numbered}
use Rattle.dsa_bottom_up.specs.MadeGroups.Made.{AreClassesOne, AreCalleesOne}
use Rattle.dsa_inlining.specs.Before.{GraphsBefore, is_inside}
use Rattle.dsa_bottom_up.specs.AssembledGroups.Making.{IsGrouped, family_at, is_below, is_before}
use Rattle.dsa_bottom_up.proofs.Members.{target_known}

below_next : (number : ℕ) (found : Option ℕ) → is_below (suc number) found ≡ true → (is_below number found ≡ true) ⊎ (is_numbered number found ≡ true)
below_next number None is = absurd (false≢true is)
below_next number (Some group) is =
    let less = ltb-true group (suc number) is in
    elim (cases_lt group number) [ inl before ↦ inl (lt-ltb group number before) | inr last ↦ inr (eq-eqb group number (omega (arith, less, last))) ]

-- so they are of one group more
pub classes_next : (family : Family) (groups : Groups) (number : ℕ) → AreClassesOne family (is_before groups number) → AreClassesOne family (is_inside groups (Some number)) → AreClassesOne family (is_before groups (suc number))
classes_next family groups number before inside pointer c_type a b called first second is = elim (below_next number (slice_get groups.group_of.items a) is) [
  | inl earlier ↦ before pointer c_type a b called first second earlier
  | inr here ↦ inside pointer c_type a b called first second here
]

-- each function to which calls of the owner may come through pointers is of the group or of one before
abbrev pub AreCalleesKnown : GraphsBefore → ℕ → Owner → Type 0
AreCalleesKnown before number owner =
    (function : Function) (at site : ℕ) (pointer : Register) (c_type : CType) (arguments : List Register) (called : ℕ) → function_of (tac_of before.tac) owner ≡ Some function
    → slice_get function.points at ≡ Some (O.Call site (Through pointer c_type) arguments) → is_target (tac_of before.tac) (Through pointer c_type) called ≡ true
    → (is_inside before.groups (Some number) called ≡ true) ⊎ (is_before before.groups number called ≡ true)

pub callees_known : (before : GraphsBefore) → IsGrouped before.tac before.groups → (number own : ℕ) → is_inside before.groups (Some number) own ≡ true → AreCalleesKnown before number (InFunction own)
callees_known before grouped number own inside function at site pointer c_type arguments called is point target =
    target_known before.tac before.groups grouped number own called (Through pointer c_type) inside
    (record { function = function; is = is; at = at; site = site; arguments = arguments; point = point })
    target

pub callees_are_one : (before : GraphsBefore) (all : ProgramGraphs) (number : ℕ) (owner : Owner) → AreClassesOne (family_at before all) (is_inside before.groups (Some number))
    → AreClassesOne (family_at before all) (is_before before.groups number) → AreCalleesKnown before number owner → AreCalleesOne (family_at before all) owner
callees_are_one before all number owner inside earlier known function at site pointer c_type arguments a b is point first second =
    elim (known function at site pointer c_type arguments a is point first) [
      | inl here ↦ inside pointer c_type a b called first second here
      | inr there ↦ earlier pointer c_type a b called first second there
    ]
  where
    called : IsCalled (tac_of before.tac) (Through pointer c_type)
    called = record { caller = owner; function = function; is = is; at = at; site = site; arguments = arguments; point = point }

-- `start` calls functions by their names
pub start_calls_none : (before : GraphsBefore) → IsGrouped before.tac before.groups → (function : Function) (at site : ℕ) (pointer : Register) (c_type : CType) (arguments : List Register)
    → function_of (tac_of before.tac) InStart ≡ Some function → slice_get function.points at ≡ Some (O.Call site (Through pointer c_type) arguments) → ⊥
start_calls_none before grouped function at site pointer c_type arguments is point =
    grouped.stands.start at site pointer c_type arguments (ap (λ f. slice_get f.points at) (same_Some (tac_of before.tac).start function is) ∙ point)

pub start_callees_are_one : (before : GraphsBefore) (all : ProgramGraphs) → IsGrouped before.tac before.groups → AreCalleesOne (family_at before all) InStart
start_callees_are_one before all grouped function at site pointer c_type arguments a b is point first second =
    absurd (start_calls_none before grouped function at site pointer c_type arguments is point)
