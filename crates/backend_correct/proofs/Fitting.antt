-- Rewritten code fits into frames of the machine.
use Rattle.std.proofs.Common.{◌≡◌, ℕ, zero, suc, ◌+◌, ◌^◌, ◌<◌, ◌≤◌, Bool, true, false, List, [], ◌∷◌, length, map, Option, Some, None, refl, subst, arith}
use Rattle.std.specs.Prelude.{slice_get, if◌then◌else◌}
use Rattle.std.specs.List.{AllByRecursion}
use Rattle.std.proofs.lemmas.Option.{none-some, same_Some}
use Rattle.c_typed.specs.Types.{CType, Void, Integer, Pointer, Array, Struct, Function}
use Rattle.c_typed.specs.Layouts.{StructDef, layout_of}
use Rattle.c_typed.specs.Typed.{Program}
use Rattle.tac_ir.specs.declared.register.Local.{Local}
use Rattle.tac_ir.specs.declared.register.Local.TheVariants as L
use Rattle.tac_ir.specs.declared.register.Register.{Register}
use Rattle.tac_ir.specs.declared.register.Register.TheVariants as R
use Rattle.tac_ir.specs.Values.{same_local}
use Rattle.tac_ir.specs.Code.{Tree, Constant, Held, Convert, Complement, Not, Arithmetic, Compare, Operand, IntegerOperand, PointerOperand, LocalObject, Tac}
use Rattle.tac_ir.specs.Code as O
use Rattle.tac_ir.specs.States.{Owner, InStart, InFunction}
use Rattle.tac_build.specs.ProgramCode.{Code}
use Rattle.pool_isa.specs.Machine.{globals_start}
use Rattle.pool_ir.specs.Code.{Action, Make, Destroy, FrameLayout}
use Rattle.pool_ir.specs.Code as C
use Rattle.pool_ir.specs.Frames.{objects_start}
use Rattle.pool_ir.specs.States as P
use Rattle.pool_rewrite.specs.Plan.{FunctionPlan, Plan, one_pool_function, one_pool}
use Rattle.pool_rewrite.specs.Placing.{begins, end_behind, own_layouts, words_alone, frame_objects, frame_of, offset_of_local, statics_size}
use Rattle.pool_rewrite.specs.Rewriting.{slot_of, base_of, step_of, steps_of, path_of, op_of, function_of, functions_of, first_contents, rewritten}
use Rattle.pool_rewrite.proofs.AlignedLayouts.{aligned_above, aligned_layout}
use Rattle.stack_code.specs.Standing.{HasRegister, HasDescriptor, greatest_frame}
use Rattle.stack_code.specs.Fitting.{TreeFits, OperandFits, BaseFits, StepFits, PathFits, SlotFits, ValueFits, OpFits, ActionFits, PassesFew, FunctionFits, CodeFits}
use Rattle.backend_correct.specs.Named.{Has, TreeNamed, OperandNamed, BaseNamed, StepNamed, PathNamed, ValueNamed, OpNamed}
use Rattle.backend_correct.specs.Planned.{ActsWithin, AreFew, FunctionPlanned, Planned}
use Rattle.backend_correct.proofs.StackPremises.Functions.{registers_of, PointsNamed, points_named}

each : {A : Type 0} (P Q : A → Type 0) (xs : List A) → ((x : A) → P x → Q x) → AllByRecursion P xs → AllByRecursion Q xs
each P Q [] so all = tt
each P Q (x ∷ xs) so all = (so x all.0, each P Q xs so all.1)

-- ---- frames

begins_above : (structs : List StructDef) (front : ℕ) (own : CType) → front ≤ begins front (layout_of structs own)
begins_above structs front own = aligned_above (layout_of structs own).alignment front (aligned_layout structs own).one

end_above : (structs : List StructDef) (front : ℕ) (objects : List LocalObject) → front ≤ end_behind front (own_layouts structs objects)
end_above structs front [] = omega arith
end_above structs front (first ∷ others) =
    let begin = begins_above structs front first.c_type in
    let rest = end_above structs (begins front (layout_of structs first.c_type) + (layout_of structs first.c_type).size) others in
    by (begins front (layout_of structs first.c_type)) (layout_of structs first.c_type).size (end_behind (begins front (layout_of structs first.c_type) + (layout_of structs first.c_type).size) (own_layouts structs others)) begin rest
  where
    by : (begin size end : ℕ) → front ≤ begin → begin + size ≤ end → front ≤ end
    by begin size end low most = omega (arith, low, most)

offset_within : (structs : List StructDef) (front : ℕ) (objects : List LocalObject) (local : Local) → offset_of_local (frame_objects structs front objects) local ≤ end_behind front (own_layouts structs objects)
offset_within structs front [] local = omega arith
offset_within structs front (first ∷ others) local = by (same_local first.local local) (offset_within structs next others local) (end_above structs next others)
  where
    begin : ℕ
    begin = begins front (layout_of structs first.c_type)

    next : ℕ
    next = begin + (layout_of structs first.c_type).size

    by : (b : Bool) → offset_of_local (frame_objects structs next others) local ≤ end_behind next (own_layouts structs others) → next ≤ end_behind next (own_layouts structs others)
        → (if b then begin else offset_of_local (frame_objects structs next others) local) ≤ end_behind next (own_layouts structs others)
    by true rest above = whole begin (layout_of structs first.c_type).size (end_behind next (own_layouts structs others)) above
      where
        whole : (a size end : ℕ) → a + size ≤ end → a ≤ end
        whole a size end above = omega (arith, above)
    by false rest above = rest

-- ---- points

module _ (tac : Tac) (plan : FunctionPlan) (function : O.Function) where
  abbrev frame : FrameLayout
  frame = frame_of tac.structs plan function

  has_fits : (register : Register) → Has (registers_of function) register → HasRegister frame register
  has_fits (R.Local (L.Parameter number)) has = has
  has_fits (R.Local (L.Variable number)) has = has
  has_fits (R.Call number) has = has
  has_fits (R.Argument number) has = has
  has_fits (R.Expression number) has = has
  has_fits (R.Temporary number) has = has

  tree_fits : (tree : Tree) → TreeNamed (registers_of function) tree → TreeFits frame tree
  tree_fits (Constant z) named = tt
  tree_fits (Held register) named = has_fits register named
  tree_fits (Convert int_type operand) named = tree_fits operand named
  tree_fits (Complement int_type operand) named = tree_fits operand named
  tree_fits (Not int_type operand) named = tree_fits operand named
  tree_fits (Arithmetic operator int_type left right) named = (tree_fits left named.0, tree_fits right named.1)
  tree_fits (Compare relation int_type left right) named = (tree_fits left named.0, tree_fits right named.1)

  operand_fits : (operand : Operand) → OperandNamed (registers_of function) operand → OperandFits frame operand
  operand_fits (IntegerOperand tree) named = tree_fits tree named
  operand_fits (PointerOperand register) named = has_fits register named

  base_fits : (base : O.Base) → BaseNamed (registers_of function) base → BaseFits frame (base_of tac function.objects frame base).part
  base_fits (O.AtLocal local) named = offset_within tac.structs (objects_start (words_alone plan function)) function.objects local
  base_fits (O.AtGlobal number) named = tt
  base_fits (O.AtLiteral number) named = tt
  base_fits (O.Pointed pointer target) named = has_fits pointer named
  base_fits (O.Indexed pointer target number) named = (has_fits pointer named.0, tree_fits number named.1)

  steps_fit : (own : CType) (steps : List O.Step) → AllByRecursion (StepNamed (registers_of function)) steps → AllByRecursion (StepFits frame) (steps_of tac.structs own steps)
  steps_fit own [] named = tt
  steps_fit own (O.Member number ∷ others) named = (tt, steps_fit (step_of tac.structs own (O.Member number)).c_type others named.1)
  steps_fit own (O.Element index ∷ others) named = (tree_fits index named.0, steps_fit (step_of tac.structs own (O.Element index)).c_type others named.1)

  path_fits : (path : O.Path) → PathNamed (registers_of function) path → PathFits frame (path_of tac function.objects frame path)
  path_fits path named = (base_fits path.base named.0, steps_fit (base_of tac function.objects frame path.base).c_type path.steps named.1)

  slot_fits : (own : CType) → SlotFits frame (slot_of own)
  slot_fits (Integer int_type) = tt
  slot_fits Void = tt
  slot_fits (Pointer target) = tt
  slot_fits (Array element count) = tt
  slot_fits (Struct tag) = tt
  slot_fits (Function result parameters) = tt

  value_fits : (value : Option Operand) → ValueNamed (registers_of function) value → ValueFits frame value
  value_fits None named = tt
  value_fits (Some value) named = operand_fits value named

  module _ (most : ℕ) (planned : FunctionPlanned most plan) where
    op_fits : (op : O.Op) → OpNamed (registers_of function) op
        → OpFits frame (op_of tac plan function.objects frame op) × PassesFew most (op_of tac plan function.objects frame op)
    op_fits O.Reserved named = (tt, tt)
    op_fits (O.Jump to) named = (tt, tt)
    op_fits (O.Branch int_type condition holds fails) named = (tree_fits condition named, tt)
    op_fits (O.Assign to tree) named = ((has_fits to named.0, tree_fits tree named.1), tt)
    op_fits (O.Null to) named = (has_fits to named, tt)
    op_fits (O.FunctionAddress to number) named = (has_fits to named, tt)
    op_fits (O.Copy to from) named = ((has_fits to named.0, has_fits from named.1), tt)
    op_fits (O.Test to pointer) named = ((has_fits to named.0, has_fits pointer named.1), tt)
    op_fits (O.Move to pointer element is_minus number) named = ((has_fits to named.0, has_fits pointer named.1, tree_fits number named.2), tt)
    op_fits (O.Difference to element left right) named = ((has_fits to named.0, has_fits left named.1, has_fits right named.2), tt)
    op_fits (O.ComparePointers to relation left right) named = ((has_fits to named.0, has_fits left named.1, has_fits right named.2), tt)
    op_fits (O.Repoint to target from) named = ((has_fits to named.0, has_fits from named.1), tt)
    op_fits (O.AddressOf to path) named = ((has_fits to named.0, path_fits path named.1), tt)
    op_fits (O.Load to scalar path) named = ((has_fits to named.0, slot_fits scalar, path_fits path named.1), tt)
    op_fits (O.Store path scalar value) named = ((path_fits path named.0, slot_fits scalar, operand_fits value named.1), tt)
    op_fits (O.Allocate site size) named = ((has_fits (R.Call site) named.0, tree_fits size named.1, planned.pools site), tt)
    op_fits (O.Free site pointer) named = ((has_fits pointer named, planned.pools site), tt)
    op_fits (O.Call site (O.Known number) arguments) named = (
      (
        has_fits (R.Call site) named.0,
        tt,
        each (Has (registers_of function)) (HasRegister frame) arguments has_fits named.2,
        each (λ descriptor. descriptor < plan.descriptors) (HasDescriptor frame) (plan.passes site) (λ descriptor low. low) (planned.passes site).0,
      ),
      (planned.passes site).1,
    )
    op_fits (O.Call site (O.Through pointer own) arguments) named = (
      (
        has_fits (R.Call site) named.0,
        has_fits pointer named.1,
        each (Has (registers_of function)) (HasRegister frame) arguments has_fits named.2,
        each (λ descriptor. descriptor < plan.descriptors) (HasDescriptor frame) (plan.passes site) (λ descriptor low. low) (planned.passes site).0,
      ),
      (planned.passes site).1,
    )
    op_fits (O.GetChar site) named = (has_fits (R.Call site) named, tt)
    op_fits (O.PutChar site value) named = ((has_fits (R.Call site) named.0, tree_fits value named.1), tt)
    op_fits (O.Exit status) named = (tree_fits status named, tt)
    op_fits (O.Return value) named = (value_fits value named, tt)

    action_fits : (action : Action) → ActsWithin plan.descriptors action → ActionFits frame action
    action_fits (Make descriptor kind) low = low
    action_fits (Destroy descriptor) low = low

    actions_fit : (actions : List Action) → AreFew most plan.descriptors actions → AllByRecursion (ActionFits frame) actions × (length actions ≤ most)
    actions_fit actions few = (each (ActsWithin plan.descriptors) (ActionFits frame) actions action_fits few.0, few.1)

    point_fits : (points : List O.Op) → ((number : ℕ) (op : O.Op) → slice_get points number ≡ Some op → OpNamed (registers_of function) op) → (number : ℕ) (op : C.Op)
        → slice_get (map (op_of tac plan function.objects frame) points) number ≡ Some op → OpFits frame op × PassesFew most op
    point_fits [] named number op there = absurd (none-some op there)
    point_fits (first ∷ others) named zero op there =
        subst (λ op. OpFits frame op × PassesFew most op) (same_Some (op_of tac plan function.objects frame first) op there) (op_fits first (named 0 first refl))
    point_fits (first ∷ others) named (suc number) op there = point_fits others (λ number op there. named (suc number) op there) number op there

    function_fits : PointsNamed function → frame.size ≤ greatest_frame → FunctionFits most (function_of tac plan function)
    function_fits named small = record {
      taken = planned.taken;
      words = end_above tac.structs (objects_start (words_alone plan function)) function.objects;
      size = small;
      points = point_fits function.points named;
      entering = actions_fit plan.entering planned.entering;
      leaving = actions_fit plan.leaving planned.leaving;
      edges = λ from to. actions_fit (P.actions_from plan.edges from to) (planned.edges from to);
    }

-- ---- programs

-- each frame is in its range, with the plan of its function
pub record SmallFrames (tac : Tac) (plan : Plan) : Type 0 where
  pub functions : (number : ℕ) (own : FunctionPlan) (function : O.Function) → slice_get plan.functions number ≡ Some own → slice_get tac.functions number ≡ Some function
      → (frame_of tac.structs own function).size ≤ greatest_frame
  pub start : (frame_of tac.structs plan.start tac.start).size ≤ greatest_frame

module _ (tac : Tac) where
  -- what is so of each function with its plan is so of each rewritten one
  each_function : (holds : C.Function → Type 0) (plans : List FunctionPlan) (functions : List O.Function)
      → ((number : ℕ) (own : FunctionPlan) (function : O.Function) → slice_get plans number ≡ Some own → slice_get functions number ≡ Some function → holds (function_of tac own function))
      → (number : ℕ) (made : C.Function) → slice_get (functions_of tac plans functions) number ≡ Some made → holds made
  each_function holds [] functions so number made there = absurd (none-some made there)
  each_function holds (own ∷ plans) [] so number made there = absurd (none-some made there)
  each_function holds (own ∷ plans) (function ∷ functions) so zero made there = subst holds (same_Some (function_of tac own function) made there) (so 0 own function refl refl)
  each_function holds (own ∷ plans) (function ∷ functions) so (suc number) made there =
      each_function holds plans functions (λ number own function planned is. so (suc number) own function planned is) number made there

-- The code that a plan makes of lowered code fits, where its frames, its static objects and their first contents are in their ranges.
pub code_fits : (program : Program) (tac : Tac) → Code program tac → (most : ℕ) (plan : Plan) → Planned most plan → SmallFrames tac plan → length (first_contents tac) ≤ statics_size tac
    → globals_start + statics_size tac ≤ 2 ^ 40 → CodeFits most (rewritten plan tac)
code_fits program tac code most plan planned small contents globals = record {
  functions = functions;
  contents = contents;
  globals = globals;
  start = (planned.none_taken, code.parameters);
  making = planned.making;
}
  where
    functions : (owner : Owner) (made : C.Function) → P.function_of (rewritten plan tac) owner ≡ Some made → FunctionFits most made
    functions InStart made is =
        subst (FunctionFits most) (same_Some (function_of tac plan.start tac.start) made is) (function_fits tac plan.start tac.start most planned.start (points_named program tac code InStart tac.start refl) small.start)
    functions (InFunction number) made is =
        each_function tac (FunctionFits most) plan.functions tac.functions
        (λ number own function served there. function_fits tac own function most (planned.functions number own served) (points_named program tac code (InFunction number) function there) (small.functions number own function served there))
        number made is

-- ---- one pool

one_planned : (function : O.Function) → FunctionPlanned 1 (one_pool_function function)
one_planned function = record {
  taken = omega arith;
  pools = λ site. omega arith;
  passes = λ site. ((omega arith, tt), omega arith);
  entering = (tt, omega arith);
  leaving = (tt, omega arith);
  edges = λ from to. (tt, omega arith);
}

pub one_pool_planned : (tac : Tac) → Planned 1 (one_pool tac)
one_pool_planned tac = record {
  functions = each_plan tac.functions;
  start = record {
    taken = omega arith;
    pools = λ site. omega arith;
    passes = λ site. ((omega arith, tt), omega arith);
    entering = ((omega arith, tt), omega arith);
    leaving = (tt, omega arith);
    edges = λ from to. (tt, omega arith);
  };
  none_taken = refl;
  making = (omega arith, tt);
}
  where
    each_plan : (functions : List O.Function) (number : ℕ) (own : FunctionPlan) → slice_get (map one_pool_function functions) number ≡ Some own → FunctionPlanned 1 own
    each_plan [] number own there = absurd (none-some own there)
    each_plan (first ∷ others) zero own there = subst (FunctionPlanned 1) (same_Some (one_pool_function first) own there) (one_planned first)
    each_plan (first ∷ others) (suc number) own there = each_plan others number own there

-- That of one pool fits.
pub one_pool_fits : (program : Program) (tac : Tac) → Code program tac → SmallFrames tac (one_pool tac) → length (first_contents tac) ≤ statics_size tac → globals_start + statics_size tac ≤ 2 ^ 40
    → CodeFits 1 (rewritten (one_pool tac) tac)
one_pool_fits program tac code small contents globals = code_fits program tac code 1 (one_pool tac) (one_pool_planned tac) small contents globals
