-- The code with pools by a plan: its functions and points are those of three-address code, with the same costs and traces.
use Rattle.std.proofs.Common.{◌≡◌, ℕ, zero, suc, ◌+◌, Bool, true, false, List, [], ◌∷◌, ◌++◌, map, length, Option, Some, None, refl, sym, ap, subst, ◌∙◌, arith, append_assoc}
use Rattle.std.specs.Prelude.{slice_get, option_map, unwrap_or}
use Rattle.std.proofs.lemmas.Option.{slice_get-map}
use Rattle.run_theory.specs.Runs.{Move}
use Rattle.slab_space.specs.declared.kind.PoolKind.{PoolKind}
use Rattle.tac_ir.specs.Trees.{tree_nodes}
use Rattle.tac_ir.specs.Events.{TacEvent, Made}
use Rattle.tac_ir.specs.States as T
use Rattle.tac_ir.specs.States.{Owner, InStart, InFunction, given, unless_lost}
use Rattle.tac_ir.specs.Costs as costs
use Rattle.tac_ir.specs.Code.{Base, AtLocal, AtGlobal, AtLiteral, Pointed, Indexed, Step, Member, Element, Path, LocalObject, Function, Tac}
use Rattle.tac_ir.specs.Code as O
use Rattle.c_typed.specs.Types.{CType}
use Rattle.c_typed.specs.Layouts.{StructDef}
use Rattle.pool_ir.specs.Code as C
use Rattle.pool_ir.specs.Code.{FrameLayout}
use Rattle.pool_ir.specs.States as P
use Rattle.pool_ir.specs.States.{PoolEvent, Same}
use Rattle.pool_ir.specs.Meaning as M
use Rattle.pool_rewrite.specs.Plan.{FunctionPlan, Plan}
use Rattle.pool_rewrite.specs.Placing.{frame_of}
use Rattle.pool_rewrite.specs.Rewriting.{base_of, step_of, steps_of, path_of, op_of, function_of, functions_of}
use Rattle.pool_simulation.specs.Comparing.{made_in}
use Rattle.pool_simulation.specs.InStep.{plan_for, frame_for}
use Rattle.pool_simulation.specs.Serving.{code_of}
use Rattle.pool_simulation.proofs.Stepping.{op_for, Does, wrong}

-- ---- functions

-- the function of a number, with the plan of its own
functions_alike : (tac : Tac) (plans : List FunctionPlan) (functions : List Function) (other : FunctionPlan) (number : ℕ) → length plans ≡ length functions
    → slice_get (functions_of tac plans functions) number ≡ option_map (λ (function : Function). function_of tac (unwrap_or (slice_get plans number) other) function) (slice_get functions number)
functions_alike tac [] [] other number planned = refl
functions_alike tac [] (function ∷ functions) other number planned = absurd (omega (arith, planned))
functions_alike tac (plan ∷ plans) [] other number planned = absurd (omega (arith, planned))
functions_alike tac (plan ∷ plans) (function ∷ functions) other zero planned = refl
functions_alike tac (plan ∷ plans) (function ∷ functions) other (suc number) planned = functions_alike tac plans functions other number (omega (arith, planned))

pub frame_is : (tac : Tac) (plan : Plan) (owner : Owner) (function : Function) → T.function_of tac owner ≡ Some function → frame_for tac plan owner ≡ frame_of tac.structs (plan_for plan owner) function
frame_is tac plan owner function is = rw is refl

pub owner_alike : (tac : Tac) (plan : Plan) → length plan.functions ≡ length tac.functions → (owner : Owner)
    → P.function_of (code_of tac plan) owner ≡ option_map (λ (function : Function). function_of tac (plan_for plan owner) function) (T.function_of tac owner)
owner_alike tac plan planned InStart = refl
owner_alike tac plan planned (InFunction number) = functions_alike tac plan.functions tac.functions plan.start number planned

pub function_at : (tac : Tac) (plan : Plan) → length plan.functions ≡ length tac.functions → (number : ℕ) (function : Function) → slice_get tac.functions number ≡ Some function
    → slice_get (code_of tac plan).functions number ≡ Some (function_of tac (plan_for plan (InFunction number)) function)
function_at tac plan planned number function is =
    owner_alike tac plan planned (InFunction number) ∙ ap (option_map (λ (function : Function). function_of tac (plan_for plan (InFunction number)) function)) is

-- what holds of the plan of `start` and of that of any function, holds of each
pub each_plan : (tac : Tac) (kinds : List PoolKind) (start : FunctionPlan) (own : Function → FunctionPlan) (holds : FunctionPlan → Type 0) → holds start → ((function : Function) → holds (own function))
    → (owner : Owner) → holds (plan_for (record { kinds = kinds; functions = map own tac.functions; start = start }) owner)
each_plan tac kinds start own holds of_start of_each InStart = of_start
each_plan tac kinds start own holds of_start of_each (InFunction number) =
    subst (λ (found : Option FunctionPlan). holds (unwrap_or found start)) (sym (slice_get-map own tac.functions number)) (by (slice_get tac.functions number))
  where
    by : (found : Option Function) → holds (unwrap_or (option_map own found) start)
    by None = of_start
    by (Some function) = of_each function

actions_in : (tac : Tac) (plan : FunctionPlan) (found : Option Function) (from to : ℕ) → plan.edges ≡ [] → P.actions_of (option_map (λ (function : Function). function_of tac plan function) found) from to ≡ []
actions_in tac plan None from to none = refl
actions_in tac plan (Some function) from to none = ap (λ (edges : List C.Edge). P.actions_from edges from to) none

-- a function without edges that have actions
pub no_edge_acts : (tac : Tac) (plan : Plan) → length plan.functions ≡ length tac.functions → (owner : Owner) (from to : ℕ) → (plan_for plan owner).edges ≡ []
    → P.actions_of (P.function_of (code_of tac plan) owner) from to ≡ []
no_edge_acts tac plan planned owner from to none =
    ap (λ (found : Option C.Function). P.actions_of found from to) (owner_alike tac plan planned owner) ∙ actions_in tac (plan_for plan owner) (T.function_of tac owner) from to none

-- ---- points

option_map-alike : {A B : Type 0} (f g : A → B) → ((a : A) → f a ≡ g a) → (found : Option A) → option_map f found ≡ option_map g found
option_map-alike f g alike None = refl
option_map-alike f g alike (Some a) = ap Some (alike a)

pub op_is : (tac : Tac) (plan : Plan) (owner : Owner) (function : Function) (op : O.Op) → T.function_of tac owner ≡ Some function
    → op_for tac plan owner op ≡ op_of tac (plan_for plan owner) function.objects (frame_of tac.structs (plan_for plan owner) function) op
op_is tac plan owner function op is =
    ap (λ (found : Option Function). op_of tac (plan_for plan owner) (T.objects_of found) (frame_for tac plan owner) op) is
    ∙ ap (λ (frame : FrameLayout). op_of tac (plan_for plan owner) function.objects frame op) (frame_is tac plan owner function is)

pub points_alike : (tac : Tac) (plan : Plan) → length plan.functions ≡ length tac.functions → (owner : Owner) (at : ℕ)
    → slice_get (P.points_of (P.function_of (code_of tac plan) owner)) at ≡ option_map (op_for tac plan owner) (slice_get (T.points_of (T.function_of tac owner)) at)
points_alike tac plan planned owner at = ap (λ (found : Option C.Function). slice_get (P.points_of found) at) (owner_alike tac plan planned owner) ∙ by (T.function_of tac owner) refl
  where
    by : (found : Option Function) → T.function_of tac owner ≡ found
        → slice_get (P.points_of (option_map (λ (function : Function). function_of tac (plan_for plan owner) function) found)) at ≡ option_map (op_for tac plan owner) (slice_get (T.points_of found) at)
    by None is = refl
    by (Some function) is =
        let own = op_of tac (plan_for plan owner) function.objects (frame_of tac.structs (plan_for plan owner) function) in
        slice_get-map own function.points at ∙ option_map-alike own (op_for tac plan owner) (λ op. sym (op_is tac plan owner function op is)) (slice_get function.points at)

-- ---- costs

step_alike : (structs : List StructDef) (c_type : CType) (step : Step) → M.step_cost (step_of structs c_type step).part ≡ costs.step_cost step
step_alike structs c_type (Member number) = refl
step_alike structs c_type (Element index) = refl

steps_alike : (structs : List StructDef) (c_type : CType) (steps : List Step) → M.steps_cost (steps_of structs c_type steps) ≡ costs.steps_cost steps
steps_alike structs c_type [] = refl
steps_alike structs c_type (first ∷ others) =
    let own = step_of structs c_type first in
    ap (λ n. n + M.steps_cost (steps_of structs own.c_type others)) (step_alike structs c_type first) ∙ ap (λ n. costs.step_cost first + n) (steps_alike structs own.c_type others)

path_alike : (tac : Tac) (own : List LocalObject) (frame : FrameLayout) (path : Path) → M.path_cost (path_of tac own frame path) ≡ costs.path_cost path
path_alike tac own frame path = by path.base path.steps
  where
    by : (base : Base) (steps : List Step) → M.path_cost (path_of tac own frame (record { base = base; steps = steps })) ≡ costs.path_cost (record { base = base; steps = steps })
    by (AtLocal local) steps = ap (λ n. 0 + n) (steps_alike tac.structs (base_of tac own frame (AtLocal local)).c_type steps)
    by (AtGlobal number) steps = ap (λ n. 0 + n) (steps_alike tac.structs (base_of tac own frame (AtGlobal number)).c_type steps)
    by (AtLiteral number) steps = ap (λ n. 0 + n) (steps_alike tac.structs (base_of tac own frame (AtLiteral number)).c_type steps)
    by (Pointed pointer target) steps = ap (λ n. 0 + n) (steps_alike tac.structs target steps)
    by (Indexed pointer target number) steps = ap (λ n. tree_nodes number + n) (steps_alike tac.structs target steps)

pub costs_alike : (tac : Tac) (plan : FunctionPlan) (own : List LocalObject) (frame : FrameLayout) (op : O.Op) → M.more_cost (op_of tac plan own frame op) ≡ costs.more_cost op
costs_alike tac plan own frame O.Reserved = refl
costs_alike tac plan own frame (O.Jump to) = refl
costs_alike tac plan own frame (O.Branch int_type condition holds fails) = refl
costs_alike tac plan own frame (O.Assign to tree) = refl
costs_alike tac plan own frame (O.Null to) = refl
costs_alike tac plan own frame (O.FunctionAddress to function) = refl
costs_alike tac plan own frame (O.Copy to from) = refl
costs_alike tac plan own frame (O.Test to pointer) = refl
costs_alike tac plan own frame (O.Move to pointer element is_minus number) = refl
costs_alike tac plan own frame (O.Difference to element left right) = refl
costs_alike tac plan own frame (O.ComparePointers to relation left right) = refl
costs_alike tac plan own frame (O.Repoint to target from) = refl
costs_alike tac plan own frame (O.AddressOf to path) = path_alike tac own frame path
costs_alike tac plan own frame (O.Load to scalar path) = path_alike tac own frame path
costs_alike tac plan own frame (O.Store path scalar value) = ap (λ n. n + costs.operand_cost value) (path_alike tac own frame path)
costs_alike tac plan own frame (O.Allocate site size) = refl
costs_alike tac plan own frame (O.Free site pointer) = refl
costs_alike tac plan own frame (O.Call site callee arguments) = refl
costs_alike tac plan own frame (O.GetChar site) = refl
costs_alike tac plan own frame (O.PutChar site value) = refl
costs_alike tac plan own frame (O.Exit status) = refl
costs_alike tac plan own frame (O.Return None) = refl
costs_alike tac plan own frame (O.Return (Some operand)) = refl

-- ---- traces

pub same_more : (trace : List PoolEvent) (event : TacEvent) → P.same (trace ++ Same event ∷ []) ≡ P.same trace ++ event ∷ []
same_more [] event = refl
same_more (first ∷ trace) event = ap (λ (rest : List TacEvent). P.same_of first ++ rest) (same_more trace event) ∙ sym (append_assoc (P.same_of first) (P.same trace) (event ∷ []))

-- an event that makes no object of the heap
pub made_more : (trace : List TacEvent) (event : TacEvent) → made_in (event ∷ []) ≡ [] → made_in (trace ++ event ∷ []) ≡ made_in trace
made_more [] event none = none
made_more (Made site object size ∷ trace) event none = ap (λ (rest : List ℕ). size ∷ rest) (made_more trace event none)
made_more (first ∷ trace) event none = made_more trace event none

-- ---- where three-address code is lost

pub does_given : {A : Type 0} (tac : Tac) (plan : Plan) (slabs : ℕ) (machine : P.State) (found : Option A) (state : T.State) (next : A → Move T.State) (does : Move P.State) → ((a : A) → found ≡ Some a → Does tac plan slabs state machine (next a) does)
    → Does tac plan slabs state machine (given found state next) does
does_given tac plan slabs machine None state next does then_does = wrong _ state does tt
does_given tac plan slabs machine (Some a) state next does then_does = then_does a refl

pub does_unless : (tac : Tac) (plan : Plan) (slabs : ℕ) (machine : P.State) (holds : Bool) (state : T.State) (next : Move T.State) (does : Move P.State) → (holds ≡ true → Does tac plan slabs state machine next does)
    → Does tac plan slabs state machine (unless_lost holds state next) does
does_unless tac plan slabs machine true state next does then_does = then_does refl
does_unless tac plan slabs machine false state next does then_does = wrong _ state does tt
