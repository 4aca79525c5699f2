-- The name of a library function is entered.
use Rattle.std.proofs.Common.{◌≡◌, ℕ, List, length, [], ◌∷◌, Result, OnOk, OnErr, IfErr, Some, refl, sym, ap, subst, ◌∙◌, arith}
use Rattle.c_typed.specs.declared.typed.Value as memory_value
use Rattle.c_typed.specs.declared.typed.Value.TheVariants as V
use Rattle.c_typed.specs.Typed.{FunctionDef}
use Rattle.c_typed.specs.Table.{Interned}
use Rattle.ref_semantics.specs.Store.{TypeEnvironment, Eval, give}
use Rattle.ref_semantics.specs.Values.{Scalar}
use Rattle.ref_semantics.specs.Steps as steps
use Rattle.ref_semantics.specs.Steps.{Config}
use Rattle.ref_semantics.specs.Units as units
use Rattle.ref_meaning.specs.declared.value.Scalar.TheVariants as M
use Rattle.ref_meaning.specs.RefStore.Views.{scalar_in}
use Rattle.ref_meaning.specs.declared.control.Control.{Control}
use Rattle.ref_meaning.specs.declared.control.Node as memory_node
use Rattle.ref_meaning.specs.declared.control.Node.TheVariants as N
use Rattle.ref_meaning.specs.declared.control.Stage.TheVariants as S
use Rattle.ref_meaning.specs.declared.control.Task.TheVariants as K
use Rattle.ref_meaning.specs.declared.run.RefRun.{RefRun}
use Rattle.ref_meaning.specs.declared.run.Halt.{Halt}
use Rattle.ref_meaning.specs.declared.run.Halt.TheVariants as H
use Rattle.ref_meaning.specs.Views.{config_in, around_run, functions_of, table_of, operands_of, operands_after, stack_of, part_in, value_of, callee_of, named_call, task_in, frames_in}
use Rattle.ref_meaning.specs.Holding.{IsConsistent, NodeStands, TaskFits, TaskFinds, FramesHold, IsCall, IsLibraryCall}
use Rattle.ref_meaning.specs.Doing.{acting}
use Rattle.ref_meaning.specs.Moving.{Becomes, IsSame, Arrives, Moves}
use Rattle.ref_meaning.specs.Calling.{IsArgument, arguments_in}
use Rattle.ref_meaning.proofs.Moves.{memory-moves}
use Rattle.ref_meaning.proofs.Arguments.{goes-arrives}

-- no parentheses are left
named-last : (table : Interned) (call : memory_node.Node) (a : Scalar) (around : TypeEnvironment) (functions : List FunctionDef) (config : Config) → IsLibraryCall call
    → units.act around functions (named_call (part_in table call) 0) config ≡ give (steps.next_argument around functions (callee_of (value_of (part_in table call)) a) [] (arguments_in table call 0) config)
named-last table (N.Value v) a around functions config library = by v.now library
  where
    by : (value : memory_value.Value) → IsLibraryCall (N.Value (record v { now = value }))
        → units.act around functions (named_call (part_in table (N.Value (record v { now = value }))) 0) config
        ≡ give (steps.next_argument around functions (callee_of (value_of (part_in table (N.Value (record v { now = value })))) a) [] (arguments_in table (N.Value (record v { now = value })) 0) config)
    by (V.LibraryCall' function groups place shape arguments) library = refl
    by _ library = absurd library
named-last table (N.Object object) a around functions config library = absurd library
named-last table (N.Address object) a around functions config library = absurd library
named-last table (N.Designator designator) a around functions config library = absurd library
named-last table (N.Stmt s) a around functions config library = absurd library
named-last table (N.Body body) a around functions config library = absurd library
named-last table N.Nothing a around functions config library = absurd library

library-call : (call : memory_node.Node) → IsLibraryCall call → IsCall call
library-call (N.Value v) library = by v.now library
  where
    by : (value : memory_value.Value) → IsLibraryCall (N.Value (record v { now = value })) → IsCall (N.Value (record v { now = value }))
    by (V.LibraryCall' function groups place shape arguments) library = tt
    by _ library = absurd library
library-call (N.Object object) library = absurd library
library-call (N.Address object) library = absurd library
library-call (N.Designator designator) library = absurd library
library-call (N.Stmt s) library = absurd library
library-call (N.Body body) library = absurd library
library-call N.Nothing library = absurd library

-- where there is an argument
pub first-moves : {A : Type 0} (old new : RefRun) (call first : memory_node.Node) (groups : ℕ) (result : Result A Halt) → IsConsistent old → old.control ≡ record { node = call; task = K.Library groups } → groups ≡ 0
    → IsArgument (table_of old) (arguments_in (table_of old) call 0) (Some first) → NodeStands (table_of old) first
    → OnOk result (Becomes old new (record { node = first; task = K.Enter }) (record { node = call; stage = S.Argument M.Null 0 } ∷ stack_of old)) → OnErr result (IsSame old new) → IfErr result (λ e. e ≡ H.OutOfMemory)
    → Moves old new (acting old) result
first-moves old new call first groups result holds is_control is_last argument stands waits same only =
    memory-moves old new (acting old) (record { node = first; task = K.Enter }) (record { node = call; stage = S.Argument M.Null 0 } ∷ stack_of old) result waits same only holds
    (λ becomes state at.
    subst (λ (eval : Eval Config). Arrives new eval state) (sym is)
    (goes-arrives old new call M.Null 0 (stack_of old) (operands_of old) (config_in old) old.operands refl (record { next = Some first; is = argument; stands = stands; goes = becomes }) holds
    (subst (λ (c : Control). NodeStands (table_of old) c.node) is_control holds.node) (library-call call library) tt holds.operands (omega arith)
    (subst (λ (c : Control). FramesHold (table_of old) old.base (operands_after c.task (operands_of old)) (stack_of old)) is_control holds.frames) holds.calls
    ((λ awaits. subst (λ (c : Control). TaskFinds (table_of old) c.node c.task) is_control (holds.found.0 awaits)), holds.found.1)
    (ap (λ (c : Control). record (config_in old) { frames = frames_in (table_of old) old.store.locals.items old.base (operands_after c.task (operands_of old)) (stack_of old) }) is_control)
    state at))
  where
    library : IsLibraryCall call
    library = subst (λ (c : Control). TaskFits (table_of old) c.node (length (operands_of old)) c.task) is_control holds.task

    is : acting old ≡ give (steps.next_argument (around_run old) (functions_of old) (callee_of (value_of (part_in (table_of old) call)) (scalar_in (table_of old) M.Null)) [] (arguments_in (table_of old) call 0) (config_in old))
    is =
        ap (λ (c : Control). units.act (around_run old) (functions_of old) (task_in (table_of old) (operands_of old) (part_in (table_of old) c.node) c.task) (config_in old)) is_control
        ∙ (ap (λ n. units.act (around_run old) (functions_of old) (named_call (part_in (table_of old) call) n) (config_in old)) is_last
        ∙ named-last (table_of old) call (scalar_in (table_of old) M.Null) (around_run old) (functions_of old) (config_in old) library)
