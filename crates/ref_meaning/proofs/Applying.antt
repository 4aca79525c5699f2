-- Calls that are made.
use Rattle.std.proofs.Common.{◌≡◌, ℕ, ◌-◌, ◌≤◌, List, length, drop, take, reverse, Vec, Global, Bor, Option, Result, Ok, Err, IsOk, OnOk, sym, ap, subst, ◌∙◌, true≢false}
use Rattle.std.specs.Result.{IsErrAnd}
use Rattle.c_typed.specs.declared.typed.Value as memory_value
use Rattle.c_typed.specs.declared.typed.Value.{roll-Value, roll-out-Value}
use Rattle.c_typed.specs.declared.typed.Value.TheVariants as V
use Rattle.c_typed.specs.declared.typed.LibraryFunction.{LibraryFunction}
use Rattle.c_typed.specs.Typed as T
use Rattle.c_typed.specs.Views.{value_in}
use Rattle.ref_semantics.specs.Values.{Scalar}
use Rattle.ref_semantics.specs.Store.{State, Then, Eval, ◌>>=◌, continue_with, give}
use Rattle.ref_semantics.specs.Meaning.{greatest_depth}
use Rattle.ref_semantics.specs.Steps as steps
use Rattle.ref_semantics.specs.Steps.{Config, ScalarGiven}
use Rattle.ref_semantics.specs.Units as units
use Rattle.ref_meaning.specs.declared.value.Scalar as memory_scalar
use Rattle.ref_meaning.specs.RefStore.Views.{scalar_in, ScalarStands}
use Rattle.ref_meaning.specs.RefStore.Holding.{At, left}
use Rattle.ref_meaning.specs.declared.control.Control.{Control}
use Rattle.ref_meaning.specs.declared.control.Given.TheVariants as G
use Rattle.ref_meaning.specs.declared.control.Node as memory_node
use Rattle.ref_meaning.specs.declared.control.Node.TheVariants as N
use Rattle.ref_meaning.specs.declared.control.Task.TheVariants as K
use Rattle.ref_meaning.specs.declared.run.RefRun.{RefRun}
use Rattle.ref_meaning.specs.declared.run.Halt.{Halt}
use Rattle.ref_meaning.specs.declared.run.Halt.TheVariants as H
use Rattle.ref_meaning.specs.Views.{config_in, around_run, functions_of, table_of, operands_of, operands_after, stack_of, part_in, value_of, callee_of, newest, task_in, frames_in}
use Rattle.ref_meaning.specs.Holding.{IsConsistent, TaskFits, TaskFinds, FramesHold, IsCall}
use Rattle.ref_meaning.specs.Doing.{acting}
use Rattle.ref_meaning.specs.Moving.{IsKept, Becomes, Stays, Acts, IsTold, ArrivesTold}
use Rattle.ref_meaning.specs.Promises.{IsCallOf, CallsNext}
use Rattle.ref_meaning.specs.Calling.{ComesTold, Evaluates, Remains, IsStored}
use Rattle.ref_meaning.proofs.Moves.{Alters, alters-stays, at-new, kept-behind}
use Rattle.ref_meaning.proofs.Turns.{Turns, turns-config, turns-holds}
use Rattle.ref_meaning.proofs.Dropping.{scalars-dropped, rest-left}

-- what is next, where a call of an expression is made
pub apply-acting : (run : RefRun) (call : memory_node.Node) (function : memory_scalar.Scalar) (count : ℕ) (v : Bor memory_value.Value) (value : memory_value.Value) → run.control ≡ record { node = call; task = K.Apply function count } → call ≡ N.Value v → v.now ≡ value
    → acting run ≡ steps.apply (around_run run) (functions_of run) (callee_of (value_in (table_of run) value) (scalar_in (table_of run) function)) (newest (table_of run) count (operands_of run)) (config_in run)
apply-acting run call function count v value is_control is_call is_value =
    ap (λ (control : Control). units.act (around_run run) (functions_of run) (task_in (table_of run) (operands_of run) (part_in (table_of run) control.node) control.task) (config_in run)) is_control
    ∙ (ap (λ (node : memory_node.Node). applied (value_of (part_in (table_of run) node))) is_call ∙ ap (λ (w : memory_value.Value). applied (value_in (table_of run) w)) is_value)
  where
    applied : T.Value → Eval Config
    applied w = steps.apply (around_run run) (functions_of run) (callee_of w (scalar_in (table_of run) function)) (newest (table_of run) count (operands_of run)) (config_in run)

-- a call of the library is next
pub library-next : (run : RefRun) (call : memory_node.Node) (function : memory_scalar.Scalar) (count : ℕ) (v : Bor memory_value.Value) (value : memory_value.Value) (called : LibraryFunction)
    → run.control ≡ record { node = call; task = K.Apply function count } → call ≡ N.Value v → v.now ≡ value
    → IsCallOf called (steps.Apply (callee_of (value_in (table_of run) value) (scalar_in (table_of run) function)) (newest (table_of run) count (operands_of run))) → CallsNext called run
library-next run call function count v value called is_control is_call is_value is = subst (IsCallOf called) (sym next) is
  where
    applied : T.Value → steps.Task
    applied w = steps.Apply (callee_of w (scalar_in (table_of run) function)) (newest (table_of run) count (operands_of run))

    next : (config_in run).task ≡ applied (value_in (table_of run) value)
    next =
        ap (λ (control : Control). task_in (table_of run) (operands_of run) (part_in (table_of run) control.node) control.task) is_control
        ∙ (ap (λ (node : memory_node.Node). applied (value_of (part_in (table_of run) node))) is_call ∙ ap (λ (w : memory_value.Value). applied (value_in (table_of run) w)) is_value)

-- the error that is handed on
pub error-is : {A : Type 0} (result : Result A Halt) (halt other : Halt) → IsErrAnd result (λ e. e ≡ halt) → result ≡ Err other → halt ≡ other
error-is result halt other is e = sym (subst (λ r. IsErrAnd r (λ e. e ≡ halt)) e is)

-- its arguments are there
pub apply-there : (run : RefRun) (call : memory_node.Node) (function : memory_scalar.Scalar) (count : ℕ) → run.control ≡ record { node = call; task = K.Apply function count } → IsConsistent run → count ≤ length (operands_of run)
apply-there run call function count is holds = (subst (λ (c : Control). TaskFits (table_of run) c.node (length (operands_of run)) c.task) is holds.task).2

-- it is a call
pub apply-call : (run : RefRun) (call : memory_node.Node) (function : memory_scalar.Scalar) (count : ℕ) → run.control ≡ record { node = call; task = K.Apply function count } → IsConsistent run → IsCall call
apply-call run call function count is holds = (subst (λ (c : Control). TaskFits (table_of run) c.node (length (operands_of run)) c.task) is holds.task).0

pub no-call : (v : Bor memory_value.Value) → IsCall (N.Value v) → ((is_used : _) (place : _) (function : _) (c_type : _) (arguments : _) → v.now ≡ V.Call is_used place function c_type arguments → ⊥)
    → ((function : _) (groups : _) (place : _) (arguments : _) → v.now ≡ V.LibraryCall function groups place arguments → ⊥) → ⊥
no-call v call own library = by v.now call own library
  where
    by : (value : memory_value.Value) → IsCall (N.Value (record v { now = value })) → ((is_used : _) (place : _) (function : _) (c_type : _) (arguments : _) → value ≡ V.Call is_used place function c_type arguments → ⊥)
        → ((function : _) (groups : _) (place : _) (arguments : _) → value ≡ V.LibraryCall function groups place arguments → ⊥) → ⊥
    by (V.Call' is_used place p function c_type shape arguments) call own library =
        own _ _ _ _ _ (sym (roll-out-Value (V.Call' is_used place p function c_type shape arguments)) ∙ ap roll-Value (V.outs-Call' is_used place p function c_type shape arguments) ∙ V.rolls-Call _ _ _ _ _)
    by (V.LibraryCall' function groups place shape arguments) call own library =
        library _ _ _ _ (sym (roll-out-Value (V.LibraryCall' function groups place shape arguments)) ∙ ap roll-Value (V.outs-LibraryCall' function groups place shape arguments) ∙ V.rolls-LibraryCall _ _ _ _)
    by _ call own library = call

-- ---- behind a call of the library

stored-alters : (old new : RefRun) → IsConsistent old → IsStored old new → Alters old new old.control (stack_of old)
stored-alters old new holds stored = record {
  kept = stored.kept;
  types = stored.types;
  front = ap (λ l. take old.base l.items) stored.locals;
  within = subst (λ l. old.base ≤ length l.items) (sym stored.locals) holds.within;
  operands = stored.operands;
  base = stored.base;
  depth = stored.depth;
  control = stored.control;
  stack = ap (λ f. reverse f.items) stored.frames;
}

-- where it gives nothing
pub halts-acts : {A : Type 0} (old new : RefRun) (eval : Eval Scalar) (next : Scalar → Eval Config) (halt : Halt) (result : Result A Halt) (is_left told is_left' told' : Option (List ℕ)) → IsErrAnd result (λ e. e ≡ halt) → IsConsistent old → IsStored old new
    → Evaluates old new eval (Err halt) is_left told is_left' told' → Acts old new (eval >>= next) result is_left told is_left' told'
halts-acts old new eval next halt (Ok done) is_left told is_left' told' same holds stored evaluates = absurd same
halts-acts {A = A} old new eval next halt (Err e) is_left told is_left' told' same holds stored evaluates =
    subst (λ (h : Halt). Acts {A = A} old new (eval >>= next) (Err h) is_left told is_left' told') (sym same) (by halt evaluates)
  where
    stays : ((state : State) → At (around_run old) old.store old.base state → At (around_run old) new.store old.base state) → Stays old new
    stays keeps = alters-stays old new (stored-alters old new holds stored) holds keeps

    by : (h : Halt) → Evaluates old new eval (Err h) is_left told is_left' told' → Acts {A = A} old new (eval >>= next) (Err h) is_left told is_left' told'
    by (H.Final final) evaluates = λ base input state at so.
        let is = evaluates base input state at so in
        record { there = is.there; rest = is.rest; is = λ units. ap (continue_with next) (is.is units); told = is.told }
    by H.ReadFault evaluates = record { stays = stays evaluates.at; unread = evaluates.unread; unwritten = evaluates.unwritten }
    by H.WriteFault evaluates = record { stays = stays evaluates.at; unread = evaluates.unread; unwritten = evaluates.unwritten }
    by H.OutOfMemory evaluates = record { stays = stays evaluates.at; unread = evaluates.unread; unwritten = evaluates.unwritten }

-- Where it gives a value: the operands that it got are dropped, and the call comes to the value.
module _ (old mid new : RefRun) (call : memory_node.Node) (function : memory_scalar.Scalar) (count : ℕ) (value : memory_scalar.Scalar) (o : Vec memory_scalar.Scalar Global)
    (holds : IsConsistent old) (is_control : old.control ≡ record { node = call; task = K.Apply function count }) (there : count ≤ length (operands_of old)) (stands : ScalarStands (table_of old) value) (stored : IsStored old mid)
    (all : ℕ) (all-is : all ≡ length old.operands.items) (truncated : o.items ≡ take (all - count) mid.operands.items)
    (becomes : Becomes (record mid { operands = o }) new (record { node = mid.control.node; task = K.Give (G.Scalar value) }) (stack_of mid)) where
  kept : IsKept old new
  kept = kept-behind old mid new stored.kept (record { program = becomes.kept.program; functions = becomes.kept.functions; main = becomes.kept.main; spent = becomes.kept.spent })

  turns : Turns old new (record { node = old.control.node; task = K.Give (G.Scalar value) }) (stack_of old) (drop count (operands_of old)) old.base old.depth
  turns = record {
    kept = kept;
    types = ap (λ s. s.types) becomes.store ∙ stored.types;
    given =
        ap (λ v. reverse v.items) becomes.operands
        ∙ rest-left old.operands.items o.items all count there all-is (truncated ∙ ap (λ v. take (all - count) v.items) stored.operands);
    based = becomes.base ∙ stored.base;
    nested = becomes.depth ∙ stored.depth;
    control = becomes.control ∙ ap (λ (c : Control). record { node = c.node; task = K.Give (G.Scalar value) }) stored.control;
    stack = becomes.stack ∙ ap (λ f. reverse f.items) stored.frames;
  }

  locals : new.store.locals.items ≡ old.store.locals.items
  locals = ap (λ s. s.locals.items) becomes.store ∙ ap (λ l. l.items) stored.locals

  after-task : operands_after old.control.task (operands_of old) ≡ drop count (operands_of old)
  after-task = ap (λ (c : Control). operands_after c.task (operands_of old)) is_control

  config : config_in new ≡ steps.came (around_run old) (functions_of old) (ScalarGiven (scalar_in (table_of old) value)) (config_in old)
  config =
      turns-config old new _ _ _ _ _ turns
      ∙ (λ i. record {
        task = steps.Give (ScalarGiven (scalar_in (table_of old) value));
        frames = frames_in (table_of old) (locals i) old.base (sym after-task i) (stack_of old);
        depth = greatest_depth - old.depth;
      })

  pub given-holds : Remains old mid → IsConsistent new
  given-holds remains =
      let rest = remains holds.state holds.at in
      turns-holds old new _ _ _ _ _ turns holds ((λ awaits. absurd (subst (λ (c : Control). TaskFinds (table_of old) c.node c.task) is_control (holds.found.0 awaits))), holds.found.1) holds.node stands (scalars-dropped (table_of old) count (operands_of old) holds.operands)
      (subst (λ operands. FramesHold (table_of old) old.base operands (stack_of old)) after-task holds.frames)
      (subst (λ l. old.base ≤ length l) (sym locals) holds.within) holds.calls holds.shallow rest.0 (subst (λ s. At (around_run old) s old.base rest.0) (sym becomes.store) rest.1)

  pub given-arrives : (eval : Eval Scalar) (base input : List ℕ) (state : State) (is_left told : Option (List ℕ)) → IsConsistent new → ComesTold old mid eval base input state (scalar_in (table_of old) value) is_left told
      → ArrivesTold new (eval >>= λ a. give (steps.came (around_run old) (functions_of old) (ScalarGiven a) (config_in old))) base input state is_left told
  given-arrives eval base input state is_left told held comes = record {
    after = comes.after;
    rest = comes.rest;
    does = λ units.
        ap (continue_with (λ a. give (steps.came (around_run old) (functions_of old) (ScalarGiven a) (config_in old)))) (comes.does units)
        ∙ ap (λ c. Then c (left units comes.rest comes.after)) (sym config);
    at = at-new old new mid.store kept becomes.store turns.based comes.after comes.at;
    told = comes.told;
    holds = held;
  }

-- ---- by what a method results in

pub ok-holds : {A : Type 0} (new : RefRun) (result : Result A Halt) → IsConsistent new → OnOk result (IsConsistent new)
ok-holds new (Ok done) holds = holds
ok-holds new (Err halt) holds = tt

pub ok-acts : {A : Type 0} (old new : RefRun) (eval : Eval Config) (result : Result A Halt) (is_left told is_left' told' : Option (List ℕ)) → IsOk result
    → ((base input : List ℕ) (state : State) → At (around_run old) old.store old.base state → IsTold base input state is_left told → ArrivesTold new eval base input state is_left' told') → Acts old new eval result is_left told is_left' told'
ok-acts old new eval (Ok done) is_left told is_left' told' ok arrives = arrives
ok-acts old new eval (Err halt) is_left told is_left' told' ok arrives = absurd (true≢false (sym ok))
