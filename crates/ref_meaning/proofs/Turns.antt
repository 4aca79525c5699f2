-- How a run moves whose operands, base or depth change.
use Rattle.std.proofs.Common.{◌≡◌, ℕ, ◌-◌, ◌≤◌, List, length, refl, sym, ap, subst, ◌∙◌}
use Rattle.ref_semantics.specs.Store.{State, give}
use Rattle.ref_semantics.specs.Meaning.{greatest_depth}
use Rattle.ref_semantics.specs.Steps.{Config}
use Rattle.ref_meaning.specs.declared.value.Scalar as memory_scalar
use Rattle.ref_meaning.specs.RefStore.Holding.{At}
use Rattle.ref_meaning.specs.declared.control.Control.{Control}
use Rattle.ref_meaning.specs.declared.control.Frame as memory_frame
use Rattle.ref_meaning.specs.declared.run.RefRun.{RefRun}
use Rattle.ref_meaning.specs.Views.{config_in, around_run, table_of, operands_of, stack_of, operands_after, part_in, task_in, frames_in}
use Rattle.ref_meaning.specs.Holding.{IsConsistent, NodeStands, TaskFits, FramesHold, ScalarsStand, IsFound, calls_among}
use Rattle.ref_meaning.specs.Moving.{IsKept, Arrives}
use Rattle.ref_meaning.proofs.Moves.{kept-holds, same-around, at-new}

-- The same program, with what is next, what waits, the operands, the base and the depth.
pub record Turns (old new : RefRun) (next : Control) (frames : List memory_frame.Frame) (operands : List memory_scalar.Scalar) (base depth : ℕ) : Type 0 where
  pub kept : IsKept old new
  pub types : new.store.types ≡ old.store.types
  pub given : operands_of new ≡ operands
  pub based : new.base ≡ base
  pub nested : new.depth ≡ depth
  pub control : new.control ≡ next
  pub stack : stack_of new ≡ frames

module _ (old new : RefRun) (next : Control) (frames : List memory_frame.Frame) (operands : List memory_scalar.Scalar) (base depth : ℕ) (turns : Turns old new next frames operands base depth) where
  pub turns-config : config_in new ≡ record {
    task = task_in (table_of old) operands (part_in (table_of old) next.node) next.task;
    frames = frames_in (table_of old) new.store.locals.items base (operands_after next.task operands) frames;
    depth = greatest_depth - depth;
  }
  turns-config = λ i. record {
    task = task_in (turns.types i).now (turns.given i) (part_in (turns.types i).now (turns.control i).node) (turns.control i).task;
    frames = frames_in (turns.types i).now new.store.locals.items (turns.based i) (operands_after (turns.control i).task (turns.given i)) (turns.stack i);
    depth = greatest_depth - turns.nested i;
  }

  pub turns-holds : IsConsistent old → IsFound (table_of old) next frames → NodeStands (table_of old) next.node → TaskFits (table_of old) next.node (length operands) next.task → ScalarsStand (table_of old) operands
      → FramesHold (table_of old) base (operands_after next.task operands) frames → base ≤ length new.store.locals.items → depth ≡ calls_among frames → depth ≤ greatest_depth
      → (state : State) → At (around_run old) new.store base state → IsConsistent new
  turns-holds holds found node task scalars waiting within calls shallow state at =
      kept-holds old new turns.kept turns.types holds
      (subst (λ t. IsFound t.now new.control (stack_of new)) (sym turns.types) (subst (λ c. IsFound (table_of old) c (stack_of new)) (sym turns.control) (subst (λ f. IsFound (table_of old) next f) (sym turns.stack) found)))
      (subst (λ t. NodeStands t.now new.control.node) (sym turns.types) (subst (λ c. NodeStands (table_of old) c.node) (sym turns.control) node))
      (subst (λ t. TaskFits t.now new.control.node (length (operands_of new)) new.control.task) (sym turns.types)
      (subst (λ c. TaskFits (table_of old) c.node (length (operands_of new)) c.task) (sym turns.control)
      (subst (λ o. TaskFits (table_of old) next.node (length o) next.task) (sym turns.given) task)))
      (subst (λ t. ScalarsStand t.now (operands_of new)) (sym turns.types) (subst (λ o. ScalarsStand (table_of old) o) (sym turns.given) scalars))
      (subst (λ t. FramesHold t.now new.base (operands_after new.control.task (operands_of new)) (stack_of new)) (sym turns.types)
      (subst (λ b. FramesHold (table_of old) b (operands_after new.control.task (operands_of new)) (stack_of new)) (sym turns.based)
      (subst (λ c. FramesHold (table_of old) base (operands_after c.task (operands_of new)) (stack_of new)) (sym turns.control)
      (subst (λ o. FramesHold (table_of old) base (operands_after next.task o) (stack_of new)) (sym turns.given)
      (subst (λ f. FramesHold (table_of old) base (operands_after next.task operands) f) (sym turns.stack) waiting)))))
      (subst (λ b. b ≤ length new.store.locals.items) (sym turns.based) within)
      (turns.nested ∙ (calls ∙ sym (ap calls_among turns.stack)))
      (subst (λ d. d ≤ greatest_depth) (sym turns.nested) shallow)
      state
      (subst (λ around. At around new.store new.base state) (sym (same-around old new turns.kept)) (subst (λ b. At (around_run old) new.store b state) (sym turns.based) at))

-- with the store as it is
pub still-arrives : (old new : RefRun) (config : Config) → IsKept old new → new.store ≡ old.store → new.base ≡ old.base → config_in new ≡ config → IsConsistent new
    → (state : State) → At (around_run old) old.store old.base state → Arrives new (give config) state
still-arrives old new config kept store base is holds state at = record {
  after = state;
  does = λ units input. ap (λ c. give c (record state { units = units; input = input })) (sym is);
  at = at-new old new old.store kept store base state at;
  quiet = refl;
  holds = holds;
}
