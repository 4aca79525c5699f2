-- A task's operands are dropped.
use Rattle.std.proofs.Common.{◌≡◌, ℕ, zero, suc, ◌-◌, ◌≤◌, List, [], ◌∷◌, length, drop, take, reverse, Vec, Global, sym, ap, subst, ◌∙◌}
use Rattle.std.proofs.lemmas.List.{length-reverse}
use Rattle.c_typed.specs.Table.{Interned}
use Rattle.ref_semantics.specs.Store.{Eval, State, give}
use Rattle.ref_semantics.specs.Meaning.{greatest_depth}
use Rattle.ref_semantics.specs.Steps.{Config}
use Rattle.ref_meaning.specs.declared.value.Scalar as memory_scalar
use Rattle.ref_meaning.specs.RefStore.Holding.{At}
use Rattle.ref_meaning.specs.declared.control.Control.{Control}
use Rattle.ref_meaning.specs.declared.run.RefRun.{RefRun}
use Rattle.ref_meaning.specs.Views.{config_in, around_run, table_of, operands_of, operands_after, stack_of, part_in, task_in, frames_in}
use Rattle.ref_meaning.specs.Holding.{IsConsistent, NodeStands, TaskFits, TaskFinds, Awaits, FramesHold, ScalarsStand}
use Rattle.ref_meaning.specs.Doing.{TakesNone}
use Rattle.ref_meaning.specs.Moving.{Becomes, Arrives}
use Rattle.ref_meaning.proofs.Binding.{rest-dropped}
use Rattle.ref_meaning.proofs.Moves.{takes-none}
use Rattle.ref_meaning.proofs.Turns.{Turns, turns-config, turns-holds, still-arrives}

pub scalars-dropped : (table : Interned) (count : ℕ) (operands : List memory_scalar.Scalar) → ScalarsStand table operands → ScalarsStand table (drop count operands)
scalars-dropped table zero operands stands = stands
scalars-dropped table (suc count) [] stands = stands
scalars-dropped table (suc count) (first ∷ others) stands = scalars-dropped table count others stands.1

-- what is left where so many of the last items are taken away
pub rest-left : {X : Type 0} (items kept : List X) (all count : ℕ) → count ≤ length (reverse items) → all ≡ length items → kept ≡ take (all - count) items → reverse kept ≡ drop count (reverse items)
rest-left items kept all count there all-is is =
    ap reverse (is ∙ ap (λ n. take (n - count) items) all-is) ∙ sym (rest-dropped items count (subst (λ n. count ≤ n) (length-reverse items) there))

-- A run goes on without the operands that its task took.
module _ (old new : RefRun) (o : Vec memory_scalar.Scalar Global) (count : ℕ) (next : Control) (holds : IsConsistent old) (was : operands_after old.control.task (operands_of old) ≡ drop count (operands_of old))
    (given : reverse o.items ≡ drop count (operands_of old)) (free : TakesNone next.task) (becomes : Becomes (record old { operands = o }) new next (stack_of old)) where
  abbrev left_over : List memory_scalar.Scalar
  left_over = drop count (operands_of old)

  turns : Turns old new next (stack_of old) left_over old.base old.depth
  turns = record {
    kept = record { program = becomes.kept.program; functions = becomes.kept.functions; main = becomes.kept.main; spent = becomes.kept.spent };
    types = ap (λ s. s.types) becomes.store;
    given = ap (λ v. reverse v.items) becomes.operands ∙ given;
    based = becomes.base;
    nested = becomes.depth;
    control = becomes.control;
    stack = becomes.stack;
  }

  after-next : operands_after next.task left_over ≡ operands_after old.control.task (operands_of old)
  after-next = takes-none next.task left_over free ∙ sym was

  abbrev task_then : Config
  task_then = record (config_in old) { task = task_in (table_of old) left_over (part_in (table_of old) next.node) next.task }

  dropped-config : config_in new ≡ task_then
  dropped-config =
      turns-config old new next (stack_of old) left_over old.base old.depth turns
      ∙ (λ i. record {
        task = task_in (table_of old) left_over (part_in (table_of old) next.node) next.task;
        frames = frames_in (table_of old) (becomes.store i).locals.items old.base (after-next i) (stack_of old);
        depth = greatest_depth - old.depth;
      })

  pub dropped-arrives : (Awaits (stack_of old) → TaskFinds (table_of old) next.node next.task) → NodeStands (table_of old) next.node → TaskFits (table_of old) next.node (length left_over) next.task → (eval : Eval Config) → eval ≡ give task_then
      → (state : State) → At (around_run old) old.store old.base state → Arrives new eval state
  dropped-arrives finds node task eval is state at =
      subst (λ e. Arrives new e state) (sym is)
      (still-arrives old new task_then turns.kept becomes.store becomes.base dropped-config
      (turns-holds old new next (stack_of old) left_over old.base old.depth turns holds (finds, holds.found.1) node task (scalars-dropped (table_of old) count (operands_of old) holds.operands)
      (subst (λ operands. FramesHold (table_of old) old.base operands (stack_of old)) (sym after-next) holds.frames)
      (subst (λ s. old.base ≤ length s.locals.items) (sym becomes.store) holds.within) holds.calls holds.shallow holds.state
      (subst (λ s. At (around_run old) s old.base holds.state) (sym becomes.store) holds.at))
      state at)
