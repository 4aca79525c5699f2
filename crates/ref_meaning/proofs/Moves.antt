-- How a run moves.
use Rattle.std.proofs.Common.{◌≡◌, ℕ, ◌-◌, ◌≤◌, List, [], ◌∷◌, Result, Err, Ok, IsOk, OnOk, OnErr, IfErr, length, take, drop, reverse, refl, sym, ap, ap₂, subst, ◌∙◌, true≢false, take-take, bytes_eq, option_map, codes}
use Rattle.indexmap.specs.IndexMap.{get_by}
use Rattle.run_theory.specs.declared.place.Pos.{Pos}
use Rattle.run_theory.specs.declared.ends.UbKind.{UbKind}
use Rattle.run_theory.specs.Runs as Runs
use Rattle.c_typed.specs.Table.{Interned}
use Rattle.c_typed.specs.DefinitionViews.{program_of}
use Rattle.ref_meaning.specs.Trees.{ProgramFits}
use Rattle.ref_semantics.specs.Store.{State, Eval, ◌>>=◌, continue_with, give}
use Rattle.ref_semantics.specs.Meaning.{greatest_depth, function_from}
use Rattle.ref_semantics.specs.First.{around_of}
use Rattle.ref_semantics.specs.Parts.{Part}
use Rattle.ref_semantics.specs.Steps as steps
use Rattle.ref_semantics.specs.Steps.{Config, Frame}
use Rattle.ref_meaning.specs.declared.value.Scalar as memory_scalar
use Rattle.ref_meaning.specs.declared.value.Stop.{Stop}
use Rattle.ref_meaning.specs.declared.value.Stop.TheVariants as T
use Rattle.ref_meaning.specs.declared.store.Store.{Store}
use Rattle.ref_meaning.specs.RefStore.Holding.{At, left, Comes, CallGives, IsUndefined}
use Rattle.ref_meaning.proofs.Giving.{does-bind}
use Rattle.ref_meaning.specs.declared.control.Control.{Control}
use Rattle.ref_meaning.specs.declared.control.Frame as memory_frame
use Rattle.ref_meaning.specs.declared.control.Node as memory_node
use Rattle.ref_meaning.specs.declared.control.Stage as memory_stage
use Rattle.ref_meaning.specs.declared.control.Stage.TheVariants as S
use Rattle.ref_meaning.specs.declared.control.Task as memory_task
use Rattle.ref_meaning.specs.declared.control.Task.TheVariants as K
use Rattle.ref_meaning.specs.declared.run.RefRun.{RefRun}
use Rattle.ref_meaning.specs.declared.run.Halt.{Halt}
use Rattle.ref_meaning.specs.declared.run.Halt.TheVariants as H
use Rattle.ref_meaning.specs.Views.{config_in, around_run, functions_of, table_of, operands_of, stack_of, operands_after, operands_behind, base_behind, function_of, part_in, task_in, frame_in, frames_in}
use Rattle.ref_meaning.specs.Holding.{IsConsistent, NodeStands, Fits, StageStands, HasRoom, TaskFits, FramesHold, ScalarsStand, AwaitsAt, Awaits, FindsAt, FramesFind, TaskFinds, IsFound, calls_in, calls_among}
use Rattle.ref_meaning.specs.Doing.{TakesNone, IsInnermost, innermost, popped, without_first}
use Rattle.ref_meaning.specs.Moving.{IsKept, Becomes, IsSame, Arrives, IsOver, Stays, Moves, halt_of}

-- the configuration of what a run becomes
pub becomes-config : (old new : RefRun) (next : Control) (frames : List memory_frame.Frame) → Becomes old new next frames
    → config_in new ≡ record {
      task = task_in (table_of old) (operands_of old) (part_in (table_of old) next.node) next.task;
      frames = frames_in (table_of old) old.store.locals.items old.base (operands_after next.task (operands_of old)) frames;
      depth = greatest_depth - old.depth;
    }
becomes-config old new next frames becomes = λ i. record {
  task = task_in (becomes.store i).types.now (reverse (becomes.operands i).items) (part_in (becomes.store i).types.now (becomes.control i).node) (becomes.control i).task;
  frames = frames_in (becomes.store i).types.now (becomes.store i).locals.items (becomes.base i) (operands_after (becomes.control i).task (reverse (becomes.operands i).items)) (becomes.stack i);
  depth = greatest_depth - becomes.depth i;
}

-- a run of the same program with the same types holds where what is its own does
pub kept-holds : (old new : RefRun) → IsKept old new → new.store.types ≡ old.store.types → IsConsistent old → IsFound (table_of new) new.control (stack_of new)
    → NodeStands (table_of new) new.control.node → TaskFits (table_of new) new.control.node (length (operands_of new)) new.control.task
    → ScalarsStand (table_of new) (operands_of new) → FramesHold (table_of new) new.base (operands_after new.control.task (operands_of new)) (stack_of new)
    → new.base ≤ length new.store.locals.items → new.depth ≡ calls_among (stack_of new) → new.depth ≤ greatest_depth
    → (state : State) → At (around_run new) new.store new.base state → IsConsistent new
kept-holds old new kept types holds found node task operands frames within calls shallow state at = record {
  program = subst (λ p. ProgramFits p.now) (sym kept.program) holds.program;
  types = ap (λ t. t.now) types ∙ (holds.types ∙ sym (ap (λ p. p.now.types) kept.program));
  numbered = λ name.
      subst (λ f. get_by (λ key. bytes_eq name key.now) f ≡ option_map (λ found. found.0) (function_from 0 (functions_of new) name)) (sym kept.functions)
      (subst (λ p. get_by (λ key. bytes_eq name key.now) old.functions ≡ option_map (λ found. found.0) (function_from 0 (program_of p.now).functions name)) (sym kept.program) (holds.numbered name));
  main = kept.main ∙ subst (λ p. old.main ≡ option_map (λ found. found.0) (function_from 0 (program_of p.now).functions (codes "main"))) (sym kept.program) holds.main;
  node = node;
  task = task;
  operands = operands;
  frames = frames;
  found = found;
  within = within;
  calls = calls;
  shallow = shallow;
  state = state;
  at = at;
}

-- what is the same of all runs of a program
pub same-around : (old new : RefRun) → IsKept old new → around_run new ≡ around_run old
same-around old new kept = ap (λ p. around_of (program_of p.now)) kept.program

pub becomes-at : (old new : RefRun) (next : Control) (frames : List memory_frame.Frame) → Becomes old new next frames → (state : State) → At (around_run old) old.store old.base state → At (around_run new) new.store new.base state
becomes-at old new next frames becomes state at =
    subst (λ around. At around new.store new.base state) (sym (same-around old new becomes.kept))
    (subst (λ store. At (around_run old) store new.base state) (sym becomes.store) (subst (λ base. At (around_run old) old.store base state) (sym becomes.base) at))

-- it holds where what is next and what waits do
pub becomes-holds : (old new : RefRun) (next : Control) (frames : List memory_frame.Frame) → Becomes old new next frames → IsConsistent old → IsFound (table_of old) next frames
    → NodeStands (table_of old) next.node → TaskFits (table_of old) next.node (length (operands_of old)) next.task
    → FramesHold (table_of old) old.base (operands_after next.task (operands_of old)) frames → old.depth ≡ calls_among frames → IsConsistent new
becomes-holds old new next frames becomes holds found node task waiting calls =
    kept-holds old new becomes.kept (ap (λ s. s.types) becomes.store) holds
    (subst (λ s. IsFound s.types.now new.control (stack_of new)) (sym becomes.store) (subst (λ c. IsFound (table_of old) c (stack_of new)) (sym becomes.control) (subst (λ f. IsFound (table_of old) next f) (sym becomes.stack) found)))
    (subst (λ s. NodeStands s.types.now new.control.node) (sym becomes.store) (subst (λ c. NodeStands (table_of old) c.node) (sym becomes.control) node))
    (subst (λ s. TaskFits s.types.now new.control.node (length (operands_of new)) new.control.task) (sym becomes.store)
    (subst (λ c. TaskFits (table_of old) c.node (length (operands_of new)) c.task) (sym becomes.control)
    (subst (λ o. TaskFits (table_of old) next.node (length (reverse o.items)) next.task) (sym becomes.operands) task)))
    (subst (λ s. ScalarsStand s.types.now (operands_of new)) (sym becomes.store) (subst (λ o. ScalarsStand (table_of old) (reverse o.items)) (sym becomes.operands) holds.operands))
    (subst (λ s. FramesHold s.types.now new.base (operands_after new.control.task (operands_of new)) (stack_of new)) (sym becomes.store)
    (subst (λ b. FramesHold (table_of old) b (operands_after new.control.task (operands_of new)) (stack_of new)) (sym becomes.base)
    (subst (λ c. FramesHold (table_of old) old.base (operands_after c.task (operands_of new)) (stack_of new)) (sym becomes.control)
    (subst (λ o. FramesHold (table_of old) old.base (operands_after next.task (reverse o.items)) (stack_of new)) (sym becomes.operands)
    (subst (λ f. FramesHold (table_of old) old.base (operands_after next.task (operands_of old)) f) (sym becomes.stack) waiting)))))
    (subst (λ s. new.base ≤ length s.locals.items) (sym becomes.store) (subst (λ b. b ≤ length old.store.locals.items) (sym becomes.base) holds.within))
    (becomes.depth ∙ (calls ∙ sym (ap calls_among becomes.stack)))
    (subst (λ d. d ≤ greatest_depth) (sym becomes.depth) holds.shallow)
    holds.state
    (becomes-at old new next frames becomes holds.state holds.at)

-- it arrives where it gives the configuration that it becomes
pub becomes-arrives : (old new : RefRun) (next : Control) (frames : List memory_frame.Frame) (config : Config) → Becomes old new next frames → config_in new ≡ config → IsConsistent new
    → (state : State) → At (around_run old) old.store old.base state → Arrives new (give config) state
becomes-arrives old new next frames config becomes is holds state at = record {
  after = state;
  does = λ units input. ap (λ c. give c (left units input state)) (sym is);
  at = becomes-at old new next frames becomes state at;
  quiet = refl;
  holds = holds;
}

-- nothing is done
pub same-stays : (old new : RefRun) → Becomes old new old.control (stack_of old) → IsConsistent old → Stays old new
same-stays old new same holds = record {
  same = becomes-config old new old.control (stack_of old) same;
  at = λ state at. becomes-at old new old.control (stack_of old) same state at;
  holds = becomes-holds old new old.control (stack_of old) same holds holds.found holds.node holds.task holds.frames holds.calls;
}

-- ---- what is kept

pub nothing-kept : (run : RefRun) → IsKept run run
nothing-kept run = record { program = refl; functions = refl; main = refl; spent = refl }

pub kept-behind : (old mid new : RefRun) → IsKept old mid → IsKept mid new → IsKept old new
kept-behind old mid new one two = record { program = two.program ∙ one.program; functions = two.functions ∙ one.functions; main = two.main ∙ one.main; spent = two.spent ∙ one.spent }

-- ---- where the store changes

-- The same run, but for what is done next, what waits, and a store with the same types, in which the locals of callers are.
pub record Alters (old new : RefRun) (next : Control) (frames : List memory_frame.Frame) : Type 0 where
  pub kept : IsKept old new
  pub types : new.store.types ≡ old.store.types
  pub front : take old.base new.store.locals.items ≡ take old.base old.store.locals.items
  pub within : old.base ≤ length new.store.locals.items
  pub operands : new.operands ≡ old.operands
  pub base : new.base ≡ old.base
  pub depth : new.depth ≡ old.depth
  pub control : new.control ≡ next
  pub stack : stack_of new ≡ frames

-- where control and frames become these, behind a change of the store
pub behind-alters : (old new : RefRun) (mid : Store) (next : Control) (frames : List memory_frame.Frame) → mid.types ≡ old.store.types
    → take old.base mid.locals.items ≡ take old.base old.store.locals.items → old.base ≤ length mid.locals.items → Becomes (record old { store = mid }) new next frames → Alters old new next frames
behind-alters old new mid next frames types front within becomes = record {
  kept = record { program = becomes.kept.program; functions = becomes.kept.functions; main = becomes.kept.main; spent = becomes.kept.spent };
  types = ap (λ s. s.types) becomes.store ∙ types;
  front = ap (λ s. take old.base s.locals.items) becomes.store ∙ front;
  within = subst (λ s. old.base ≤ length s.locals.items) (sym becomes.store) within;
  operands = becomes.operands;
  base = becomes.base;
  depth = becomes.depth;
  control = becomes.control;
  stack = becomes.stack;
}

-- that leaves the locals alone
pub stored-alters : (old new : RefRun) (mid : Store) (next : Control) (frames : List memory_frame.Frame) → mid.types ≡ old.store.types → mid.locals ≡ old.store.locals → IsConsistent old
    → Becomes (record old { store = mid }) new next frames → Alters old new next frames
stored-alters old new mid next frames types locals holds becomes =
    behind-alters old new mid next frames types (ap (λ l. take old.base l.items) locals) (subst (λ l. old.base ≤ length l.items) (sym locals) holds.within) becomes

pub becomes-alters : (old new : RefRun) (next : Control) (frames : List memory_frame.Frame) → IsConsistent old → Becomes old new next frames → Alters old new next frames
becomes-alters old new next frames holds becomes = stored-alters old new old.store next frames refl refl holds
    (record { kept = record { program = becomes.kept.program; functions = becomes.kept.functions; main = becomes.kept.main; spent = becomes.kept.spent }; store = becomes.store; operands = becomes.operands; base = becomes.base; depth = becomes.depth; control = becomes.control; stack = becomes.stack })

-- ---- frames read the locals of callers alone

stage-front : (table : Interned) (locals locals' : List ℕ) (base : ℕ) (operands : List memory_scalar.Scalar) (part : Part) (stage : memory_stage.Stage) → take base locals' ≡ take base locals
    → frame_in table locals' base operands part stage ≡ frame_in table locals base operands part stage
stage-front table locals locals' base operands part (S.Call is_used place base') e = ap (λ l. steps.Running (function_of part) is_used place (reverse (drop base' l))) e
stage-front table locals locals' base operands part _ e = refl

behind-front : (locals locals' : List ℕ) (base count : ℕ) (stage : memory_stage.Stage) → HasRoom stage base count → take base locals' ≡ take base locals → take (base_behind stage base) locals' ≡ take (base_behind stage base) locals
behind-front locals locals' base count (S.Call is_used place base') room e = sym (take-take base' base locals' room) ∙ (ap (take base') e ∙ take-take base' base locals room)
behind-front locals locals' base count _ room e = e

pub frames-front : (table : Interned) (locals locals' : List ℕ) (base : ℕ) (operands : List memory_scalar.Scalar) (frames : List memory_frame.Frame) → FramesHold table base operands frames → take base locals' ≡ take base locals
    → frames_in table locals' base operands frames ≡ frames_in table locals base operands frames
frames-front table locals locals' base operands [] hold e = refl
frames-front table locals locals' base operands (frame ∷ frames) hold e =
    ap₂ (λ first others. first ∷ others)
    (stage-front table locals locals' base operands (part_in table frame.node) frame.stage e)
    (frames-front table locals locals' (base_behind frame.stage base) (operands_behind frame.stage operands) frames hold.4 (behind-front locals locals' base (length operands) frame.stage hold.3 e))

-- the configuration of what a run is altered to
pub alters-config : (old new : RefRun) (next : Control) (frames : List memory_frame.Frame) → Alters old new next frames → FramesHold (table_of old) old.base (operands_after next.task (operands_of old)) frames
    → config_in new ≡ record {
      task = task_in (table_of old) (operands_of old) (part_in (table_of old) next.node) next.task;
      frames = frames_in (table_of old) old.store.locals.items old.base (operands_after next.task (operands_of old)) frames;
      depth = greatest_depth - old.depth;
    }
alters-config old new next frames alters waiting = λ i. record { task = (same i).task; frames = (ap (λ c. c.frames) same ∙ frames-front (table_of old) old.store.locals.items new.store.locals.items old.base (operands_after next.task (operands_of old)) frames waiting alters.front) i; depth = (same i).depth }
  where
    same : config_in new ≡ record {
      task = task_in (table_of old) (operands_of old) (part_in (table_of old) next.node) next.task;
      frames = frames_in (table_of old) new.store.locals.items old.base (operands_after next.task (operands_of old)) frames;
      depth = greatest_depth - old.depth;
    }
    same = λ i. record {
      task = task_in (alters.types i).now (reverse (alters.operands i).items) (part_in (alters.types i).now (alters.control i).node) (alters.control i).task;
      frames = frames_in (alters.types i).now new.store.locals.items (alters.base i) (operands_after (alters.control i).task (reverse (alters.operands i).items)) (alters.stack i);
      depth = greatest_depth - alters.depth i;
    }

-- a store that stands, in the new run
pub at-new : (old new : RefRun) (mid : Store) → IsKept old new → new.store ≡ mid → new.base ≡ old.base → (state : State) → At (around_run old) mid old.base state → At (around_run new) new.store new.base state
at-new old new mid kept store base state at =
    subst (λ around. At around new.store new.base state) (sym (same-around old new kept))
    (subst (λ s. At (around_run old) s new.base state) (sym store) (subst (λ b. At (around_run old) mid b state) (sym base) at))

pub alters-holds : (old new : RefRun) (next : Control) (frames : List memory_frame.Frame) → Alters old new next frames → IsConsistent old → IsFound (table_of old) next frames
    → NodeStands (table_of old) next.node → TaskFits (table_of old) next.node (length (operands_of old)) next.task
    → FramesHold (table_of old) old.base (operands_after next.task (operands_of old)) frames → old.depth ≡ calls_among frames
    → (state : State) → At (around_run old) new.store old.base state → IsConsistent new
alters-holds old new next frames alters holds found node task waiting calls state at =
    kept-holds old new alters.kept alters.types holds
    (subst (λ t. IsFound t.now new.control (stack_of new)) (sym alters.types) (subst (λ c. IsFound (table_of old) c (stack_of new)) (sym alters.control) (subst (λ f. IsFound (table_of old) next f) (sym alters.stack) found)))
    (subst (λ t. NodeStands t.now new.control.node) (sym alters.types) (subst (λ c. NodeStands (table_of old) c.node) (sym alters.control) node))
    (subst (λ t. TaskFits t.now new.control.node (length (operands_of new)) new.control.task) (sym alters.types)
    (subst (λ c. TaskFits (table_of old) c.node (length (operands_of new)) c.task) (sym alters.control)
    (subst (λ o. TaskFits (table_of old) next.node (length (reverse o.items)) next.task) (sym alters.operands) task)))
    (subst (λ t. ScalarsStand t.now (operands_of new)) (sym alters.types) (subst (λ o. ScalarsStand (table_of old) (reverse o.items)) (sym alters.operands) holds.operands))
    (subst (λ t. FramesHold t.now new.base (operands_after new.control.task (operands_of new)) (stack_of new)) (sym alters.types)
    (subst (λ b. FramesHold (table_of old) b (operands_after new.control.task (operands_of new)) (stack_of new)) (sym alters.base)
    (subst (λ c. FramesHold (table_of old) old.base (operands_after c.task (operands_of new)) (stack_of new)) (sym alters.control)
    (subst (λ o. FramesHold (table_of old) old.base (operands_after next.task (reverse o.items)) (stack_of new)) (sym alters.operands)
    (subst (λ f. FramesHold (table_of old) old.base (operands_after next.task (operands_of old)) f) (sym alters.stack) waiting)))))
    (subst (λ b. b ≤ length new.store.locals.items) (sym alters.base) alters.within)
    (alters.depth ∙ (calls ∙ sym (ap calls_among alters.stack)))
    (subst (λ d. d ≤ greatest_depth) (sym alters.depth) holds.shallow)
    state
    (at-new old new new.store alters.kept refl alters.base state at)

-- ---- behind an evaluation that a call on the store gives

pub arrives-behind : {A : Type 0} (old new : RefRun) (mid : Store) (first : Eval A) (next : A → Eval Config) (a : A) (state : State) → IsKept old new → new.store ≡ mid → new.base ≡ old.base
    → next a ≡ give (config_in new) → IsConsistent new → Comes (around_run old) mid old.base first state a → Arrives new (first >>= next) state
arrives-behind old new mid first next a state kept store base is holds comes = record {
  after = comes.after;
  does = does-bind first next state comes.after comes.after a (config_in new) comes.does (λ units input. ap (λ e. e (left units input comes.after)) is);
  at = at-new old new mid kept store base comes.after comes.at;
  quiet = comes.quiet;
  holds = holds;
}

pub over-first : {A : Type 0} (first : Eval A) (next : A → Eval Config) (state : State) (kind : UbKind) (place : Pos) → IsUndefined first state kind place → IsOver (first >>= next) state (Runs.Undefined kind place)
over-first first next state kind place undefined = record { there = undefined.there; is = λ units input. ap (continue_with next) (undefined.is units input); quiet = undefined.quiet }

-- where memory runs out in a call on the store
pub alters-stays : (old new : RefRun) → Alters old new old.control (stack_of old) → IsConsistent old → ((state : State) → At (around_run old) old.store old.base state → At (around_run old) new.store old.base state) → Stays old new
alters-stays old new alters holds keeps = record {
  same = alters-config old new old.control (stack_of old) alters holds.frames;
  at = λ state at. at-new old new new.store alters.kept refl alters.base state (keeps state at);
  holds = alters-holds old new old.control (stack_of old) alters holds holds.found holds.node holds.task holds.frames holds.calls holds.state (keeps holds.state holds.at);
}

-- what `?` hands on of a call on the store
pub stops : {A B : Type 0} (C : Type 0) (old : RefRun) (mid : Store) (view : B → A) (first : Eval A) (next : A → Eval Config) (stop : Stop) → mid.types ≡ old.store.types → mid.locals ≡ old.store.locals → IsConsistent old
    → CallGives (around_run old) old.store mid old.base view first (Err stop) → Moves {A = C} old (record old { store = mid }) (first >>= next) (Err (halt_of stop))
stops C old mid view first next (T.Undefined kind place) types locals holds gives = λ state at. over-first first next state kind place (gives state at)
stops C old mid view first next T.OutOfMemory types locals holds gives =
    alters-stays old (record old { store = mid })
    (stored-alters old (record old { store = mid }) mid old.control (stack_of old) types locals holds
    (record { kept = record { program = refl; functions = refl; main = refl; spent = refl }; store = refl; operands = refl; base = refl; depth = refl; control = refl; stack = refl }))
    holds gives

-- ---- tasks that take no operands

pub takes-none : (task : memory_task.Task) (operands : List memory_scalar.Scalar) → TakesNone task → operands_after task operands ≡ operands
takes-none (K.Apply function count) operands free = absurd free
takes-none (K.Bind count number) operands free = absurd free
takes-none _ operands free = refl

-- what waits, and how it stands, where the task takes none
pub all-frames : (run : RefRun) → TakesNone run.control.task → (config_in run).frames ≡ frames_in (table_of run) run.store.locals.items run.base (operands_of run) (stack_of run)
all-frames run free = ap (λ o. frames_in (table_of run) run.store.locals.items run.base o (stack_of run)) (takes-none run.control.task (operands_of run) free)

pub all-hold : (run : RefRun) → TakesNone run.control.task → IsConsistent run → FramesHold (table_of run) run.base (operands_of run) (stack_of run)
all-hold run free holds = subst (λ o. FramesHold (table_of run) run.base o (stack_of run)) (takes-none run.control.task (operands_of run) free) holds.frames

pub free-hold : (run : RefRun) (task : memory_task.Task) (frames : List memory_frame.Frame) → TakesNone task → FramesHold (table_of run) run.base (operands_of run) frames
    → FramesHold (table_of run) run.base (operands_after task (operands_of run)) frames
free-hold run task frames free hold = subst (λ o. FramesHold (table_of run) run.base o frames) (sym (takes-none task (operands_of run) free)) hold

-- ---- the innermost

-- its stage has no operands of its own, and no locals
abbrev pub IsPlain : memory_stage.Stage → Type 0
IsPlain (S.Argument function count) = ⊥
IsPlain (S.Call is_used place base) = ⊥
IsPlain _ = Unit {0}

pub plain-base : (stage : memory_stage.Stage) (base : ℕ) → IsPlain stage → base_behind stage base ≡ base
plain-base (S.Call is_used place base') base plain = absurd plain
plain-base _ base plain = refl

pub plain-operands : (stage : memory_stage.Stage) (operands : List memory_scalar.Scalar) → IsPlain stage → operands_behind stage operands ≡ operands
plain-operands (S.Argument function count) operands plain = absurd plain
plain-operands _ operands plain = refl

pub plain-calls : (stage : memory_stage.Stage) (n : ℕ) → IsPlain stage → calls_in stage n ≡ n
plain-calls (S.Call is_used place base') n plain = absurd plain
plain-calls _ n plain = refl

-- what waits behind it
abbrev pub behind_frames : RefRun → memory_stage.Stage → List memory_frame.Frame → List Frame
behind_frames run stage others = frames_in (table_of run) run.store.locals.items (base_behind stage run.base) (operands_behind stage (operands_of run)) others

pub innermost-frames : (run : RefRun) (top : ℕ) (part : Part) (stage : memory_stage.Stage) → TakesNone run.control.task → (waits : IsInnermost run top part stage)
    → (config_in run).frames ≡ innermost run part stage ∷ behind_frames run stage waits.others
innermost-frames run top part stage free waits =
    all-frames run free
    ∙ (ap (frames_in (table_of run) run.store.locals.items run.base (operands_of run)) waits.stack
    ∙ ap (λ p. frame_in (table_of run) run.store.locals.items run.base (operands_of run) p stage ∷ behind_frames run stage waits.others) waits.is)

pub innermost-popped : (run : RefRun) (top : ℕ) (part : Part) (stage : memory_stage.Stage) → TakesNone run.control.task → (waits : IsInnermost run top part stage)
    → popped (config_in run) ≡ record (config_in run) { frames = behind_frames run stage waits.others }
innermost-popped run top part stage free waits = ap (λ frames. record (config_in run) { frames = without_first frames }) (innermost-frames run top part stage free waits)

-- how it stands, and what is behind it
pub innermost-hold : (run : RefRun) (top : ℕ) (part : Part) (stage : memory_stage.Stage) → TakesNone run.control.task → (waits : IsInnermost run top part stage) → IsConsistent run
    → NodeStands (table_of run) waits.node × Fits waits.node stage × StageStands (table_of run) stage × HasRoom stage run.base (length (operands_of run))
    × FramesHold (table_of run) (base_behind stage run.base) (operands_behind stage (operands_of run)) waits.others
innermost-hold run top part stage free waits holds = subst (FramesHold (table_of run) run.base (operands_of run)) waits.stack (all-hold run free holds)

pub innermost-calls : (run : RefRun) (top : ℕ) (part : Part) (stage : memory_stage.Stage) (waits : IsInnermost run top part stage) → IsConsistent run → run.depth ≡ calls_in stage (calls_among waits.others)
innermost-calls run top part stage waits holds = holds.calls ∙ ap calls_among waits.stack

-- what is behind it is found
pub behind-found : (run : RefRun) (top : ℕ) (part : Part) (stage : memory_stage.Stage) (waits : IsInnermost run top part stage) → IsConsistent run → (Awaits waits.others → FindsAt waits.node stage) × FramesFind waits.others
behind-found run top part stage waits holds = subst FramesFind waits.stack holds.found.1

-- what is behind a plain one
pub plain-frames : (run : RefRun) (stage : memory_stage.Stage) (others : List memory_frame.Frame) → IsPlain stage → behind_frames run stage others ≡ frames_in (table_of run) run.store.locals.items run.base (operands_of run) others
plain-frames run stage others plain = λ i. frames_in (table_of run) run.store.locals.items (plain-base stage run.base plain i) (plain-operands stage (operands_of run) plain i) others

pub plain-hold : (run : RefRun) (top : ℕ) (part : Part) (stage : memory_stage.Stage) → TakesNone run.control.task → IsPlain stage → (waits : IsInnermost run top part stage) → IsConsistent run
    → FramesHold (table_of run) run.base (operands_of run) waits.others
plain-hold run top part stage free plain waits holds =
    subst (λ b. FramesHold (table_of run) b (operands_of run) waits.others) (plain-base stage run.base plain)
    (subst (λ o. FramesHold (table_of run) (base_behind stage run.base) o waits.others) (plain-operands stage (operands_of run) plain) (innermost-hold run top part stage free waits holds).4)

pub plain-depth : (run : RefRun) (top : ℕ) (part : Part) (stage : memory_stage.Stage) → IsPlain stage → (waits : IsInnermost run top part stage) → IsConsistent run → run.depth ≡ calls_among waits.others
plain-depth run top part stage plain waits holds = innermost-calls run top part stage waits holds ∙ plain-calls stage (calls_among waits.others) plain

-- one more waits in front of others
pub wait-hold : (run : RefRun) (node : memory_node.Node) (stage : memory_stage.Stage) (others : List memory_frame.Frame) → IsPlain stage
    → NodeStands (table_of run) node → Fits node stage → StageStands (table_of run) stage → HasRoom stage run.base (length (operands_of run))
    → FramesHold (table_of run) run.base (operands_of run) others → FramesHold (table_of run) run.base (operands_of run) (record { node = node; stage = stage } ∷ others)
wait-hold run node stage others plain stands fits staged room hold = (
  stands,
  fits,
  staged,
  room,
  subst (λ b. FramesHold (table_of run) b (operands_behind stage (operands_of run)) others) (sym (plain-base stage run.base plain))
      (subst (λ o. FramesHold (table_of run) run.base o others) (sym (plain-operands stage (operands_of run) plain)) hold),
)

pub wait-frames : (run : RefRun) (task : memory_task.Task) (node : memory_node.Node) (stage : memory_stage.Stage) (others : List memory_frame.Frame) → TakesNone task → IsPlain stage
    → frames_in (table_of run) run.store.locals.items run.base (operands_after task (operands_of run)) (record { node = node; stage = stage } ∷ others)
    ≡ innermost run (part_in (table_of run) node) stage ∷ frames_in (table_of run) run.store.locals.items run.base (operands_of run) others
wait-frames run task node stage others free plain =
    ap (λ o. frames_in (table_of run) run.store.locals.items run.base o (record { node = node; stage = stage } ∷ others)) (takes-none task (operands_of run) free)
    ∙ ap (λ frames. innermost run (part_in (table_of run) node) stage ∷ frames) (plain-frames run stage others plain)

-- ---- what a run becomes whose task takes no operands

-- it does this next, with all that waited
pub task-config : (old new : RefRun) (next : Control) → Alters old new next (stack_of old) → TakesNone old.control.task → TakesNone next.task → IsConsistent old
    → config_in new ≡ record (config_in old) { task = task_in (table_of old) (operands_of old) (part_in (table_of old) next.node) next.task }
task-config old new next alters free freed holds =
    alters-config old new next (stack_of old) alters (free-hold old next.task (stack_of old) freed (all-hold old free holds))
    ∙ ap (λ frames. record (config_in old) { task = task_in (table_of old) (operands_of old) (part_in (table_of old) next.node) next.task; frames = frames }) same
  where
    same : frames_in (table_of old) old.store.locals.items old.base (operands_after next.task (operands_of old)) (stack_of old) ≡ (config_in old).frames
    same = ap (λ o. frames_in (table_of old) old.store.locals.items old.base o (stack_of old)) (takes-none next.task (operands_of old) freed) ∙ sym (all-frames old free)

pub task-holds : (old new : RefRun) (next : Control) → Alters old new next (stack_of old) → TakesNone old.control.task → TakesNone next.task → IsConsistent old
    → (Awaits (stack_of old) → TaskFinds (table_of old) next.node next.task)
    → NodeStands (table_of old) next.node → TaskFits (table_of old) next.node (length (operands_of old)) next.task → (state : State) → At (around_run old) new.store old.base state → IsConsistent new
task-holds old new next alters free freed holds finds node task state at =
    alters-holds old new next (stack_of old) alters holds (finds, holds.found.1) node task (free-hold old next.task (stack_of old) freed (all-hold old free holds)) holds.calls state at

-- it does this next, and one more waits
pub wait-config : (old new : RefRun) (next : Control) (node : memory_node.Node) (stage : memory_stage.Stage) → Alters old new next (record { node = node; stage = stage } ∷ stack_of old)
    → TakesNone old.control.task → TakesNone next.task → IsPlain stage → IsConsistent old
    → NodeStands (table_of old) node → Fits node stage → StageStands (table_of old) stage → HasRoom stage old.base (length (operands_of old))
    → config_in new ≡ record (config_in old) { task = task_in (table_of old) (operands_of old) (part_in (table_of old) next.node) next.task; frames = innermost old (part_in (table_of old) node) stage ∷ (config_in old).frames }
wait-config old new next node stage alters free freed plain holds stands fits staged room =
    alters-config old new next (record { node = node; stage = stage } ∷ stack_of old) alters (free-hold old next.task (record { node = node; stage = stage } ∷ stack_of old) freed (wait-hold old node stage (stack_of old) plain stands fits staged room (all-hold old free holds)))
    ∙ ap (λ frames. record (config_in old) { task = task_in (table_of old) (operands_of old) (part_in (table_of old) next.node) next.task; frames = frames }) (wait-frames old next.task node stage (stack_of old) freed plain ∙ ap (λ frames. innermost old (part_in (table_of old) node) stage ∷ frames) (sym (all-frames old free)))

pub wait-holds : (old new : RefRun) (next : Control) (node : memory_node.Node) (stage : memory_stage.Stage) → Alters old new next (record { node = node; stage = stage } ∷ stack_of old)
    → TakesNone old.control.task → TakesNone next.task → IsPlain stage → IsConsistent old
    → NodeStands (table_of old) node → Fits node stage → StageStands (table_of old) stage → HasRoom stage old.base (length (operands_of old))
    → (AwaitsAt node stage → TaskFinds (table_of old) next.node next.task) → (Awaits (stack_of old) → FindsAt node stage)
    → NodeStands (table_of old) next.node → TaskFits (table_of old) next.node (length (operands_of old)) next.task → (state : State) → At (around_run old) new.store old.base state → IsConsistent new
wait-holds old new next node stage alters free freed plain holds stands fits staged room finds before entered task state at =
    alters-holds old new next (record { node = node; stage = stage } ∷ stack_of old) alters holds (finds, (before, holds.found.1)) entered task
    (free-hold old next.task (record { node = node; stage = stage } ∷ stack_of old) freed (wait-hold old node stage (stack_of old) plain stands fits staged room (all-hold old free holds)))
    (holds.calls ∙ sym (plain-calls stage (calls_among (stack_of old)) plain)) state at

-- it does this next, and the innermost waits no more
pub done-config : (old new : RefRun) (next : Control) (top : ℕ) (part : Part) (stage : memory_stage.Stage) (waits : IsInnermost old top part stage) → Alters old new next waits.others
    → TakesNone old.control.task → TakesNone next.task → IsPlain stage → IsConsistent old
    → config_in new ≡ record (popped (config_in old)) { task = task_in (table_of old) (operands_of old) (part_in (table_of old) next.node) next.task }
done-config old new next top part stage waits alters free freed plain holds =
    alters-config old new next waits.others alters (free-hold old next.task waits.others freed (plain-hold old top part stage free plain waits holds))
    ∙ (ap (λ frames. record (config_in old) { task = task_in (table_of old) (operands_of old) (part_in (table_of old) next.node) next.task; frames = frames })
    (ap (λ o. frames_in (table_of old) old.store.locals.items old.base o waits.others) (takes-none next.task (operands_of old) freed) ∙ sym (plain-frames old stage waits.others plain))
    ∙ ap {A = Config} (λ c. record c { task = task_in (table_of old) (operands_of old) (part_in (table_of old) next.node) next.task }) (sym (innermost-popped old top part stage free waits)))

pub done-holds : (old new : RefRun) (next : Control) (top : ℕ) (part : Part) (stage : memory_stage.Stage) (waits : IsInnermost old top part stage) → Alters old new next waits.others
    → TakesNone old.control.task → TakesNone next.task → IsPlain stage → IsConsistent old
    → (Awaits waits.others → TaskFinds (table_of old) next.node next.task)
    → NodeStands (table_of old) next.node → TaskFits (table_of old) next.node (length (operands_of old)) next.task → (state : State) → At (around_run old) new.store old.base state → IsConsistent new
done-holds old new next top part stage waits alters free freed plain holds finds node task state at =
    alters-holds old new next waits.others alters holds (finds, (behind-found old top part stage waits holds).1) node task (free-hold old next.task waits.others freed (plain-hold old top part stage free plain waits holds)) (plain-depth old top part stage plain waits holds) state at

-- it does this next, and the innermost comes to another stage
pub stage-config : (old new : RefRun) (next : Control) (top : ℕ) (part : Part) (stage : memory_stage.Stage) (waits : IsInnermost old top part stage) (node : memory_node.Node) (later : memory_stage.Stage)
    → Alters old new next (record { node = node; stage = later } ∷ waits.others) → TakesNone old.control.task → TakesNone next.task → IsPlain stage → IsPlain later → IsConsistent old
    → NodeStands (table_of old) node → Fits node later → StageStands (table_of old) later → HasRoom later old.base (length (operands_of old))
    → config_in new ≡ record (popped (config_in old)) { task = task_in (table_of old) (operands_of old) (part_in (table_of old) next.node) next.task; frames = innermost old (part_in (table_of old) node) later ∷ (popped (config_in old)).frames }
stage-config old new next top part stage waits node later alters free freed plain plainly holds stands fits staged room =
    alters-config old new next (record { node = node; stage = later } ∷ waits.others) alters
    (free-hold old next.task (record { node = node; stage = later } ∷ waits.others) freed (wait-hold old node later waits.others plainly stands fits staged room (plain-hold old top part stage free plain waits holds)))
    ∙ (ap (λ frames. record (config_in old) { task = task_in (table_of old) (operands_of old) (part_in (table_of old) next.node) next.task; frames = frames })
    (wait-frames old next.task node later waits.others freed plainly ∙ ap (λ frames. innermost old (part_in (table_of old) node) later ∷ frames) (sym (plain-frames old stage waits.others plain)))
    ∙ ap {A = Config} (λ c. record c { task = task_in (table_of old) (operands_of old) (part_in (table_of old) next.node) next.task; frames = innermost old (part_in (table_of old) node) later ∷ c.frames }) (sym (innermost-popped old top part stage free waits)))

pub stage-holds : (old new : RefRun) (next : Control) (top : ℕ) (part : Part) (stage : memory_stage.Stage) (waits : IsInnermost old top part stage) (node : memory_node.Node) (later : memory_stage.Stage)
    → Alters old new next (record { node = node; stage = later } ∷ waits.others) → TakesNone old.control.task → TakesNone next.task → IsPlain stage → IsPlain later → IsConsistent old
    → NodeStands (table_of old) node → Fits node later → StageStands (table_of old) later → HasRoom later old.base (length (operands_of old))
    → (AwaitsAt node later → TaskFinds (table_of old) next.node next.task) → (Awaits waits.others → FindsAt node later)
    → NodeStands (table_of old) next.node → TaskFits (table_of old) next.node (length (operands_of old)) next.task → (state : State) → At (around_run old) new.store old.base state → IsConsistent new
stage-holds old new next top part stage waits node later alters free freed plain plainly holds stands fits staged room finds before entered task state at =
    alters-holds old new next (record { node = node; stage = later } ∷ waits.others) alters holds (finds, (before, (behind-found old top part stage waits holds).1)) entered task
    (free-hold old next.task (record { node = node; stage = later } ∷ waits.others) freed (wait-hold old node later waits.others plainly stands fits staged room (plain-hold old top part stage free plain waits holds)))
    (plain-depth old top part stage plain waits holds ∙ sym (plain-calls later (calls_among waits.others) plainly)) state at

-- ---- by what a method results in

pub ok-moves : {A : Type 0} (old new : RefRun) (eval : Eval Config) (result : Result A Halt) → IsOk result → ((state : State) → At (around_run old) old.store old.base state → Arrives new eval state) → Moves old new eval result
ok-moves old new eval (Ok done) ok arrives = arrives
ok-moves old new eval (Err e) ok arrives = absurd (true≢false (sym ok))

-- a method that changes nothing where memory runs out
pub memory-moves : {A : Type 0} (old new : RefRun) (eval : Eval Config) (next : Control) (frames : List memory_frame.Frame) (result : Result A Halt) → OnOk result (Becomes old new next frames) → OnErr result (IsSame old new)
    → IfErr result (λ e. e ≡ H.OutOfMemory) → IsConsistent old → (Becomes old new next frames → (state : State) → At (around_run old) old.store old.base state → Arrives new eval state) → Moves old new eval result
memory-moves {A = A} old new eval next frames (Ok done) becomes same only holds arrives = arrives becomes
memory-moves {A = A} old new eval next frames (Err e) becomes same only holds arrives = subst (λ h. Moves {A = A} old new eval (Err h)) (sym only) (same-stays old new same holds)

pub memory-kept : {A : Type 0} (old new : RefRun) (next : Control) (frames : List memory_frame.Frame) (result : Result A Halt) → OnOk result (Becomes old new next frames) → OnErr result (IsSame old new) → IsKept old new
memory-kept old new next frames (Ok done) becomes same = becomes.kept
memory-kept old new next frames (Err e) becomes same = same.kept

-- another change behind one
pub becomes-behind : (old mid new : RefRun) (one two : Control) (frames others : List memory_frame.Frame) → Becomes old mid one frames → Becomes mid new two others → Becomes old new two others
becomes-behind old mid new one two frames others first second = record {
  kept = kept-behind old mid new first.kept second.kept;
  store = second.store ∙ first.store;
  operands = second.operands ∙ first.operands;
  base = second.base ∙ first.base;
  depth = second.depth ∙ first.depth;
  control = second.control;
  stack = second.stack;
}

-- that leaves frames alone
pub becomes-then : (old mid new : RefRun) (one two : Control) (frames : List memory_frame.Frame) → Becomes old mid one frames → Becomes mid new two (stack_of mid) → Becomes old new two frames
becomes-then old mid new one two frames first second = record {
  kept = kept-behind old mid new first.kept second.kept;
  store = second.store ∙ first.store;
  operands = second.operands ∙ first.operands;
  base = second.base ∙ first.base;
  depth = second.depth ∙ first.depth;
  control = second.control;
  stack = second.stack ∙ first.stack;
}
