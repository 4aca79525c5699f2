-- A run before its first unit.
use Rattle.std.specs.Prelude.{codes}
use Rattle.std.proofs.Common.{◌≡◌, ℕ, ◌-◌, ◌≤◌, List, [], reverse, length, refl, sym, ap, subst, ◌∙◌, arith}
use Rattle.run_theory.specs.Runs.{Ended}
use Rattle.c_typed.specs.Typed.{Program}
use Rattle.c_typed.specs.DefinitionViews.{program_of}
use Rattle.ref_meaning.specs.Trees.{ProgramFits}
use Rattle.ref_semantics.specs.Values.{Scalar}
use Rattle.ref_semantics.specs.Store.{State, Outcome, Then, Stopped, continue_with, halt}
use Rattle.ref_semantics.specs.Library.{low_byte}
use Rattle.ref_semantics.specs.Meaning.{greatest_depth}
use Rattle.ref_semantics.specs.First.{around_of, first_state, run_main}
use Rattle.ref_semantics.specs.Steps.{Start, Config, goes_on}
use Rattle.ref_meaning.specs.RefStore.Holding.{At, left}
use Rattle.ref_meaning.specs.declared.control.Node.TheVariants as N
use Rattle.ref_meaning.specs.declared.control.Task.TheVariants as K
use Rattle.ref_meaning.specs.declared.run.RefRun.{RefRun}
use Rattle.ref_meaning.specs.Views.{table_of, operands_of, config_in, around_run, functions_of, frames_in, operands_after, part_in, task_in}
use Rattle.ref_meaning.specs.Holding.{NodeStands, TaskFits, ScalarsStand, FramesHold, IsFound, calls_among}
use Rattle.ref_meaning.specs.Numbers.{number_from, HasNumbers}
use Rattle.ref_meaning.specs.Running.{StandsFor, reached, behaviour_of}
use Rattle.ref_meaning.proofs.Numbering.{number-means}

reached-over : (outcome : Outcome Scalar) → reached outcome ≡ reached (continue_with (λ a. halt (Ended (low_byte a))) outcome)
reached-over (Then value state) = refl
reached-over (Stopped answer state) = refl

-- what is left to do before the first step is the whole program
goes-behaviour : (program : Program) (depth : ℕ) → depth ≡ greatest_depth → (input : List ℕ) (units : ℕ)
    → behaviour_of program input units ≡ reached (goes_on (around_of program) program.functions (record { task = Start; frames = []; depth = depth }) (left units input (first_state program [] 0)))
goes-behaviour program depth e input units =
    let back = sym e in
    reached-over (run_main program (first_state program input units)) ∙ (λ i. reached (goes_on (around_of program) program.functions (record { task = Start; frames = []; depth = back i }) (left units input (first_state program [] 0))))

-- the run that `new` makes
pub stands-first : (run : RefRun) → run.control ≡ record { node = N.Nothing; task = K.Start } → run.frames.items ≡ [] → run.operands.items ≡ [] → run.base ≡ 0 → run.depth ≡ 0
    → ProgramFits run.program.now → run.store.types.now ≡ run.program.now.types
    → HasNumbers run.functions 0 run.program.now.functions.items
    → run.main ≡ number_from 0 run.program.now.functions.items (codes "main")
    → At (around_run run) run.store 0 (first_state (program_of run.program.now) [] 0)
    → StandsFor run [] (behaviour_of (program_of run.program.now))
stands-first run control frames operands base depth program types numbered main at =
    record {
      holds = record {
        program = program;
        types = types;
        numbered = λ name. numbered name ∙ number-means run.program.now.types 0 run.program.now.functions.items name;
        main = main ∙ number-means run.program.now.types 0 run.program.now.functions.items (codes "main");
        node = subst (λ c. NodeStands (table_of run) c.node) (sym control) tt;
        task = subst (λ c. TaskFits (table_of run) c.node (length (operands_of run)) c.task) (sym control) tt;
        operands = subst (λ items. ScalarsStand (table_of run) (reverse items)) (sym operands) tt;
        frames = subst (λ items. FramesHold (table_of run) run.base (operands_after run.control.task (operands_of run)) (reverse items)) (sym frames) tt;
        found = subst (λ items. IsFound (table_of run) run.control (reverse items)) (sym frames) ((λ awaits. absurd awaits), tt);
        within = subst (λ n. n ≤ length run.store.locals.items) (sym base) (omega arith);
        calls = depth ∙ ap (λ items. calls_among (reverse items)) (sym frames);
        shallow = subst (λ n. n ≤ greatest_depth) (sym depth) (omega arith);
        state = state;
        at = here;
      };
      state = state;
      at = here;
      front = refl;
      behaves = λ input units. goes-behaviour (program_of run.program.now) (greatest_depth - run.depth) deep input units ∙ (λ i. reached (goes_on (around_run run) (functions_of run) (config i) (left units input state)));
    }
  where
    state : State
    state = first_state (program_of run.program.now) [] 0

    here : At (around_run run) run.store run.base state
    here = subst (λ n. At (around_run run) run.store n state) (sym base) at

    deep : greatest_depth - run.depth ≡ greatest_depth
    deep = ap (λ n. greatest_depth - n) depth ∙ omega arith

    first : Config
    first = record { task = Start; frames = []; depth = greatest_depth - run.depth }

    config : first ≡ config_in run
    config =
        let task = sym control in
        let none = sym frames in
        λ i. record {
          task = task_in (table_of run) (operands_of run) (part_in (table_of run) (task i).node) (task i).task;
          frames = frames_in (table_of run) run.store.locals.items run.base (operands_after run.control.task (operands_of run)) (reverse (none i));
          depth = greatest_depth - run.depth;
        }
