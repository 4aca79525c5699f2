-- Three-address code of a program does what the reference does, within a bounded number of steps for each unit.
use Rattle.std.proofs.Common.{ℕ, List, [], refl, arith}
use Rattle.run_theory.specs.Runs.{SimulatesBy}
use Rattle.run_theory.proofs.Simulations.{simulates_from}
use Rattle.c_typed.specs.Typed.{Program}
use Rattle.c_typed.specs.Programs.{IsWellTyped}
use Rattle.c_typed.specs.Sizes.{HasStorableTypes}
use Rattle.ref_semantics.specs.First.{reference}
use Rattle.tac_ir.specs.Code.{Tac}
use Rattle.tac_ir.specs.First.{tac_run}
use Rattle.tac_build.specs.ProgramCode.{Code, start_points}
use Rattle.tac_simulation.specs.Comparing.{seen_events, ticks_per_unit}
use Rattle.tac_simulation.proofs.Worth.{bodies_worth, some_worth}
use Rattle.tac_simulation.proofs.Depths.{main_calls_do}
use Rattle.tac_simulation.proofs.Started.{start_frame, none_placed, none_hidden, start_runs}
use Rattle.tac_simulation.proofs.MainCall.{FirstCallsDo, answers_main}

-- The bound is the same whatever a tick is worth.
pub code_simulates : (program : Program) (tac : Tac) → Code program tac → IsWellTyped program → HasStorableTypes program
    → (input : List ℕ) → SimulatesBy seen_events (reference program input) (tac_run tac input) ticks_per_unit ticks_per_unit
code_simulates program tac coded well storable input =
    let worth = bodies_worth program.functions in
    let calls_do : FirstCallsDo program tac coded worth =
    main_calls_do tac program worth coded well storable (some_worth program.functions) (start_points coded.main) start_frame none_hidden (start_runs program tac coded) refl none_placed [] in
    simulates_from seen_events (reference program input) (tac_run tac input) ticks_per_unit ticks_per_unit 1 worth (λ n.
    let a = answers_main program tac coded worth well storable input n calls_do in
    (a.took, omega (arith, a.allowed), a.matches, λ g. let covered = a.covered g in omega (arith, covered)))
