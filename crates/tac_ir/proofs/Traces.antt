-- Three-address code never takes an event back: what a program does on an input is a run.
use Rattle.std.proofs.Common.{ℕ, List}
use Rattle.run_theory.specs.Runs.{Move, KeepsTrace, IsRun}
use Rattle.run_theory.proofs.Machines.{steps_run}
use Rattle.tac_ir.specs.States.{State}
use Rattle.tac_ir.specs.Meaning.{act}
use Rattle.tac_ir.specs.First.{initial, tac_run}
use Rattle.tac_ir.specs.Code.{Tac}
use Rattle.tac_ir.proofs.Steps.{Keeps, goes_on, halts, step_keeps}

in_front : (old : State) (move : Move State) → Keeps old.trace move → KeepsTrace (λ state. state.trace) old move
in_front old move (goes_on new kept) = kept
in_front old move (halts final new kept none) = kept

pub keeps_trace : (tac : Tac) (state : State) → KeepsTrace (λ state. state.trace) state (act tac state)
keeps_trace tac state = in_front state (act tac state) (step_keeps tac state)

pub is_run : (tac : Tac) (input : List ℕ) → IsRun (tac_run tac input)
is_run tac input = steps_run (act tac) (λ state. state.trace) (keeps_trace tac) (initial tac input)
