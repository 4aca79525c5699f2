use Rattle.std.proofs.Common.{◌≡◌, ◌≤◌, map, drop}
use Rattle.std.specs.Prelude.{max}
use Rattle.pool_ir.specs.Views.{step_of}
use Rattle.stack_code.specs.Emitting.{steps_height}
use Rattle.stack_code.proofs.heights.of_steps.Given as goal

-- with the steps that are left, it is the height of all
abbrev pub invariant-loop-step : goal.invariant-loop-step
invariant-loop-step l = record {
  some : 1 ≤ l.height;
  whole : max l.height (steps_height (map step_of (drop l.step-index l.steps))) ≡ steps_height (map step_of l.steps);
}
