use Rattle.std.proofs.Common.{◌≡◌, ◌++◌, map, drop}
use Rattle.std.specs.List.{AllByRecursion}
use Rattle.pool_ir.specs.Views.{frame_of, function_of, step_of}
use Rattle.stack_code.specs.Emitting.{steps_code}
use Rattle.stack_code.specs.Fitting.{StepFits}
use Rattle.stack_code.proofs.paths.push_steps.Given as goal

-- with the steps that are left, the code is the whole
abbrev pub invariant-loop-step : goal.invariant-loop-step
invariant-loop-step l = record {
  fits : AllByRecursion (StepFits (frame_of l.function.frame)) (map step_of (drop l.step-index l.steps));
  code : l.code.items ++ steps_code (function_of l.function) (map step_of (drop l.step-index l.steps)) ≡ l.initial.code.items ++ steps_code (function_of l.function) (map step_of l.steps);
}
