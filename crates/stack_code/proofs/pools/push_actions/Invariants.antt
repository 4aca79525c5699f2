use Rattle.std.proofs.Common.{◌≡◌, ◌++◌, map, drop}
use Rattle.std.specs.List.{AllByRecursion}
use Rattle.pool_ir.specs.Views.{action_of, frame_of, function_of}
use Rattle.stack_code.specs.Emitting.{actions_code}
use Rattle.stack_code.specs.Fitting.{ActionFits}
use Rattle.stack_code.proofs.pools.push_actions.Given as goal

-- with the actions that are left, the code is the whole
abbrev pub invariant-loop-action : goal.invariant-loop-action
invariant-loop-action l = record {
  fits : AllByRecursion (ActionFits (frame_of l.function.frame)) (map action_of (drop l.action-index l.actions));
  code : l.code.items ++ actions_code (function_of l.function) (map action_of (drop l.action-index l.actions)) ≡ l.initial.code.items ++ actions_code (function_of l.function) (map action_of l.actions);
}
