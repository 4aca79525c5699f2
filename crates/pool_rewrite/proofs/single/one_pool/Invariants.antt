use Rattle.std.proofs.Common.{◌≡◌, map, take}
use Rattle.tac_ir.specs.Views.{function_in}
use Rattle.pool_rewrite.specs.Plan as spec
use Rattle.pool_rewrite.specs.Views.{function_plan_of}
use Rattle.pool_rewrite.proofs.single.one_pool.Given as goal

-- a plan for each function before the index
abbrev pub invariant-loop-function : goal.invariant-loop-function
invariant-loop-function l = map function_plan_of l.functions.items ≡ map spec.one_pool_function (map (function_in l.tac.types) (take l._function-index l._function-items))
