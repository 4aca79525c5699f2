use Rattle.std.proofs.Common.{◌≡◌, ◌++◌, ◌-◌, map, drop, length}
use Rattle.tac_ir.specs.Views.{tac_of, function_in}
use Rattle.pool_ir.specs.Views as V
use Rattle.pool_rewrite.specs.Views.{function_plan_of}
use Rattle.pool_rewrite.specs.Rewriting as R
use Rattle.pool_rewrite.proofs.functions.functions_of.Given as goal

-- the functions before the number, and the others
abbrev pub invariant-loop-number : goal.invariant-loop-number
invariant-loop-number l =
    map V.function_of l.made.items ++ R.functions_of (tac_of l.tac) (map function_plan_of (drop l.number l.plans)) (map (function_in l.tac.types) (drop l.number l.functions))
    ≡ R.functions_of (tac_of l.tac) (map function_plan_of l.plans) (map (function_in l.tac.types) l.functions)

abbrev pub decreases-loop-number : goal.decreases-loop-number
decreases-loop-number l = length l.plans - l.number
