use Rattle.std.proofs.Common.{◌≡◌, ◌++◌, map, drop}
use Rattle.c_typed.specs.Table.{structs_in}
use Rattle.tac_ir.specs.Views as T
use Rattle.pool_ir.specs.Views as V
use Rattle.pool_rewrite.specs.Rewriting as R
use Rattle.pool_rewrite.specs.Rewritable.{known_type}
use Rattle.pool_rewrite.proofs.paths.steps_of.Given as goal

-- the steps before the index, and the others from the type to which these lead
abbrev pub invariant-loop-step : goal.invariant-loop-step
invariant-loop-step l =
    map V.step_of l.made.items ++ R.steps_of (structs_in l.types) (known_type l.types l.c_type) (map T.step_of (drop l.step-index l.steps))
    ≡ R.steps_of (structs_in l.types) (known_type l.types l.fn.whole) (map T.step_of l.steps)
