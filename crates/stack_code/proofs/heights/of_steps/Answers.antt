use Rattle.std.proofs.Common.{map, arith}
use Rattle.pool_ir.specs.Views.{step_of}
use Rattle.stack_code.proofs.GreatestHeights.{some_height}
use Rattle.stack_code.proofs.heights.of_steps.Goals as goal

pub loop-step-init : goal.loop-step-init
loop-step-init c =
    let least = some_height (map step_of c.args.steps.now) in
    record { some = omega arith; whole = omega arith }
