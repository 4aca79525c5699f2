use Rattle.std.proofs.Common.{refl, ap, arith}
use Rattle.c_syntax.specs.Trees
use Rattle.c_reader.specs.ExpressionSteps.{GivesOperand}
use Rattle.c_reader.proofs.Results.{passed_on}
use Rattle.c_reader.proofs.Rows.{after, misfit}
use Rattle.c_reader.proofs.ExprRows.{starts, extend, extend_deep}
use Rattle.c_reader.proofs.following.read_post_decrement.Goals as goal

pub returns-in_err-room_behind-clause-gives : goal.returns-in_err-room_behind-clause-gives
returns-in_err-room_behind-clause-gives c level text begun told =
    passed_on c.from_residual.result _ (λ r. GivesOperand level c.args.room text r) c.from_residual.ensures.1 (extend_deep c.args.room _ begun told refl c.in_err-room_behind.ensures.none c.in_err-room_behind.ensures.deep)

pub returns-in_err-operator-clause-gives : goal.returns-in_err-operator-clause-gives
returns-in_err-operator-clause-gives c level text begun told =
    passed_on c.from_residual-in_err-operator.result _ (λ r. GivesOperand level c.args.room text r) c.from_residual-in_err-operator.ensures.1 (misfit _ (extend c.in_ok-room_behind.field-0 begun told c.in_ok-room_behind.ensures.fits c.in_ok-room_behind.ensures.left_fits c.in_ok-room_behind.ensures.found) c.in_err-operator.ensures.none c.in_err-operator.ensures.misfit)

pub returns-clause-gives : goal.returns-clause-gives
returns-clause-gives c level text begun told =
    let shape = begun.shape in
    let low = begun.measured in
    rw c.in_ok-boxed.ensures (starts (after (extend c.in_ok-room_behind.field-0 begun told c.in_ok-room_behind.ensures.fits c.in_ok-room_behind.ensures.left_fits c.in_ok-room_behind.ensures.found) c.in_ok-operator.ensures.found) (ap Trees.PostDecrement shape) (omega (arith, low)) refl)
