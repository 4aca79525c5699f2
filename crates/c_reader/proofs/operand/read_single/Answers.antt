use Rattle.c_grammar.specs.Leaves.{leaves_of}
use Rattle.c_reader.specs.ExpressionSteps.{GivesOperand}
use Rattle.c_reader.proofs.Results.{passed_on}
use Rattle.c_reader.proofs.ExprRows.{single_row, single_misfit, too_deep}
use Rattle.c_reader.proofs.operand.read_single.Goals as goal

pub returns-in_err-room_below-clause-gives : goal.returns-in_err-room_below-clause-gives
returns-in_err-room_below-clause-gives c level told =
    passed_on c.from_residual.result _ (λ r. GivesOperand level c.args.room (leaves_of c.args.tokens.now) r) c.from_residual.ensures.1 (too_deep c.args.room _ told c.in_err-room_below.ensures.none c.in_err-room_below.ensures.deep)

pub returns-in_err-passed-clause-gives : goal.returns-in_err-passed-clause-gives
returns-in_err-passed-clause-gives c level told =
    passed_on c.from_residual-in_err-passed.result _ (λ r. GivesOperand level c.args.room (leaves_of c.args.tokens.now) r) c.from_residual-in_err-passed.ensures.1 (single_misfit c.args.room _ _ told c.in_ok-room_below.ensures.fits c.in_ok-room_below.ensures.found c.in_err-passed.ensures.none c.in_err-passed.ensures.misfit)

pub returns-clause-gives : goal.returns-clause-gives
returns-clause-gives c level told =
    rw (c.in_ok-boxed.ensures, c.in_ok-expr.ensures) (single_row _ c.in_ok-passed.ensures.found told c.in_ok-room_below.ensures.fits c.in_ok-room_below.ensures.found)
