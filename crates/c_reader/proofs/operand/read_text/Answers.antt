use Rattle.std.proofs.Common.{◌≡◌}
use Rattle.c_grammar.specs.Leaves.{leaves_of}
use Rattle.c_reader.specs.Steps.{first_bytes}
use Rattle.c_reader.specs.ExpressionSteps.{GivesOperand}
use Rattle.c_reader.proofs.Results.{passed_on}
use Rattle.c_reader.proofs.ExprRows.{text_read, text_fault, text_misfit, too_deep}
use Rattle.c_reader.proofs.operand.read_text.Goals as goal

pub returns-in_err-room_below-clause-gives : goal.returns-in_err-room_below-clause-gives
returns-in_err-room_below-clause-gives c level told =
    passed_on c.from_residual.result _ (λ r. GivesOperand level c.args.room (leaves_of c.args.tokens.now) r) c.from_residual.ensures.1 (too_deep c.args.room _ told c.in_err-room_below.ensures.none c.in_err-room_below.ensures.deep)

pub returns-in_err-first-clause-gives : goal.returns-in_err-first-clause-gives
returns-in_err-first-clause-gives c level told =
    passed_on c.from_residual-in_err-first.result _ (λ r. GivesOperand level c.args.room (leaves_of c.args.tokens.now) r) c.from_residual-in_err-first.ensures.1 (text_misfit c.args.room _ _ told c.in_ok-room_below.ensures.fits c.in_ok-room_below.ensures.found c.in_err-first.ensures.none c.in_err-first.ensures.misfit)

pub returns-in_err-bytes-2-clause-gives : goal.returns-in_err-bytes-2-clause-gives
returns-in_err-bytes-2-clause-gives c level told =
    passed_on c.from_residual-in_err-bytes-2.result _ (λ r. GivesOperand level c.args.room (leaves_of c.args.tokens.now) r) c.from_residual-in_err-bytes-2.ensures.1 (text_fault c.args.room _ _ c.in_ok-first.ensures.found told c.in_ok-room_below.ensures.fits c.in_ok-room_below.ensures.found (c.in_err-bytes-2.ensures.gives c.in_ok-room_below.field-0))

pub returns-clause-gives : goal.returns-clause-gives
returns-clause-gives c level told =
    let held : c.in_ok-bytes.bytes.items ≡ first_bytes (leaves_of c.args.tokens.now) = cc (c.in_ok-bytes.ensures.items, c.as_slice.ensures, c.in_ok-literal.ensures) in
    rw (c.in_ok-boxed.ensures, c.new.ensures) (text_read c.in_ok-room_below.field-0 c.in_ok-first.ensures.found told c.in_ok-room_below.ensures.fits c.in_ok-room_below.ensures.found held (c.in_ok-bytes-2.ensures.gives c.in_ok-room_below.field-0))
