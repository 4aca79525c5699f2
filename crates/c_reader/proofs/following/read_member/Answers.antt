use Rattle.std.proofs.Common.{refl, arith}
use Rattle.c_reader.specs.ExpressionSteps.{GivesOperand}
use Rattle.c_reader.proofs.Results.{passed_on}
use Rattle.c_reader.proofs.Rows.{after, behind_token, misfit, unfit_fault}
use Rattle.c_reader.proofs.ExprRows.{starts, extend, extend_deep, same_member}
use Rattle.c_reader.proofs.following.read_member.Goals as goal

pub returns-in_err-room_behind-clause-gives : goal.returns-in_err-room_behind-clause-gives
returns-in_err-room_behind-clause-gives c level text begun told =
    passed_on c.from_residual.result _ (λ r. GivesOperand level c.args.room text r) c.from_residual.ensures.1 (extend_deep c.args.room _ begun told refl c.in_err-room_behind.ensures.none c.in_err-room_behind.ensures.deep)

pub returns-in_err-operator-clause-gives : goal.returns-in_err-operator-clause-gives
returns-in_err-operator-clause-gives c level text begun told =
    passed_on c.from_residual-in_err-operator.result _ (λ r. GivesOperand level c.args.room text r) c.from_residual-in_err-operator.ensures.1 (misfit _ (extend c.in_ok-room_behind.field-0 begun told c.in_ok-room_behind.ensures.fits c.in_ok-room_behind.ensures.left_fits c.in_ok-room_behind.ensures.found) c.in_err-operator.ensures.none c.in_err-operator.ensures.misfit)

pub returns-in_err-member-clause-gives : goal.returns-in_err-member-clause-gives
returns-in_err-member-clause-gives c level text begun told =
    passed_on c.from_residual-in_err-member.result _ (λ r. GivesOperand level c.args.room text r) c.from_residual-in_err-member.ensures.1 (unfit_fault _ (after (extend c.in_ok-room_behind.field-0 begun told c.in_ok-room_behind.ensures.fits c.in_ok-room_behind.ensures.left_fits c.in_ok-room_behind.ensures.found) c.in_ok-operator.ensures.found) c.in_err-member.ensures.gives)

pub returns-clause-gives : goal.returns-clause-gives
returns-clause-gives c level text begun told =
    let named = c.in_ok-member.ensures.gives in
    let name = named.is_name in
    let shape = begun.shape in
    let low = begun.measured in
    rw c.in_ok-boxed.ensures (starts (behind_token named.leaf (after (extend c.in_ok-room_behind.field-0 begun told c.in_ok-room_behind.ensures.fits c.in_ok-room_behind.ensures.left_fits c.in_ok-room_behind.ensures.found) c.in_ok-operator.ensures.found) named.parts named.is_kind) (same_member shape name) (omega (arith, low)) refl)
