use Rattle.image_form.proofs.Ranges.{number_refused, behind_number}
use Rattle.image_form.proofs.KindFields.{FromIndexed, FromCell, some_indexed, some_cell, homogeneous_refused, homogeneous_stands}
use Rattle.image_form.proofs.kinds.homogeneous.Goals as goal

pub returns-in-Err : goal.returns-in-Err
returns-in-Err c =
    homogeneous_refused c.args.bytes.now c.args.at c.in-Err.fault
    (number_refused 1 1048576 FromCell c.args.bytes.now c.args.at c.in-Err.fault some_cell c.in-Err.ensures)

pub returns-in-Err-small_number : goal.returns-in-Err-small_number
returns-in-Err-small_number c =
    homogeneous_refused c.args.bytes.now c.args.at c.in-Err-small_number.fault
    (behind_number 1 1048576 FromCell c.args.bytes.now c.args.at c.in-Ok.found.1 c.in-Ok.found.0 c.in-Err-small_number.fault c.in-Ok.ensures.0 c.in-Ok.ensures.1
    (number_refused 1 262144 FromIndexed c.args.bytes.now c.in-Ok.found.1 c.in-Err-small_number.fault some_indexed c.in-Err-small_number.ensures))

pub returns-in-Err-number_within : goal.returns-in-Err-number_within
returns-in-Err-number_within c =
    homogeneous_refused c.args.bytes.now c.args.at c.in-Err-number_within.fault
    (behind_number 1 1048576 FromCell c.args.bytes.now c.args.at c.in-Ok.found.1 c.in-Ok.found.0 c.in-Err-number_within.fault c.in-Ok.ensures.0 c.in-Ok.ensures.1
    (behind_number 1 262144 FromIndexed c.args.bytes.now c.in-Ok.found.1 c.in-Ok-small_number.found.1 c.in-Ok-small_number.found.0 c.in-Err-number_within.fault c.in-Ok-small_number.ensures.0 c.in-Ok-small_number.ensures.1
    c.in-Err-number_within.ensures))

pub returns : goal.returns
returns c =
    rw c.from.ensures (rw c.from-2.ensures (homogeneous_stands c.args.bytes.now c.args.at c.in-Ok.found.1 c.in-Ok-small_number.found.1 c.in-Ok-number_within.end c.in-Ok.found.0 c.in-Ok-small_number.found.0 c.in-Ok-number_within.number c.in-Ok.ensures.0 c.in-Ok-small_number.ensures.0 c.in-Ok-number_within.ensures.0 c.in-Ok.ensures.1 c.in-Ok-small_number.ensures.1 c.in-Ok-number_within.ensures.1))
