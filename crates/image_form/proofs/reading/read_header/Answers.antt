use Rattle.image_form.proofs.Ranges.{number_refused, behind_number}
use Rattle.image_form.proofs.ImageFields.{FromSize, FromIndex, some_size, some_index, first_refused, numbers_refused}
use Rattle.image_form.proofs.reading.read_header.Goals as goal

pub returns-in-Err : goal.returns-in-Err
returns-in-Err c = first_refused c.args.bytes.now c.in-Err.fault c.in-Err.ensures

pub returns-in-Err-small_number : goal.returns-in-Err-small_number
returns-in-Err-small_number c =
    numbers_refused c.args.bytes.now c.in-Ok.found.1 c.in-Err-small_number.fault c.in-Ok.ensures.1
    (number_refused 1 1048576 FromIndex c.args.bytes.now c.in-Ok.found.1 c.in-Err-small_number.fault some_index c.in-Err-small_number.ensures)

pub returns-in-Err-small_number-2 : goal.returns-in-Err-small_number-2
returns-in-Err-small_number-2 c =
    numbers_refused c.args.bytes.now c.in-Ok.found.1 c.in-Err-small_number-2.fault c.in-Ok.ensures.1
    (behind_number 1 1048576 FromIndex c.args.bytes.now c.in-Ok.found.1 c.in-Ok-small_number.found.1 c.in-Ok-small_number.found.0 c.in-Err-small_number-2.fault c.in-Ok-small_number.ensures.0 c.in-Ok-small_number.ensures.1
    (number_refused 1 4294967295 FromSize c.args.bytes.now c.in-Ok-small_number.found.1 c.in-Err-small_number-2.fault some_size c.in-Err-small_number-2.ensures))

pub returns-in-Err-small_number-3 : goal.returns-in-Err-small_number-3
returns-in-Err-small_number-3 c =
    numbers_refused c.args.bytes.now c.in-Ok.found.1 c.in-Err-small_number-3.fault c.in-Ok.ensures.1
    (behind_number 1 1048576 FromIndex c.args.bytes.now c.in-Ok.found.1 c.in-Ok-small_number.found.1 c.in-Ok-small_number.found.0 c.in-Err-small_number-3.fault c.in-Ok-small_number.ensures.0 c.in-Ok-small_number.ensures.1
    (behind_number 1 4294967295 FromSize c.args.bytes.now c.in-Ok-small_number.found.1 c.in-Ok-small_number-2.found.1 c.in-Ok-small_number-2.found.0 c.in-Err-small_number-3.fault c.in-Ok-small_number-2.ensures.0 c.in-Ok-small_number-2.ensures.1
    c.in-Err-small_number-3.ensures))
