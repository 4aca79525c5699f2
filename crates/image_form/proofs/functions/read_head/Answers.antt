use Rattle.image_form.proofs.Ranges.{number_refused, behind_number}
use Rattle.image_form.proofs.FunctionFields.{FromCount, FromSignature, FromHeight, FromExtra, some_count, some_signature, some_height, some_extra, head_refused}
use Rattle.image_form.proofs.functions.read_head.Goals as goal

pub returns-in-Err : goal.returns-in-Err
returns-in-Err c =
    head_refused c.args.most c.args.bytes.now c.args.at c.in-Err.fault
    (number_refused 0 c.args.most FromExtra c.args.bytes.now c.args.at c.in-Err.fault some_extra c.in-Err.ensures)

pub returns-in-Err-small_number : goal.returns-in-Err-small_number
returns-in-Err-small_number c =
    head_refused c.args.most c.args.bytes.now c.args.at c.in-Err-small_number.fault
    (behind_number 0 c.args.most FromExtra c.args.bytes.now c.args.at c.in-Ok.found.1 c.in-Ok.found.0 c.in-Err-small_number.fault c.in-Ok.ensures.0 c.in-Ok.ensures.1
    (number_refused 0 67108864 FromHeight c.args.bytes.now c.in-Ok.found.1 c.in-Err-small_number.fault some_height c.in-Err-small_number.ensures))

pub returns-in-Err-small_number-2 : goal.returns-in-Err-small_number-2
returns-in-Err-small_number-2 c =
    head_refused c.args.most c.args.bytes.now c.args.at c.in-Err-small_number-2.fault
    (behind_number 0 c.args.most FromExtra c.args.bytes.now c.args.at c.in-Ok.found.1 c.in-Ok.found.0 c.in-Err-small_number-2.fault c.in-Ok.ensures.0 c.in-Ok.ensures.1
    (behind_number 0 67108864 FromHeight c.args.bytes.now c.in-Ok.found.1 c.in-Ok-small_number.found.1 c.in-Ok-small_number.found.0 c.in-Err-small_number-2.fault c.in-Ok-small_number.ensures.0 c.in-Ok-small_number.ensures.1
    (number_refused 1 65536 FromSignature c.args.bytes.now c.in-Ok-small_number.found.1 c.in-Err-small_number-2.fault some_signature c.in-Err-small_number-2.ensures)))

pub returns-in-Err-small_number-3 : goal.returns-in-Err-small_number-3
returns-in-Err-small_number-3 c =
    head_refused c.args.most c.args.bytes.now c.args.at c.in-Err-small_number-3.fault
    (behind_number 0 c.args.most FromExtra c.args.bytes.now c.args.at c.in-Ok.found.1 c.in-Ok.found.0 c.in-Err-small_number-3.fault c.in-Ok.ensures.0 c.in-Ok.ensures.1
    (behind_number 0 67108864 FromHeight c.args.bytes.now c.in-Ok.found.1 c.in-Ok-small_number.found.1 c.in-Ok-small_number.found.0 c.in-Err-small_number-3.fault c.in-Ok-small_number.ensures.0 c.in-Ok-small_number.ensures.1
    (behind_number 1 65536 FromSignature c.args.bytes.now c.in-Ok-small_number.found.1 c.in-Ok-small_number-2.found.1 c.in-Ok-small_number-2.found.0 c.in-Err-small_number-3.fault c.in-Ok-small_number-2.ensures.0 c.in-Ok-small_number-2.ensures.1
    (number_refused 0 4294967295 FromCount c.args.bytes.now c.in-Ok-small_number-2.found.1 c.in-Err-small_number-3.fault some_count c.in-Err-small_number-3.ensures))))

pub returns-in-Err-number_within : goal.returns-in-Err-number_within
returns-in-Err-number_within c =
    head_refused c.args.most c.args.bytes.now c.args.at c.in-Err-number_within.fault
    (behind_number 0 c.args.most FromExtra c.args.bytes.now c.args.at c.in-Ok.found.1 c.in-Ok.found.0 c.in-Err-number_within.fault c.in-Ok.ensures.0 c.in-Ok.ensures.1
    (behind_number 0 67108864 FromHeight c.args.bytes.now c.in-Ok.found.1 c.in-Ok-small_number.found.1 c.in-Ok-small_number.found.0 c.in-Err-number_within.fault c.in-Ok-small_number.ensures.0 c.in-Ok-small_number.ensures.1
    (behind_number 1 65536 FromSignature c.args.bytes.now c.in-Ok-small_number.found.1 c.in-Ok-small_number-2.found.1 c.in-Ok-small_number-2.found.0 c.in-Err-number_within.fault c.in-Ok-small_number-2.ensures.0 c.in-Ok-small_number-2.ensures.1
    (behind_number 0 4294967295 FromCount c.args.bytes.now c.in-Ok-small_number-2.found.1 c.in-Ok-small_number-3.found.1 c.in-Ok-small_number-3.found.0 c.in-Err-number_within.fault c.in-Ok-small_number-3.ensures.0 c.in-Ok-small_number-3.ensures.1
    c.in-Err-number_within.ensures))))
