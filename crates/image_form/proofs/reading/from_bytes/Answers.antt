use Rattle.std.proofs.Common.{◌∙◌, [], length, drop, sym, ap, arith}
use Rattle.std.proofs.lemmas.List.{append-nil, length-drop}
use Rattle.image_form.specs.Form.{form_of, image_bytes}
use Rattle.image_form.proofs.ImageFields.{unique_image, not_decoded, bad_place, bad_behind}
use Rattle.image_form.proofs.reading.from_bytes.Goals as goal

pub returns-then-end-bytes-clause-only : goal.returns-then-end-bytes-clause-only
returns-then-end-bytes-clause-only c = λ form is.
    (unique_image (form_of c.in-Ok.image) form (drop c.in-Ok.end c.args.bytes.now) [] c.in-Ok.ensures.0 is.ranges (sym c.in-Ok.ensures.1.parts ∙ is.spelled ∙ sym (append-nil (image_bytes form)))).0

pub returns-else-end-bytes-clause-only : goal.returns-else-end-bytes-clause-only
returns-else-end-bytes-clause-only c = λ form is.
    let same = unique_image (form_of c.in-Ok.image) form (drop c.in-Ok.end c.args.bytes.now) [] c.in-Ok.ensures.0 is.ranges (sym c.in-Ok.ensures.1.parts ∙ is.spelled ∙ sym (append-nil (image_bytes form))) in
    let none = sym (length-drop c.in-Ok.end c.args.bytes.now) ∙ ap length same.1 in
    let within = c.in-Ok.ensures.1.within in
    c.if-end-bytes.false (omega arith)

pub returns-else-end-bytes-clause-bad : goal.returns-else-end-bytes-clause-bad
returns-else-end-bytes-clause-bad c = bad_behind c.args.bytes.now c.in-Ok.end (form_of c.in-Ok.image) c.in-Ok.ensures.0 c.in-Ok.ensures.1 c.if-end-bytes.false

pub returns-in-Err-clause-only : goal.returns-in-Err-clause-only
returns-in-Err-clause-only c = not_decoded c.args.bytes.now form_of c.in-Err.fault c.in-Err.ensures

pub returns-in-Err-clause-bad : goal.returns-in-Err-clause-bad
returns-in-Err-clause-bad c = bad_place c.args.bytes.now c.in-Err.fault c.in-Err.ensures
