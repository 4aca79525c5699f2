use Rattle.std.proofs.Common.{◌≡◌, length, subst, arith}
use Rattle.image_form.proofs.ImageFields.{header_wrong, contents_wrong, kinds_wrong, functions_wrong}
use Rattle.image_form.specs.Reading.{Spelled, Refuses, IsAllFunctions, contents_of, kinds_of}
use Rattle.image_form.specs.Form.{function_bytes, counted}
use Rattle.image_form.proofs.reading.image.Goals as goal

pub returns-in-Err : goal.returns-in-Err
returns-in-Err c = header_wrong c.args.bytes.now c.in-Err.fault c.in-Err.ensures

pub returns-in-Err-counted_contents : goal.returns-in-Err-counted_contents
returns-in-Err-counted_contents c = contents_wrong c.args.bytes.now c.in-Err-counted_contents.fault c.in-Ok.found.1 c.in-Ok.found.0 c.in-Ok.ensures.0 c.in-Ok.ensures.1 c.in-Err-counted_contents.ensures

pub returns-in-Err-counted_kinds : goal.returns-in-Err-counted_kinds
returns-in-Err-counted_kinds c = kinds_wrong c.args.bytes.now c.in-Err-counted_kinds.fault c.in-Ok.found.1 c.in-Ok.found.0 c.in-Ok.ensures.0 c.in-Ok.ensures.1 c.in-Ok-counted_contents.found.1 (contents_of c.in-Ok-counted_contents.found.0) c.in-Ok-counted_contents.ensures.0 c.in-Ok-counted_contents.ensures.1 c.in-Err-counted_kinds.ensures

pub returns-in-Err-counted_functions : goal.returns-in-Err-counted_functions
returns-in-Err-counted_functions c =
    let kinds = kinds_of c.in-Ok-counted_kinds.found.0 in
    let many : c.len.result ≡ length kinds = let l = c.len.ensures in let o = c.in-Ok-counted_kinds.found.0.ok in let e = c.len.type_inv in omega arith in
    functions_wrong c.args.bytes.now c.in-Err-counted_functions.fault c.in-Ok.found.1 c.in-Ok.found.0 c.in-Ok.ensures.0 c.in-Ok.ensures.1 c.in-Ok-counted_contents.found.1 (contents_of c.in-Ok-counted_contents.found.0) c.in-Ok-counted_contents.ensures.0 c.in-Ok-counted_contents.ensures.1 c.in-Ok-counted_kinds.found.1 kinds c.in-Ok-counted_kinds.ensures.0 c.in-Ok-counted_kinds.ensures.1
    (subst (λ n. Refuses (Spelled (IsAllFunctions n) (counted function_bytes)) c.args.bytes.now c.in-Ok-counted_kinds.found.1 c.in-Err-counted_functions.fault) many c.in-Err-counted_functions.ensures)
