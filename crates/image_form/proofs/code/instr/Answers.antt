use Rattle.std.proofs.Common.{◌^◌, ◌<◌, ◌∙◌, length, sym, subst, arith}
use Rattle.std.proofs.lemmas.Bool.{ltb-false, ltb-true}
use Rattle.pool_isa.specs.Instr.{spelling}
use Rattle.pool_isa.specs.Spelling.{StandsAt}
use Rattle.image_form.specs.Reading.{range_of, IsInstr}
use Rattle.image_form.proofs.Fields.{byte_stands}
use Rattle.image_form.proofs.Instructions.{instr_at_end, code_wrong, no_range, reference_found, reference_refused, other_refused}
use Rattle.image_form.proofs.code.instr.Goals as goal

pub returns-in_default : goal.returns-in_default
returns-in_default c = instr_at_end c.args.counts c.args.at_end c.args.bytes.now c.args.at (ltb-false c.args.at (length c.args.bytes.now) (sym c.in_default.ensures.lookup.0))

pub returns-then-not-may_stand : goal.returns-then-not-may_stand
returns-then-not-may_stand c =
    let stands = byte_stands c.args.bytes.now c.args.at c.in-Some.code.now _ (ltb-true c.args.at (length c.args.bytes.now) (sym c.in-Some.ensures.lookup.0)) c.in-Some.ensures.lookup.1 in
    code_wrong c.args.counts c.args.at_end c.args.bytes.now c.args.at c.in-Some.code.now stands (λ i e is. c.if-not-may_stand.ensures i e is.2)

pub returns-then-range-eq0 : goal.returns-then-range-eq0
returns-then-range-eq0 c =
    let stands = byte_stands c.args.bytes.now c.args.at c.in-Some.code.now _ (ltb-true c.args.at (length c.args.bytes.now) (sym c.in-Some.ensures.lookup.0)) c.in-Some.ensures.lookup.1 in
    no_range c.args.counts c.args.at_end c.args.bytes.now c.args.at c.in-Some.code.now stands c.in-Some-of.reference c.in-Some-of.ensures.known (sym c.range-range.ensures ∙ c.if-range-eq0.true)

pub returns-in-Ok : goal.returns-in-Ok
returns-in-Ok c =
    let stands = byte_stands c.args.bytes.now c.args.at c.in-Some.code.now _ (ltb-true c.args.at (length c.args.bytes.now) (sym c.in-Some.ensures.lookup.0)) c.in-Some.ensures.lookup.1 in
    let small : range_of c.args.counts c.in-Some-of.reference < 2 ^ 64 = let e = c.range-range.ensures in let t = c.range-range.type_inv in omega arith in
    subst (λ i. IsInstr c.args.counts c.args.at_end i × StandsAt c.args.bytes.now c.args.at c.in-Ok.end (spelling i)) (sym c.with.ensures) (
    reference_found c.args.counts c.args.at_end c.args.bytes.now c.args.at c.in-Some.code.now stands c.in-Some-of.reference c.in-Some-of.ensures.known c.if-not-may_stand.ensures small c.in-Ok.number c.in-Ok.end c.range-range.result c.range-range.ensures c.if-range-eq0.false c.in-Ok.ensures.0 c.in-Ok.ensures.1)

pub returns-in-Err : goal.returns-in-Err
returns-in-Err c =
    let stands = byte_stands c.args.bytes.now c.args.at c.in-Some.code.now _ (ltb-true c.args.at (length c.args.bytes.now) (sym c.in-Some.ensures.lookup.0)) c.in-Some.ensures.lookup.1 in
    let small : range_of c.args.counts c.in-Some-of.reference < 2 ^ 64 = let e = c.range-range.ensures in let t = c.range-range.type_inv in omega arith in
    reference_refused c.args.counts c.args.at_end c.args.bytes.now c.args.at c.in-Some.code.now stands c.in-Some-of.reference c.in-Some-of.ensures.known c.if-not-may_stand.ensures small c.in-Err.fault c.range-range.result c.range-range.ensures c.if-range-eq0.false c.in-Err.ensures

pub returns-in-Err-decode_one : goal.returns-in-Err-decode_one
returns-in-Err-decode_one c =
    let stands = byte_stands c.args.bytes.now c.args.at c.in-Some.code.now _ (ltb-true c.args.at (length c.args.bytes.now) (sym c.in-Some.ensures.lookup.0)) c.in-Some.ensures.lookup.1 in
    other_refused c.args.counts c.args.at_end c.args.bytes.now c.args.at c.in-Some.code.now stands c.if-not-may_stand.ensures c.in-None.ensures.unknown c.in-Err-decode_one.field-0.0 c.in-Err-decode_one.ensures.fault
