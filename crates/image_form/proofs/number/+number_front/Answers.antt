use Rattle.std.proofs.Common.{◌-◌, length, take, drop, arith}
use Rattle.std.proofs.lemmas.List.{nil_from_length}
use Rattle.pool_isa.proofs.Faults.{first_and_rest}
use Rattle.image_form.proofs.Ranges.{one_byte, more_bytes, range_at_end, byte_outside, fault_in_rest}
use Rattle.image_form.proofs.number.+number_front.Goals as goal

pub returns-in_default-clause-fault : goal.returns-in_default-clause-fault
returns-in_default-clause-fault t c =
    let empty = nil_from_length c.args.bytes.now (omega (arith, c.in_default.len_below)) in
    rw empty (range_at_end c.args.low c.args.high c.requires.small c.requires.some)

pub returns-then-byte-low-clause-fault : goal.returns-then-byte-low-clause-fault
returns-then-byte-low-clause-fault t c =
    let rest = take (length c.args.bytes.now - 1) (drop 1 c.args.bytes.now) in
    let parts = first_and_rest c.args.bytes.now c.from-byte.result c.in-len1-up.len_at_least c.from-byte.ensures in
    rw parts (byte_outside c.args.low c.args.high c.requires.small c.requires.some c.from-byte.result rest c.then-byte-low.either)

pub returns-then-byte-lt128-clause-parts : goal.returns-then-byte-lt128-clause-parts
returns-then-byte-lt128-clause-parts t c =
    let parts = first_and_rest c.args.bytes.now c.from-byte.result c.in-len1-up.len_at_least c.from-byte.ensures in
    one_byte c.args.bytes.now (take (length c.args.bytes.now - 1) (drop 1 c.args.bytes.now)) c.from-byte.result parts c.if-byte-lt128.true

pub returns-in-Ok-clause-parts : goal.returns-in-Ok-clause-parts
returns-in-Ok-clause-parts t c =
    let parts = first_and_rest c.args.bytes.now c.from-byte.result c.in-len1-up.len_at_least c.from-byte.ensures in
    more_bytes c.args.bytes.now (take (length c.args.bytes.now - 1) (drop 1 c.args.bytes.now)) c.in-Ok.rest.now c.from-byte.result c.in-Ok.more parts c.in-Ok.ensures.parts c.if-byte-lt128.false (omega (arith, c.from-byte.ensures, c.type_inv.bytes 0)) c.in-Ok.ensures.range.0

pub returns-in-Err-clause-fault : goal.returns-in-Err-clause-fault
returns-in-Err-clause-fault t c =
    let rest = take (length c.args.bytes.now - 1) (drop 1 c.args.bytes.now) in
    let parts = first_and_rest c.args.bytes.now c.from-byte.result c.in-len1-up.len_at_least c.from-byte.ensures in
    rw parts (fault_in_rest c.args.low c.args.high c.requires.small c.requires.some c.from-byte.result rest c.in-Err.good c.if-byte-lt128.false (omega (arith, c.from-byte.ensures, c.type_inv.bytes 0)) c.if-byte-high.false c.in-Err.ensures.fault)
