use Rattle.std.proofs.Common.{◌-◌, length, take, drop, arith}
use Rattle.std.proofs.lemmas.List.{nil_from_length}
use Rattle.pool_isa.proofs.Faults.{first_and_rest}
use Rattle.pool_isa.proofs.Numbers.{number_at_end, number_behind, alone_parts, more_parts}
use Rattle.pool_isa.proofs.number.number_front.Goals as goal

pub returns-in_default-clause-fault : goal.returns-in_default-clause-fault
returns-in_default-clause-fault c =
    let empty = nil_from_length c.args.bytes.now (omega (arith, c.in_default.len_below)) in
    rw empty number_at_end

pub returns-then-low-lt128-clause-parts : goal.returns-then-low-lt128-clause-parts
returns-then-low-lt128-clause-parts c =
    let parts = first_and_rest c.args.bytes.now c.from-low.result c.in-len1-up.len_at_least c.from-low.ensures in
    alone_parts c.args.bytes.now c.from-low.result (take (length c.args.bytes.now - 1) (drop 1 c.args.bytes.now)) parts c.if-low-lt128.true

pub returns-in-Ok-clause-parts : goal.returns-in-Ok-clause-parts
returns-in-Ok-clause-parts c =
    let parts = first_and_rest c.args.bytes.now c.from-low.result c.in-len1-up.len_at_least c.from-low.ensures in
    more_parts c.args.bytes.now c.from-low.result (take (length c.args.bytes.now - 1) (drop 1 c.args.bytes.now)) c.in-Ok.high c.in-Ok.rest.now parts c.in-Ok.ensures.parts (omega arith) (omega (arith, c.from-low.ensures, c.type_inv.bytes 0)) c.in-Ok.ensures.positive

pub returns-in-Err-clause-fault : goal.returns-in-Err-clause-fault
returns-in-Err-clause-fault c =
    let rest = take (length c.args.bytes.now - 1) (drop 1 c.args.bytes.now) in
    let parts = first_and_rest c.args.bytes.now c.from-low.result c.in-len1-up.len_at_least c.from-low.ensures in
    rw parts (number_behind c.from-low.result rest c.in-Err.good (omega arith) (omega (arith, c.from-low.ensures, c.type_inv.bytes 0)) c.in-Err.ensures.fault)
