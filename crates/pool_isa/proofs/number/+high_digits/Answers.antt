use Rattle.std.proofs.Common.{◌≡◌, ◌-◌, ◌∷◌, length, take, drop, arith}
use Rattle.std.proofs.lemmas.List.{nil_from_length}
use Rattle.pool_isa.proofs.Faults.{first_and_rest}
use Rattle.pool_isa.proofs.Numbers.{high_at_end, high_zero, high_last, high_behind, bound-more, bound_holds_small, bound_is_small, alone_parts, more_parts}
use Rattle.pool_isa.proofs.number.+high_digits.Goals as goal

pub returns-in_default-clause-fault : goal.returns-in_default-clause-fault
returns-in_default-clause-fault t c =
    let empty = nil_from_length c.args.bytes.now (omega (arith, c.in_default.len_below)) in
    rw empty (high_at_end c.args.more)

pub returns-then-low-eq0-clause-fault : goal.returns-then-low-eq0-clause-fault
returns-then-low-eq0-clause-fault t c =
    let rest = take (length c.args.bytes.now - 1) (drop 1 c.args.bytes.now) in
    let parts : c.args.bytes.now ≡ 0 ∷ rest = first_and_rest c.args.bytes.now 0 c.in-len1-up.len_at_least (omega (arith, c.from-low.ensures, c.if-low-eq0.true)) in
    rw parts (high_zero c.args.more rest)

pub returns-then-low-eq1-clause-parts : goal.returns-then-low-eq1-clause-parts
returns-then-low-eq1-clause-parts t c =
    let parts = first_and_rest c.args.bytes.now c.from-low.result c.in-len1-up.len_at_least c.from-low.ensures in
    alone_parts c.args.bytes.now c.from-low.result (take (length c.args.bytes.now - 1) (drop 1 c.args.bytes.now)) parts (omega arith)

pub returns-else-low-eq1-clause-fault : goal.returns-else-low-eq1-clause-fault
returns-else-low-eq1-clause-fault t c =
    let rest = take (length c.args.bytes.now - 1) (drop 1 c.args.bytes.now) in
    let parts = first_and_rest c.args.bytes.now c.from-low.result c.in-len1-up.len_at_least c.from-low.ensures in
    rw (c.if-more-eq0.true, parts) (high_last c.from-low.result rest (omega arith))

pub returns-then-low-lt128-clause-parts : goal.returns-then-low-lt128-clause-parts
returns-then-low-lt128-clause-parts t c =
    let parts = first_and_rest c.args.bytes.now c.from-low.result c.in-len1-up.len_at_least c.from-low.ensures in
    alone_parts c.args.bytes.now c.from-low.result (take (length c.args.bytes.now - 1) (drop 1 c.args.bytes.now)) parts (omega arith)

pub returns-then-low-lt128-clause-bound : goal.returns-then-low-lt128-clause-bound
returns-then-low-lt128-clause-bound t c = bound_holds_small c.args.more (c.args.more - 1) c.from-low.result (omega arith) (omega arith)

pub overflow_mul-result : goal.overflow_mul-result
overflow_mul-result t c = omega (arith, bound_is_small (c.args.more - 1) c.in-Ok.high (omega arith) c.in-Ok.ensures.bound)

pub overflow_add-result : goal.overflow_add-result
overflow_add-result t c = omega (arith, bound_is_small (c.args.more - 1) c.in-Ok.high (omega arith) c.in-Ok.ensures.bound, c.from-low.ensures, c.type_inv.bytes 0)

pub returns-in-Ok-clause-parts : goal.returns-in-Ok-clause-parts
returns-in-Ok-clause-parts t c =
    let parts = first_and_rest c.args.bytes.now c.from-low.result c.in-len1-up.len_at_least c.from-low.ensures in
    more_parts c.args.bytes.now c.from-low.result (take (length c.args.bytes.now - 1) (drop 1 c.args.bytes.now)) c.in-Ok.high c.in-Ok.rest.now parts c.in-Ok.ensures.parts (omega arith) (omega (arith, c.from-low.ensures, c.type_inv.bytes 0)) c.in-Ok.ensures.positive

pub returns-in-Ok-clause-bound : goal.returns-in-Ok-clause-bound
returns-in-Ok-clause-bound t c = omega (arith, bound-more c.args.more (c.args.more - 1) c.in-Ok.high (omega arith) c.in-Ok.ensures.bound, c.from-low.ensures, c.type_inv.bytes 0)

pub returns-in-Err-clause-fault : goal.returns-in-Err-clause-fault
returns-in-Err-clause-fault t c =
    let rest = take (length c.args.bytes.now - 1) (drop 1 c.args.bytes.now) in
    let parts = first_and_rest c.args.bytes.now c.from-low.result c.in-len1-up.len_at_least c.from-low.ensures in
    rw parts (high_behind c.args.more (c.args.more - 1) c.from-low.result rest c.in-Err.good (omega arith) (omega arith) (omega (arith, c.from-low.ensures, c.type_inv.bytes 0)) c.in-Err.ensures.fault)
