use Rattle.std.proofs.Common.{◌≤◌, ◌+◌, ◌*◌, ◌^◌, get_or, arith}
use Rattle.c_lexer.specs.Constants.{hexadecimal_value}
use Rattle.c_lexer.proofs.Values.{digits_too_large}
use Rattle.c_lexer.proofs.numbers.value_of.Goals as goal

pub returns-in_err-next : goal.returns-in_err-next
returns-in_err-next c =
    let digit = hexadecimal_value (get_or c.args.digits.now c.loop-digit.digit-index 0) in
    let large : 2 ^ 64 ≤ c.loop-digit.value * c.radix.result + digit = omega (arith, c.in_err-next.ensures) in
    rw c.from_residual.ensures (digits_too_large c.args.base c.args.digits.now c.loop-digit.digit-index c.loop-digit.value c.radix.result c.loop-digit-test.true c.radix.ensures c.loop-digit.invariant large)

pub returns-in_err-value : goal.returns-in_err-value
returns-in_err-value c =
    let digit = hexadecimal_value (get_or c.args.digits.now c.loop-digit.digit-index 0) in
    let large : 2 ^ 64 ≤ c.loop-digit.value * c.radix.result + digit = omega (arith, c.in_err-value.ensures, c.in_ok-next.ensures, c.from.ensures, c.digit_value.ensures) in
    rw c.from_residual-in_err-value.ensures (digits_too_large c.args.base c.args.digits.now c.loop-digit.digit-index c.loop-digit.value c.radix.result c.loop-digit-test.true c.radix.ensures c.loop-digit.invariant large)
