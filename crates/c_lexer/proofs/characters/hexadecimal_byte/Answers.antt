use Rattle.std.proofs.Common.{◌≡◌, ◌+◌, ◌*◌, drop, get_or, sym, ap, ◌∙◌, arith, lit≤, false-eqb}
use Rattle.c_lexer.specs.Classes.{is_hexadecimal_digit}
use Rattle.c_lexer.specs.Constants.{hexadecimal_value}
use Rattle.c_lexer.proofs.Values.{byte_from, hexadecimal_is, hexadecimal_digit_some, byte_more, byte_too_large, byte_done}
use Rattle.c_lexer.proofs.characters.hexadecimal_byte.Goals as goal

pub returns-in_err-checked_mul : goal.returns-in_err-checked_mul
returns-in_err-checked_mul c =
    let digits = c.args.digits.now in
    c.from_residual.ensures ∙ sym (hexadecimal_is digits (omega arith) ∙ c.loop-digit.invariant.from
    ∙ byte_too_large is_hexadecimal_digit hexadecimal_value 16 (lit≤ tt) digits c.loop-digit.digit-index c.loop-digit.value c.loop-digit-test.true (omega (arith, c.in_err-checked_mul.ensures)))

pub loop-digit-preserved : goal.loop-digit-preserved
loop-digit-preserved c =
    let digits = c.args.digits.now in
    let i = c.loop-digit.digit-index in
    let digit = hexadecimal_digit_some (get_or digits i 0) _ c.in_ok-hexadecimal_digit.ensures in
    let value : 16 * c.loop-digit.value + hexadecimal_value (get_or digits i 0) ≡ c.in_ok-value.value = omega (arith, c.in_ok-checked_mul.ensures, c.in_ok-value.ensures, digit.1) in
    record {
      small = omega (arith, c.in_ok-value.ensures);
      from = c.loop-digit.invariant.from
          ∙ byte_more is_hexadecimal_digit hexadecimal_value 16 (lit≤ tt) digits i c.loop-digit.value c.loop-digit-test.true digit.0
          ∙ ap (λ v. byte_from is_hexadecimal_digit hexadecimal_value 16 v (drop (i + 1) digits)) value;
    }

pub returns : goal.returns
returns c =
    let digits = c.args.digits.now in
    sym (hexadecimal_is digits (omega (arith, false-eqb _ 0 c.if-is_empty.ensures)) ∙ c.loop-digit.invariant.from
    ∙ byte_done is_hexadecimal_digit hexadecimal_value 16 (lit≤ tt) digits c.loop-digit.digit-index c.loop-digit.value c.loop-digit-test.false c.loop-digit.invariant.small)
