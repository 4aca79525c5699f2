use Rattle.std.proofs.Common.{◌-◌, sym, ◌∙◌, arith, lit≤}
use Rattle.c_lexer.specs.Classes.{is_octal_digit}
use Rattle.c_lexer.proofs.Values.{octal_is, byte_too_large, byte_done}
use Rattle.c_lexer.proofs.characters.octal_byte.Goals as goal

pub returns-in_err-checked_mul : goal.returns-in_err-checked_mul
returns-in_err-checked_mul c =
    let digits = c.args.digits.now in
    c.from_residual.ensures ∙ sym (octal_is digits c.if-digits-gt-OCTAL_DIGITS.false ∙ c.loop-digit.invariant.from
    ∙ byte_too_large is_octal_digit (λ digit. digit - 48) 8 (lit≤ tt) digits c.loop-digit.digit-index c.loop-digit.value c.loop-digit-test.true (omega (arith, c.in_err-checked_mul.ensures)))

pub returns : goal.returns
returns c =
    let digits = c.args.digits.now in
    sym (octal_is digits c.if-digits-gt-OCTAL_DIGITS.false ∙ c.loop-digit.invariant.from
    ∙ byte_done is_octal_digit (λ digit. digit - 48) 8 (lit≤ tt) digits c.loop-digit.digit-index c.loop-digit.value c.loop-digit-test.false c.loop-digit.invariant.small)
