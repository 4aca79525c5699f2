use Rattle.std.proofs.Common.{◌≡◌, drop}
use Rattle.c_lexer.specs.Constants.{hexadecimal_value, digits_from, radix}
use Rattle.c_lexer.proofs.numbers.value_of.Given as goal

abbrev pub invariant-loop-digit : goal.invariant-loop-digit
invariant-loop-digit l = digits_from hexadecimal_value (radix l.base) 0 l.digits ≡ digits_from hexadecimal_value (radix l.base) l.value (drop l.digit-index l.digits)
