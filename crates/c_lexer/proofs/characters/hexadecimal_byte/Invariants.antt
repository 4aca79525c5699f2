use Rattle.std.proofs.Common.{◌≡◌, ◌<◌, drop}
use Rattle.c_lexer.specs.Classes.{is_hexadecimal_digit}
use Rattle.c_lexer.specs.Constants.{hexadecimal_value}
use Rattle.c_lexer.proofs.Values.{byte_from}
use Rattle.c_lexer.proofs.characters.hexadecimal_byte.Given as goal

abbrev pub invariant-loop-digit : goal.invariant-loop-digit
invariant-loop-digit l = record {
  small : l.value < 256;
  from : byte_from is_hexadecimal_digit hexadecimal_value 16 0 l.digits ≡ byte_from is_hexadecimal_digit hexadecimal_value 16 l.value (drop l.digit-index l.digits);
}
