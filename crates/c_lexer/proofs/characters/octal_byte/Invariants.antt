use Rattle.std.proofs.Common.{◌≡◌, ◌<◌, ◌-◌, drop}
use Rattle.c_lexer.specs.Classes.{is_octal_digit}
use Rattle.c_lexer.proofs.Values.{byte_from}
use Rattle.c_lexer.proofs.characters.octal_byte.Given as goal

abbrev pub invariant-loop-digit : goal.invariant-loop-digit
invariant-loop-digit l = record {
  small : l.value < 256;
  from : byte_from is_octal_digit (λ digit. digit - 48) 8 0 l.digits ≡ byte_from is_octal_digit (λ digit. digit - 48) 8 l.value (drop l.digit-index l.digits);
}
