use Rattle.std.proofs.Common.{◌≡◌, ◌^◌, pos, FitsSigned, of_z, to_z-of_z, ap, ap₂, ◌∙◌, arith, rules}
use Rattle.std.specs.Int.{w64, int_shr}
use Rattle.std.specs.Int.Signed.{mag_shr}
use Rattle.c_num.specs.Conversion.{word_of}
use Rattle.machine.proofs.Extended.{fitting_bits}
use Rattle.machine.proofs.Results.{reduced_word}
use Rattle.machine.proofs.shifts.shifted_right_word.Goals as goal

pub returns-then-is_signed : goal.returns-then-is_signed
returns-then-is_signed c =
    let t = c.args.int_type in
    let v = c.signed_value.result in
    let n = c.amount_of-amount.result in
    let fits_v : FitsSigned w64 v = search rules in
    let fits : FitsSigned w64 (int_shr v n) = record { sfits = omega (arith, mag_shr v (2 ^ n), fits_v.sfits) } in
    let bits : c.cast_unsigned.result ≡ of_z w64 (int_shr v n) = simp to_z-of_z at c.cast_unsigned.ensures in
    c.converted_word.ensures ∙ ap (λ m. word_of t (pos m)) (bits ∙ fitting_bits (int_shr v n) fits) ∙ reduced_word t (int_shr v n)
    ∙ ap₂ (λ x k. word_of t (int_shr x k)) c.signed_value.ensures c.amount_of-amount.ensures.amount

pub returns-else-is_signed : goal.returns-else-is_signed
returns-else-is_signed c =
    c.converted_word-else-is_signed.ensures ∙ ap₂ (λ x k. word_of c.args.int_type (int_shr x k)) c.unsigned_value.ensures c.amount_of-amount.ensures.amount
