use Rattle.std.proofs.Common.{◌≡◌, ◌%◌, ◌^◌, FitsSigned, to_z, of_z, to_z-of_z, ap, ◌∙◌, rules}
use Rattle.std.proofs.lemmas.Nat.{and_mask}
use Rattle.std.specs.Int.{w16, w64}
use Rattle.machine.proofs.Extended.{extended_16}
use Rattle.machine.proofs.bits.extend_16.Goals as goal

pub returns : goal.returns
returns c =
    let n = c.args.number in
    let fits_low : FitsSigned w16 c.cast_signed.result = search rules in
    let fits : FitsSigned w64 c.from.result = search rules in
    let low : c.cast_signed.result ≡ to_z w16 (n % 2 ^ 16) = c.cast_signed.ensures ∙ ap (to_z w16) (and_mask n 16) in
    let wide : c.from.result ≡ c.cast_signed.result = simp to_z-of_z at c.from.ensures in
    let bits : c.cast_unsigned.result ≡ of_z w64 c.from.result = simp to_z-of_z at c.cast_unsigned.ensures in
    bits ∙ ap (of_z w64) (wide ∙ low) ∙ extended_16 n
