use Rattle.std.proofs.Common.{◌≡◌, ◌^◌, pos, FitsSigned, to_z-of_z, ap, ap₂, ◌∙◌, rules}
use Rattle.std.specs.Int.{w64}
use Rattle.c_num.specs.Conversion.{modulo, word_of}
use Rattle.c_num.specs.Arith.{quotient}
use Rattle.machine.proofs.Results.{reduced_word}
use Rattle.machine.proofs.division.quotient_word.Goals as goal

pub returns-then-is_signed : goal.returns-then-is_signed
returns-then-is_signed c =
    let t = c.args.int_type in
    let a = c.signed_value-dividend.result in
    let b = c.signed_value-divisor.result in
    let fits_a : FitsSigned w64 a = search rules in
    let fits_b : FitsSigned w64 b = search rules in
    let bits : c.signed_quotient.result ≡ modulo (quotient a b) (2 ^ 64) = simp to_z-of_z at c.signed_quotient.ensures in
    c.converted_word.ensures ∙ ap (λ n. word_of t (pos n)) bits ∙ reduced_word t (quotient a b)
    ∙ ap₂ (λ x y. word_of t (quotient x y)) c.signed_value-dividend.ensures c.signed_value-divisor.ensures

pub returns-else-is_signed : goal.returns-else-is_signed
returns-else-is_signed c =
    let t = c.args.int_type in
    c.converted_word-else-is_signed.ensures ∙ ap (word_of t) c.unsigned_quotient.ensures
    ∙ ap₂ (λ x y. word_of t (quotient x y)) c.unsigned_value-dividend.ensures c.unsigned_value-divisor.ensures
