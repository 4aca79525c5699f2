use Rattle.std.proofs.Common.{◌≡◌, pos, ap, ap₂, ◌∙◌, bit_and, FitsSigned, to_z-of_z, rules}
use Rattle.std.specs.Int.{w128}
use Rattle.c_num.specs.Conversion.{convert_to, word_of}
use Rattle.c_num.proofs.Words.{and_words}
use Rattle.c_num.proofs.arith.bit_and.Goals as goal

pub returns : goal.returns
returns c =
    let fits_a : FitsSigned w128 c.args.a = search rules in
    let fits_b : FitsSigned w128 c.args.b = search rules in
    let fits : FitsSigned w128 c.value_of_word.result = search rules in
    let left : c.word.result ≡ word_of c.args.t c.args.a = simp to_z-of_z at c.word.ensures.value in
    let right : c.word-2.result ≡ word_of c.args.t c.args.b = simp to_z-of_z at c.word-2.ensures.value in
    rw to_z-of_z (c.value_of_word.ensures.value ∙ ap (λ n. convert_to c.args.t (pos n)) (ap₂ bit_and left right) ∙ and_words c.args.t c.args.a c.args.b)
