use Rattle.std.proofs.Common.{◌≡◌, ◌^◌, ◌-◌, pos, ap, ◌∙◌, FitsSigned, to_z-of_z, rules}
use Rattle.std.specs.Int.{w128}
use Rattle.c_num.specs.Conversion.{convert_to, word_of}
use Rattle.c_num.proofs.Conversions.{word_below}
use Rattle.c_num.proofs.Words.{complement-converted}
use Rattle.c_num.proofs.arith.complement.Goals as goal

pub returns-clause-value : goal.returns-clause-value
returns-clause-value c =
    let fits_a : FitsSigned w128 c.args.a = search rules in
    let fits : FitsSigned w128 c.value_of_word.result = search rules in
    let word : c.word.result ≡ word_of c.args.t c.args.a = simp to_z-of_z at c.word.ensures.value in
    rw to_z-of_z (c.value_of_word.ensures.value ∙ ap (λ n. convert_to c.args.t (pos (2 ^ 64 - 1 - n))) word ∙ complement-converted c.args.t c.args.a (word_below c.args.t c.args.a))
