use Rattle.std.proofs.Common.{◌≡◌, pos, ◌*◌, ◌%◌, ◌^◌, FitsSigned, to_z-of_z, to_z, arith, rules, sym, ap, ◌∙◌}
use Rattle.std.specs.Int.{w128}
use Rattle.std.proofs.lemmas.Int.{ints}
use Rattle.c_num.specs.Conversion.{convert_to, word_of}
use Rattle.c_num.proofs.Words.{product_fits, product-converted}
use Rattle.c_num.proofs.arith.product.Goals as goal

pub returns-then-is_signed-clause-signed : goal.returns-then-is_signed-clause-signed
returns-then-is_signed-clause-signed c s =
    let fits_a : FitsSigned w128 c.args.a = search rules in
    let fits_b : FitsSigned w128 c.args.b = search rules in
    let fits = product_fits c.args.t c.args.a c.args.b s c.requires.left c.requires.right in
    simp to_z-of_z

pub returns-then-is_signed-clause-converted : goal.returns-then-is_signed-clause-converted
returns-then-is_signed-clause-converted c =
    ap (convert_to c.args.t) (returns-then-is_signed-clause-signed c (sym c.is_signed.ensures ∙ c.if-is_signed.true))

pub returns-else-is_signed-clause-converted : goal.returns-else-is_signed-clause-converted
returns-else-is_signed-clause-converted c =
    let n = c.word.result * c.word-else-is_signed.result % 2 ^ 64 in
    let fits_a : FitsSigned w128 c.args.a = search rules in
    let fits_b : FitsSigned w128 c.args.b = search rules in
    let read : to_z w128 n ≡ pos n = omega (arith, ints) in
    let left : c.word.result ≡ word_of c.args.t c.args.a = simp to_z-of_z at c.word.ensures.value in
    let right : c.word-else-is_signed.result ≡ word_of c.args.t c.args.b = simp to_z-of_z at c.word-else-is_signed.ensures.value in
    rw (read, left, right) (product-converted c.args.t c.args.a c.args.b (sym c.is_signed.ensures ∙ c.if-is_signed.false) c.requires.left c.requires.right)
