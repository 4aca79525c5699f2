use Rattle.std.proofs.Common.{◌≡◌, neg_ℤ, pos, ◌-ℤ◌, ap, ◌∙◌, arith, to_z, of_z, to_z-of_z, FitsSigned, rules}
use Rattle.std.specs.Int.{w128}
use Rattle.std.proofs.lemmas.Int.{ints}
use Rattle.c_num.specs.Conversion.{convert_to}
use Rattle.c_num.proofs.Outcomes.{wrapped-negated, wrapped_negation_is}
use Rattle.c_num.proofs.Words.{value_bounds}
use Rattle.c_num.proofs.arith.wrap_negate.Goals as goal

pub returns-clause-value : goal.returns-clause-value
returns-clause-value c =
    let x = c.convert.result in
    let fits_a : FitsSigned w128 c.args.a = search rules in
    let fits : FitsSigned w128 c.convert-2.result = search rules in
    let bounds = value_bounds c.args.t x c.convert.ensures.in_range in
    let e : to_z w128 (of_z w128 (pos 0 -ℤ to_z w128 (of_z w128 x))) ≡ neg_ℤ x = omega (arith, ints) in
    let converted : x ≡ convert_to c.args.t c.args.a = simp to_z-of_z at c.convert.ensures.value in
    rw to_z-of_z (c.convert-2.ensures.value ∙ ap (convert_to c.args.t) (e ∙ ap neg_ℤ converted) ∙ wrapped_negation_is c.args.t c.args.a)

pub returns-clause-defined : goal.returns-clause-defined
returns-clause-defined c v = rw (returns-clause-value c) (wrapped-negated c.args.t c.args.a v)
