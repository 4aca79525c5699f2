use Rattle.std.proofs.Common.{◌≡◌, refl, ap, ◌∙◌, FitsSigned, to_z-of_z, rules}
use Rattle.std.specs.Int.{w128}
use Rattle.c_num.specs.declared.BinOp.TheVariants.{Div}
use Rattle.c_num.specs.Arith.{quotient, fitted}
use Rattle.c_num.proofs.Outcomes.{zero_outcome, fitted_outcome}
use Rattle.c_num.proofs.Words.{zero_from_bits, nonzero_from_bits}
use Rattle.c_num.proofs.arith.divide.Goals as goal

pub returns-then-b-eq0 : goal.returns-then-b-eq0
returns-then-b-eq0 c = zero_outcome Div c.args.t c.args.a c.args.b (zero_from_bits c.args.b c.ranges.b c.if-b-eq0.true)

pub returns : goal.returns
returns c =
    let fits_a : FitsSigned w128 c.args.a = search rules in
    let fits_b : FitsSigned w128 c.args.b = search rules in
    let fits : FitsSigned w128 c.quotient.result = search rules in
    let fit : c.fit.result ≡ fitted c.args.t c.quotient.result = simp to_z-of_z at c.fit.ensures in
    let is : c.quotient.result ≡ quotient c.args.a c.args.b = simp to_z-of_z at c.quotient.ensures in
    fit ∙ ap (fitted c.args.t) is ∙ fitted_outcome Div c.args.t c.args.a c.args.b (nonzero_from_bits c.args.b c.ranges.b c.if-b-eq0.false) refl refl
