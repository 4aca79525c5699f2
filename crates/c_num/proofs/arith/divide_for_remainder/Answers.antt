use Rattle.std.proofs.Common.{◌≡◌, refl, sym, ap, ◌∙◌, FitsSigned, to_z-of_z, rules}
use Rattle.std.specs.Int.{w128}
use Rattle.c_num.specs.declared.BinOp.TheVariants.{Rem}
use Rattle.c_num.specs.Conversion.{convert_to}
use Rattle.c_num.specs.Arith.{quotient, remainder, is_out_of_range}
use Rattle.c_num.proofs.Outcomes.{zero_outcome, overflow_outcome, ok_outcome}
use Rattle.c_num.proofs.Words.{zero_from_bits, nonzero_from_bits}
use Rattle.c_num.proofs.arith.divide_for_remainder.Goals as goal
use Rattle.c_num.proofs.arith.divide_for_remainder.Goals.{After-is_out_of_range}

pub returns-then-b-eq0 : goal.returns-then-b-eq0
returns-then-b-eq0 c = zero_outcome Rem c.args.t c.args.a c.args.b (zero_from_bits c.args.b c.ranges.b c.if-b-eq0.true)

-- the test is that of the quotient
tested : (c : After-is_out_of_range) → c.is_out_of_range.result ≡ is_out_of_range c.args.t (quotient c.args.a c.args.b)
tested c =
    let fits_a : FitsSigned w128 c.args.a = search rules in
    let fits_b : FitsSigned w128 c.args.b = search rules in
    let fits : FitsSigned w128 c.quotient.result = search rules in
    let test : c.is_out_of_range.result ≡ is_out_of_range c.args.t c.quotient.result = simp to_z-of_z at c.is_out_of_range.ensures in
    let is : c.quotient.result ≡ quotient c.args.a c.args.b = simp to_z-of_z at c.quotient.ensures in
    test ∙ ap (is_out_of_range c.args.t) is

pub returns-then-is_out_of_range : goal.returns-then-is_out_of_range
returns-then-is_out_of_range c = overflow_outcome Rem c.args.t c.args.a c.args.b (sym (tested (goal.at.returns-then-is_out_of_range c).After-is_out_of_range) ∙ c.if-is_out_of_range.true)

pub returns : goal.returns
returns c =
    let fits_a : FitsSigned w128 c.args.a = search rules in
    let fits_b : FitsSigned w128 c.args.b = search rules in
    let fits_r : FitsSigned w128 c.remainder.result = search rules in
    let fits : FitsSigned w128 c.convert.result = search rules in
    let converted : c.convert.result ≡ convert_to c.args.t c.remainder.result = simp to_z-of_z at c.convert.ensures.value in
    let is : c.remainder.result ≡ remainder c.args.a c.args.b = simp to_z-of_z at c.remainder.ensures in
    let nonzero = nonzero_from_bits c.args.b c.ranges.b c.if-b-eq0.false in
    let fine = sym (tested (goal.at.returns c).After-is_out_of_range) ∙ c.if-is_out_of_range.false in
    rw to_z-of_z (ok_outcome Rem c.args.t c.args.a c.args.b c.convert.result nonzero refl fine (converted ∙ ap (convert_to c.args.t) is))
