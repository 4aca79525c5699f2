use Rattle.std.proofs.Common.{◌≡◌, refl, sym, ap, ◌∙◌, FitsSigned, to_z-of_z, rules}
use Rattle.std.specs.Int.{w128}
use Rattle.c_num.specs.declared.BinOp.TheVariants.{Shr}
use Rattle.c_num.specs.Conversion.{convert_to}
use Rattle.c_num.specs.Arith.{exact, is_bad_amount}
use Rattle.c_num.proofs.Outcomes.{shift_outcome, ok_outcome}
use Rattle.c_num.proofs.arith.shift_right.Goals as goal
use Rattle.c_num.proofs.arith.shift_right.Goals.{After-is_bad_amount}

tested : (c : After-is_bad_amount) → c.is_bad_amount.result ≡ is_bad_amount c.args.t c.args.b
tested c =
    let fits_b : FitsSigned w128 c.args.b = search rules in
    simp to_z-of_z at c.is_bad_amount.ensures

pub returns-then-is_bad_amount : goal.returns-then-is_bad_amount
returns-then-is_bad_amount c = shift_outcome Shr c.args.t c.args.a c.args.b (sym (tested (goal.at.returns-then-is_bad_amount c).After-is_bad_amount) ∙ c.if-is_bad_amount.true)

pub returns : goal.returns
returns c =
    let fits_a : FitsSigned w128 c.args.a = search rules in
    let fits_b : FitsSigned w128 c.args.b = search rules in
    let fits_s : FitsSigned w128 c.shifted_right.result = search rules in
    let fits : FitsSigned w128 c.convert.result = search rules in
    let converted : c.convert.result ≡ convert_to c.args.t c.shifted_right.result = simp to_z-of_z at c.convert.ensures.value in
    let is : c.shifted_right.result ≡ exact Shr c.args.t c.args.a c.args.b = simp to_z-of_z at c.shifted_right.ensures in
    let fine = sym (tested (goal.at.returns c).After-is_bad_amount) ∙ c.if-is_bad_amount.false in
    rw to_z-of_z (ok_outcome Shr c.args.t c.args.a c.args.b c.convert.result refl fine refl (converted ∙ ap (convert_to c.args.t) is))
