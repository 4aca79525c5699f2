use Rattle.std.proofs.Common.{◌≡◌, pos, true, false, ◌||◌, int_lt, refl, sym, ap, ◌∙◌, FitsSigned, to_z-of_z, rules}
use Rattle.std.specs.Int.{w128}
use Rattle.std.proofs.lemmas.Bool.{or_left, or_right, or_from}
use Rattle.c_num.specs.declared.BinOp.TheVariants.{Shl}
use Rattle.c_num.specs.Conversion.{convert_to}
use Rattle.c_num.specs.Arith.{exact, is_bad_amount, is_out_of_range}
use Rattle.c_num.proofs.Outcomes.{shift_outcome, ok_outcome}
use Rattle.c_num.proofs.arith.shift_left.Goals as goal
use Rattle.c_num.proofs.arith.shift_left.Goals.{After-is_bad_amount, After-is_out_of_range, then-is_bad_amount-via-then-is_bad_amount, then-is_bad_amount-via-else-is_bad_amount+then-a-lt0}

tested : (c : After-is_bad_amount) → c.is_bad_amount.result ≡ is_bad_amount c.args.t c.args.b
tested c =
    let fits_b : FitsSigned w128 c.args.b = search rules in
    simp to_z-of_z at c.is_bad_amount.ensures

ranged : (c : After-is_out_of_range) → c.is_out_of_range.result ≡ is_out_of_range c.args.t (exact Shl c.args.t c.args.a c.args.b)
ranged c =
    let fits_a : FitsSigned w128 c.args.a = search rules in
    let fits_b : FitsSigned w128 c.args.b = search rules in
    let fits_s : FitsSigned w128 c.shifted_left-shifted.result = search rules in
    let test : c.is_out_of_range.result ≡ is_out_of_range c.args.t c.shifted_left-shifted.result = simp to_z-of_z at c.is_out_of_range.ensures in
    let is : c.shifted_left-shifted.result ≡ exact Shl c.args.t c.args.a c.args.b = simp to_z-of_z at c.shifted_left-shifted.ensures in
    test ∙ ap (is_out_of_range c.args.t) is

pub returns-then-is_bad_amount : goal.returns-then-is_bad_amount
returns-then-is_bad_amount c =
    let fits_a : FitsSigned w128 c.args.a = search rules in
    let amount = is_bad_amount c.args.t c.args.b in
    let negative = int_lt c.args.a (pos 0) in
    let test = tested (goal.at.returns-then-is_bad_amount c).After-is_bad_amount in
    let bad : (amount || negative) ≡ true = elim c.then-is_bad_amount.branch [ then-is_bad_amount-via-then-is_bad_amount w ↦ or_left amount negative (sym test ∙ w.if-is_bad_amount.true) | then-is_bad_amount-via-else-is_bad_amount+then-a-lt0 w ↦ or_right amount negative (simp to_z-of_z at w.if-a-lt0.true) ] in
    shift_outcome Shl c.args.t c.args.a c.args.b (or_left (amount || negative) (is_out_of_range c.args.t (exact Shl c.args.t c.args.a c.args.b)) bad)

pub returns-then-is_out_of_range : goal.returns-then-is_out_of_range
returns-then-is_out_of_range c =
    let out = sym (ranged (goal.at.returns-then-is_out_of_range c).After-is_out_of_range) ∙ c.if-is_out_of_range.true in
    shift_outcome Shl c.args.t c.args.a c.args.b (or_right (is_bad_amount c.args.t c.args.b || int_lt c.args.a (pos 0)) (is_out_of_range c.args.t (exact Shl c.args.t c.args.a c.args.b)) out)

pub returns : goal.returns
returns c =
    let fits_a : FitsSigned w128 c.args.a = search rules in
    let fits_b : FitsSigned w128 c.args.b = search rules in
    let fits_s : FitsSigned w128 c.shifted_left-shifted.result = search rules in
    let fits : FitsSigned w128 c.convert.result = search rules in
    let amount = is_bad_amount c.args.t c.args.b in
    let negative = int_lt c.args.a (pos 0) in
    let out = is_out_of_range c.args.t (exact Shl c.args.t c.args.a c.args.b) in
    let at = goal.at.returns c in
    let not_negative : negative ≡ false = simp to_z-of_z at c.if-a-lt0.false in
    let good = or_from amount negative (sym (tested at.After-is_bad_amount) ∙ c.if-is_bad_amount.false) not_negative in
    let fine = or_from (amount || negative) out good (sym (ranged at.After-is_out_of_range) ∙ c.if-is_out_of_range.false) in
    let converted : c.convert.result ≡ convert_to c.args.t c.shifted_left-shifted.result = simp to_z-of_z at c.convert.ensures.value in
    let is : c.shifted_left-shifted.result ≡ exact Shl c.args.t c.args.a c.args.b = simp to_z-of_z at c.shifted_left-shifted.ensures in
    rw to_z-of_z (ok_outcome Shl c.args.t c.args.a c.args.b c.convert.result refl fine refl (converted ∙ ap (convert_to c.args.t) is))
