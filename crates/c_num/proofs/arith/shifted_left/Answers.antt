use Rattle.std.proofs.Common.{◌≡◌, ◌^◌, pos, ◌*ℤ◌, unsigned_abs, ap, FitsSigned, to_z-of_z, rules}
use Rattle.std.specs.Int.{w128}
use Rattle.c_num.proofs.Words.{shifted_fits, amount_below}
use Rattle.c_num.proofs.arith.shifted_left.Goals as goal
use Rattle.c_num.proofs.arith.shifted_left.Goals.{After-power_of_two}

power : (c : After-power_of_two) → c.power_of_two.result ≡ pos (2 ^ unsigned_abs c.args.b)
power c =
    let fits_b : FitsSigned w128 c.args.b = search rules in
    simp to_z-of_z at c.power_of_two.ensures

fits : (c : After-power_of_two) → FitsSigned w128 (c.args.a *ℤ c.power_of_two.result)
fits c = rw (power c) (shifted_fits c.args.t c.args.a (unsigned_abs c.args.b) (amount_below c.args.t c.args.b c.requires.amount) c.requires.value)

pub overflow_mul-result : goal.overflow_mul-result
overflow_mul-result c =
    let fits_a : FitsSigned w128 c.args.a = search rules in
    let fits_p : FitsSigned w128 c.power_of_two.result = search rules in
    simp to_z-of_z (fits c)

pub returns : goal.returns
returns c =
    let fits_a : FitsSigned w128 c.args.a = search rules in
    let fits_p : FitsSigned w128 c.power_of_two.result = search rules in
    let product = fits c in
    simp to_z-of_z (ap (λ p. c.args.a *ℤ p) (power c))
