use Rattle.std.proofs.Common.{◌≡◌, pos, ◌⊎◌, inl, inr, false, ◌-ℤ◌, ◌≤ℤ◌, ◌<ℤ◌, int_div, FitsSigned, to_z, of_z, to_z-of_z, arith, rules, sym, ◌∙◌}
use Rattle.std.specs.Int.{w128, int_rem_euclid}
use Rattle.std.proofs.lemmas.Int.{ints}
use Rattle.c_num.specs.Types.{is_signed}
use Rattle.c_num.proofs.Conversions.{modulus_small, convert_high, convert_low, convert_to-congruent}
use Rattle.c_num.proofs.conversion.convert.Goals as goal
use Rattle.c_num.proofs.conversion.convert.Goals.{else-is_signed-via-then-is_signed+else-bits-modulus, else-is_signed-via-else-is_signed}

pub returns-then-bits-modulus-clause-value : goal.returns-then-bits-modulus-clause-value
returns-then-bits-modulus-clause-value c =
    let m = c.modulus-modulus.result in
    let r = c.rem_euclid-bits.result in
    let small = modulus_small c.args.t in
    let fits_v : FitsSigned w128 c.args.v = search rules in
    let fits_m : FitsSigned w128 m = search rules in
    let rem : r ≡ int_rem_euclid c.args.v m = simp to_z-of_z at c.rem_euclid-bits.ensures.value in
    let high : int_div m (pos 2) ≤ℤ r = omega (arith, ints) in
    let e : to_z w128 (of_z w128 (to_z w128 (of_z w128 r) -ℤ to_z w128 (of_z w128 m))) ≡ r -ℤ m = omega (arith, ints) in
    e ∙ convert_high c.args.t c.args.v m r c.modulus-modulus.ensures rem (sym c.is_signed.ensures ∙ c.if-is_signed.true) high

pub returns-then-bits-modulus-clause-congruent : goal.returns-then-bits-modulus-clause-congruent
returns-then-bits-modulus-clause-congruent c = rw (returns-then-bits-modulus-clause-value c) (convert_to-congruent c.args.t c.args.v)

pub returns-else-is_signed-clause-value : goal.returns-else-is_signed-clause-value
returns-else-is_signed-clause-value c =
    let m = c.modulus-modulus.result in
    let r = c.rem_euclid-bits.result in
    let small = modulus_small c.args.t in
    let fits_v : FitsSigned w128 c.args.v = search rules in
    let fits_m : FitsSigned w128 m = search rules in
    let rem : r ≡ int_rem_euclid c.args.v m = simp to_z-of_z at c.rem_euclid-bits.ensures.value in
    let low : (is_signed c.args.t ≡ false) ⊎ (r <ℤ int_div m (pos 2)) = elim c.else-is_signed.branch [ else-is_signed-via-then-is_signed+else-bits-modulus w ↦ inr (omega (arith, ints)) | else-is_signed-via-else-is_signed w ↦ inl (sym c.is_signed.ensures ∙ w.if-is_signed.false) ] in
    let e : to_z w128 (of_z w128 r) ≡ r = omega (arith, ints) in
    e ∙ convert_low c.args.t c.args.v m r c.modulus-modulus.ensures rem low

pub returns-else-is_signed-clause-congruent : goal.returns-else-is_signed-clause-congruent
returns-else-is_signed-clause-congruent c = rw (returns-else-is_signed-clause-value c) (convert_to-congruent c.args.t c.args.v)
