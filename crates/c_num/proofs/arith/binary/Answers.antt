use Rattle.std.proofs.Common.{◌≡◌, ◌+ℤ◌, ◌-ℤ◌, ◌*ℤ◌, refl, ap, ◌∙◌, Ok, FitsSigned, to_z, of_z, to_z-of_z, rules, arith}
use Rattle.std.specs.Int.{w128}
use Rattle.std.proofs.lemmas.Int.{ints}
use Rattle.c_num.specs.declared.BinOp.TheVariants.{Add, Sub, Div, Rem, Shl, Shr, And, Or, Xor}
use Rattle.c_num.specs.Types.{IsValue, IsSigned}
use Rattle.c_num.specs.Conversion.{convert_to}
use Rattle.c_num.specs.Arith.{exact, fitted, outcome_of}
use Rattle.c_num.proofs.Outcomes.{explained, fitted_outcome, ok_outcome, product_outcome}
use Rattle.c_num.proofs.Words.{value_bounds, and_in_type, or_in_type, xor_in_type}
use Rattle.c_num.proofs.arith.binary.Goals as goal

pub returns-in-Add : goal.returns-in-Add
returns-in-Add c =
    let bounds_a = value_bounds c.args.t c.args.a c.requires.left in
    let right : IsValue c.args.t c.args.b = rw c.in-Add.is at c.requires.right refl in
    let bounds_b = value_bounds c.args.t c.args.b right in
    let e : to_z w128 (of_z w128 (to_z w128 (of_z w128 c.args.a) +ℤ to_z w128 (of_z w128 c.args.b))) ≡ exact Add c.args.t c.args.a c.args.b = omega (arith, ints) in
    explained c.args.op c.args.t c.args.a c.args.b c.fit.result c.requires.left
    (rw c.in-Add.is (c.fit.ensures ∙ ap (fitted c.args.t) e ∙ fitted_outcome Add c.args.t c.args.a c.args.b refl refl refl))

pub returns-in-Sub : goal.returns-in-Sub
returns-in-Sub c =
    let bounds_a = value_bounds c.args.t c.args.a c.requires.left in
    let right : IsValue c.args.t c.args.b = rw c.in-Sub.is at c.requires.right refl in
    let bounds_b = value_bounds c.args.t c.args.b right in
    let e : to_z w128 (of_z w128 (to_z w128 (of_z w128 c.args.a) -ℤ to_z w128 (of_z w128 c.args.b))) ≡ exact Sub c.args.t c.args.a c.args.b = omega (arith, ints) in
    explained c.args.op c.args.t c.args.a c.args.b c.fit-in-Sub.result c.requires.left
    (rw c.in-Sub.is (c.fit-in-Sub.ensures ∙ ap (fitted c.args.t) e ∙ fitted_outcome Sub c.args.t c.args.a c.args.b refl refl refl))

pub returns-in-Mul : goal.returns-in-Mul
returns-in-Mul c =
    let fits_a : FitsSigned w128 c.args.a = search rules in
    let fits_b : FitsSigned w128 c.args.b = search rules in
    let p = c.product.result in
    let fits_p : FitsSigned w128 p = search rules in
    let fit : c.fit-in-Mul.result ≡ fitted c.args.t p = simp to_z-of_z at c.fit-in-Mul.ensures in
    let signed : IsSigned c.args.t → p ≡ c.args.a *ℤ c.args.b = λ s. simp to_z-of_z at (c.product.ensures.signed s) in
    let same : convert_to c.args.t p ≡ convert_to c.args.t (c.args.a *ℤ c.args.b) = simp to_z-of_z at c.product.ensures.converted in
    explained c.args.op c.args.t c.args.a c.args.b c.fit-in-Mul.result c.requires.left (rw c.in-Mul.is (fit ∙ product_outcome c.args.t c.args.a c.args.b p signed same))

pub returns-in-Div : goal.returns-in-Div
returns-in-Div c =
    let fits_a : FitsSigned w128 c.args.a = search rules in
    let fits_b : FitsSigned w128 c.args.b = search rules in
    let e : c.divide.result ≡ outcome_of Div c.args.t c.args.a c.args.b = simp to_z-of_z at c.divide.ensures in
    explained c.args.op c.args.t c.args.a c.args.b c.divide.result c.requires.left (rw c.in-Div.is e)

pub returns-in-Rem : goal.returns-in-Rem
returns-in-Rem c =
    let fits_a : FitsSigned w128 c.args.a = search rules in
    let fits_b : FitsSigned w128 c.args.b = search rules in
    let e : c.divide_for_remainder.result ≡ outcome_of Rem c.args.t c.args.a c.args.b = simp to_z-of_z at c.divide_for_remainder.ensures in
    explained c.args.op c.args.t c.args.a c.args.b c.divide_for_remainder.result c.requires.left (rw c.in-Rem.is e)

pub returns-in-Shl : goal.returns-in-Shl
returns-in-Shl c =
    let fits_a : FitsSigned w128 c.args.a = search rules in
    let fits_b : FitsSigned w128 c.args.b = search rules in
    let e : c.shift_left.result ≡ outcome_of Shl c.args.t c.args.a c.args.b = simp to_z-of_z at c.shift_left.ensures in
    explained c.args.op c.args.t c.args.a c.args.b c.shift_left.result c.requires.left (rw c.in-Shl.is e)

pub returns-in-Shr : goal.returns-in-Shr
returns-in-Shr c =
    let fits_a : FitsSigned w128 c.args.a = search rules in
    let fits_b : FitsSigned w128 c.args.b = search rules in
    let e : c.shift_right.result ≡ outcome_of Shr c.args.t c.args.a c.args.b = simp to_z-of_z at c.shift_right.ensures in
    explained c.args.op c.args.t c.args.a c.args.b c.shift_right.result c.requires.left (rw c.in-Shr.is e)

pub returns-in-And : goal.returns-in-And
returns-in-And c =
    let fits_a : FitsSigned w128 c.args.a = search rules in
    let fits_b : FitsSigned w128 c.args.b = search rules in
    let r = c.bit_and.result in
    let fits : FitsSigned w128 r = search rules in
    let is : r ≡ exact And c.args.t c.args.a c.args.b = simp to_z-of_z at c.bit_and.ensures in
    let e : Ok r ≡ outcome_of And c.args.t c.args.a c.args.b = ok_outcome And c.args.t c.args.a c.args.b r refl refl refl (is ∙ and_in_type c.args.t c.args.a c.args.b) in
    explained c.args.op c.args.t c.args.a c.args.b (Ok (to_z w128 (of_z w128 r))) c.requires.left (rw (to_z-of_z, c.in-And.is) e)

pub returns-in-Or : goal.returns-in-Or
returns-in-Or c =
    let fits_a : FitsSigned w128 c.args.a = search rules in
    let fits_b : FitsSigned w128 c.args.b = search rules in
    let r = c.bit_or.result in
    let fits : FitsSigned w128 r = search rules in
    let is : r ≡ exact Or c.args.t c.args.a c.args.b = simp to_z-of_z at c.bit_or.ensures in
    let e : Ok r ≡ outcome_of Or c.args.t c.args.a c.args.b = ok_outcome Or c.args.t c.args.a c.args.b r refl refl refl (is ∙ or_in_type c.args.t c.args.a c.args.b) in
    explained c.args.op c.args.t c.args.a c.args.b (Ok (to_z w128 (of_z w128 r))) c.requires.left (rw (to_z-of_z, c.in-Or.is) e)

pub returns-in-Xor : goal.returns-in-Xor
returns-in-Xor c =
    let fits_a : FitsSigned w128 c.args.a = search rules in
    let fits_b : FitsSigned w128 c.args.b = search rules in
    let r = c.bit_xor.result in
    let fits : FitsSigned w128 r = search rules in
    let is : r ≡ exact Xor c.args.t c.args.a c.args.b = simp to_z-of_z at c.bit_xor.ensures in
    let e : Ok r ≡ outcome_of Xor c.args.t c.args.a c.args.b = ok_outcome Xor c.args.t c.args.a c.args.b r refl refl refl (is ∙ xor_in_type c.args.t c.args.a c.args.b) in
    explained c.args.op c.args.t c.args.a c.args.b (Ok (to_z w128 (of_z w128 r))) c.requires.left (rw (to_z-of_z, c.in-Xor.is) e)
