-- The labels of a `switch` fit the integers in memory.
use Rattle.std.proofs.Common.{◌≡◌, ◌<◌, true, Option, Some, None, ℤ, pos, negsuc, neg_ℤ, ◌≤ℤ◌, FitsSigned, arith}
use Rattle.std.proofs.lemmas.Bool.{false≢true}
use Rattle.std.specs.Int.{w128}
use Rattle.std.proofs.lemmas.Int.{ints}
use Rattle.c_num.specs.declared.IntType.{IntType}
use Rattle.c_num.specs.declared.IntType.TheVariants as I
use Rattle.c_num.specs.Types.{IsValue}
use Rattle.c_num.proofs.Outcomes.{is_value-Decides}
use Rattle.c_typed.specs.Statements.{is_label}

between : (n : IntType) (z : ℤ) → IsValue n z → (neg_ℤ (pos 9223372036854775808) ≤ℤ z) × (z ≤ℤ pos 18446744073709551615)
between I.Char z h = (omega (arith, ints, h.least), omega (arith, ints, h.greatest))
between I.UChar z h = (omega (arith, ints, h.least), omega (arith, ints, h.greatest))
between I.Short z h = (omega (arith, ints, h.least), omega (arith, ints, h.greatest))
between I.UShort z h = (omega (arith, ints, h.least), omega (arith, ints, h.greatest))
between I.Int z h = (omega (arith, ints, h.least), omega (arith, ints, h.greatest))
between I.UInt z h = (omega (arith, ints, h.least), omega (arith, ints, h.greatest))
between I.Long z h = (omega (arith, ints, h.least), omega (arith, ints, h.greatest))
between I.ULong z h = (omega (arith, ints, h.least), omega (arith, ints, h.greatest))

fits_between : (z : ℤ) → neg_ℤ (pos 9223372036854775808) ≤ℤ z → z ≤ℤ pos 18446744073709551615 → FitsSigned w128 z
fits_between (pos k) least greatest =
    let small : k < 170141183460469231731687303715884105728 = omega (arith, ints, greatest) in
    record { sfits = small }
fits_between (negsuc k) least greatest =
    let small : k < 170141183460469231731687303715884105728 = omega (arith, ints, least) in
    record { sfits = small }

pub label_fits : (own : Option IntType) (z : ℤ) → is_label own z ≡ true → FitsSigned w128 z
label_fits (Some n) z is =
    let both = between n z ((is_value-Decides n z).0 is) in
    fits_between z both.0 both.1
label_fits None z is = absurd (false≢true is)
