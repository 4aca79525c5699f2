-- Numbers that are added or subtracted.
use Rattle.std.specs.Prelude.{ℤ, neg_ℤ}
use Rattle.c_types_state.specs.declared.addresses.Direction.{Direction}
use Rattle.c_types_state.specs.declared.addresses.Direction.TheVariants as D

abbrev pub directed_number : Direction → ℤ → ℤ
directed_number D.Forward z = z
directed_number D.Back z = neg_ℤ z
