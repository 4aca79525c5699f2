-- How much there is of a type: more than of what it is made of.
use Rattle.std.proofs.Common.{ℕ, suc, ◌+◌}
use Rattle.c_typed.specs.Types.{CType, CTypes, Pointer, Array, Function, NoTypes, MoreTypes}

abbrev mutual
  pub weight : CType → ℕ
  weight (Pointer target) = suc (weight target)
  weight (Array element n) = suc (weight element)
  weight (Function result parameters) = suc (suc (weight result + weights parameters))
  weight _ = 1

  pub weights : CTypes → ℕ
  weights NoTypes = 0
  weights (MoreTypes first others) = suc (weight first + weights others)
