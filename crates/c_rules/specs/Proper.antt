-- Types as declarators make them: an array is none of functions (C17 6.7.6.2 paragraph 1); a function takes scalars, and gives a
-- scalar or nothing (C17 6.7.6.3 paragraphs 1, 7, 8; a structure is neither here).
use Rattle.std.specs.Prelude.{Bool, true, not, ◌&&◌, ◌||◌}
use Rattle.c_typed.specs.Types.{CType, CTypes, Pointer, Array, Function, NoTypes, MoreTypes, is_void, is_function}
use Rattle.c_typed.specs.Expressions.{is_scalar}

abbrev mutual
  pub is_proper : CType → Bool
  is_proper (Pointer target) = is_proper target
  is_proper (Array element n) = not (is_function element) && is_proper element
  is_proper (Function result parameters) = (is_scalar result || is_void result) && is_proper result && are_proper parameters
  is_proper _ = true

  pub are_proper : CTypes → Bool
  are_proper NoTypes = true
  are_proper (MoreTypes first others) = is_scalar first && is_proper first && are_proper others
