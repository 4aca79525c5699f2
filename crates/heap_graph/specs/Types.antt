-- Kinds of types.
use Rattle.std.specs.Prelude.{Bool, true, false}
use Rattle.c_typed.specs.Types.{CType, Function}

abbrev pub is_function : CType → Bool
is_function (Function result parameters) = true
is_function c_type = false
