-- Calls by name, of functions of the program.
use Rattle.std.specs.Prelude.{ℕ, nat_lt, Bool, true}
use Rattle.std.specs.List.{list_all}
use Rattle.tac_ir.specs.Code as O
use Rattle.tac_ir.specs.Code.{Known, Op, Function}

-- a point is no call by name, or one of a function below this number
abbrev pub is_known : ℕ → Op → Bool
is_known count (O.Call site (Known function) arguments) = nat_lt function count
is_known count op = true

-- each call by name of a function is of one below this number
abbrev pub calls_known : ℕ → Function → Bool
calls_known count function = list_all (is_known count) function.points
