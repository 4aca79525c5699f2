-- Which functions a call may reach: the one that it names, or, through a pointer, each function whose address is taken and whose type is
-- the call's.
use Rattle.std.specs.Prelude.{ℕ, ◌==◌, Bool, false, ◌&&◌, ◌||◌, slice_get, Option, Some, None}
use Rattle.std.specs.List.{list_any}
use Rattle.c_typed.specs.Types.{CType, same_type}
use Rattle.c_typed.specs.Values.{FirstScalar, FunctionValue, Held}
use Rattle.c_typed.specs.Typed.{GlobalDef}
use Rattle.tac_ir.specs.First.{named_function, is_at}
use Rattle.tac_ir.specs.Code.{Callee, Known, Through, Op, FunctionAddress, Function, Tac}

-- ---- functions whose address is taken

-- at a point
abbrev pub takes : ℕ → Op → Bool
takes number (FunctionAddress to function) = function == number
takes number op = false

abbrev pub takes_in : ℕ → Function → Bool
takes_in number function = list_any (takes number) function.points

-- by what a variable outside functions holds at first
abbrev pub names : Tac → ℕ → FirstScalar → Bool
names tac number (FunctionValue name) = is_at number (named_function 0 tac.functions name)
names tac number value = false

abbrev pub names_in : Tac → ℕ → GlobalDef → Bool
names_in tac number global = list_any (λ (held : Held). names tac number held.value) global.first

abbrev pub is_taken : Tac → ℕ → Bool
is_taken tac number = list_any (takes_in number) tac.functions || (takes_in number tac.start || list_any (names_in tac number) tac.globals)

-- ---- targets

abbrev pub has_type : CType → Option Function → Bool
has_type c_type None = false
has_type c_type (Some function) = same_type function.c_type c_type

abbrev pub is_target : Tac → Callee → ℕ → Bool
is_target tac (Known function) number = function == number
is_target tac (Through pointer c_type) number = is_taken tac number && has_type c_type (slice_get tac.functions number)
