-- When the points and functions that a point of three-address code names are there, where the program has so many functions and the
-- function so many points.
use Rattle.std.specs.Prelude.{⊤, ℕ, ◌<◌}
use Rattle.tac_ir.specs.Code.{Callee, Known, Through, Op}
use Rattle.tac_ir.specs.Code as O

abbrev pub CalleeThere : ℕ → Callee → Type 0
CalleeThere functions (Known function) = function < functions
CalleeThere functions (Through pointer c_type) = ⊤

abbrev pub NamesThere : ℕ → ℕ → Op → Type 0
NamesThere functions points (O.Jump to) = to < points
NamesThere functions points (O.Branch int_type condition holds fails) = (holds < points) × (fails < points)
NamesThere functions points (O.FunctionAddress to function) = function < functions
NamesThere functions points (O.Call site callee arguments) = CalleeThere functions callee
NamesThere functions points op = ⊤
