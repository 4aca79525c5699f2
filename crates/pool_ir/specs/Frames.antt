-- Where descriptors and registers lie in a frame: words of 8 bytes one behind another, first the descriptors that a function takes and its
-- parameters, as its caller hands them over, then its other descriptors and registers; and the objects behind all of them.
use Rattle.std.specs.Prelude.{ℕ, ◌+◌, ◌*◌, nat_lt, if◌then◌else◌}
use Rattle.tac_ir.specs.declared.register.Local.TheVariants as L
use Rattle.tac_ir.specs.declared.register.Register.{Register}
use Rattle.tac_ir.specs.declared.register.Register.TheVariants as R
use Rattle.pool_ir.specs.Code.{FrameLayout, Function}

-- which word of the frame it is
abbrev pub word_of_descriptor : Function → ℕ → ℕ
word_of_descriptor function number = if nat_lt number function.taken then number else function.frame.parameters + number

abbrev pub word_of_register : Function → Register → ℕ
word_of_register function (R.Local (L.Parameter number)) = function.taken + number
word_of_register function (R.Local (L.Variable number)) = function.frame.descriptors + function.frame.parameters + number
word_of_register function (R.Call number) = function.frame.descriptors + function.frame.parameters + function.frame.registers.variables + number
word_of_register function (R.Argument number) =
    function.frame.descriptors + function.frame.parameters + function.frame.registers.variables + function.frame.registers.calls + number
word_of_register function (R.Expression number) =
    function.frame.descriptors + function.frame.parameters + function.frame.registers.variables + function.frame.registers.calls + function.frame.registers.arguments + number
word_of_register function (R.Temporary number) =
    function.frame.descriptors + function.frame.parameters + function.frame.registers.variables + function.frame.registers.calls + function.frame.registers.arguments + function.frame.registers.expressions + number

abbrev pub words_in : FrameLayout → ℕ
words_in frame =
    frame.descriptors + frame.parameters + frame.registers.variables + frame.registers.calls + frame.registers.arguments + frame.registers.expressions + frame.registers.temporaries

-- the first byte behind them
abbrev pub objects_start : FrameLayout → ℕ
objects_start frame = 8 * words_in frame
