-- What stands in memory for the arguments of a call.
use Rattle.std.specs.Prelude.{List, [], ◌∷◌, map}
use Rattle.c_typed.specs.Table.{Interned}
use Rattle.c_rules.specs.Operators.{ArgumentValue}
use Rattle.c_types_state.specs.Finding.{AllStand, each_in}
use Rattle.c_types_expressions.specs.declared.calls.Argument as memory_argument
use Rattle.c_types_state.specs.Operands.{operand_in, OperandStands}

abbrev pub argument_in : Interned → memory_argument.Argument → ArgumentValue
argument_in table argument = record { place = argument.place; value = each_in operand_in table argument.value }

abbrev pub arguments_in : Interned → List memory_argument.Argument → List ArgumentValue
arguments_in table arguments = map (argument_in table) arguments

abbrev pub ArgumentStands : Interned → memory_argument.Argument → Type 0
ArgumentStands table argument = AllStand OperandStands table argument.value

abbrev pub ArgumentsStand : Interned → List memory_argument.Argument → Type 0
ArgumentsStand table [] = Unit {0}
ArgumentsStand table (argument ∷ arguments) = ArgumentStands table argument × ArgumentsStand table arguments
