-- Operands of operators between two.
use Rattle.std.specs.Prelude.{Box, Option, Some, None}
use Rattle.run_theory.specs.declared.place.Pos.{Pos}
use Rattle.c_syntax.specs.declared.operator.BinaryOperator.{BinaryOperator}
use Rattle.c_typed.specs.Types.{CType, Pointer, Void}
use Rattle.c_typed.specs.declared.c_type.CType as number
use Rattle.c_typed.specs.declared.typed.Value as memory_value
use Rattle.c_typed.specs.Table.{Interned, type_in}
use Rattle.c_typed.specs.Views.{value_in}
use Rattle.c_rules.specs.Known.{Checked, Known, give}
use Rattle.c_rules.specs.Operators as rules
use Rattle.c_rules.specs.Operators.{operand, operand_kind}
use Rattle.c_types_state.specs.declared.known.Address as memory_address
use Rattle.c_types_state.specs.NameTables.{State, scope_of}
use Rattle.c_types_state.specs.Finding.{Finds, address_in}
use Rattle.c_types_state.specs.declared.operands.Operand as memory_operand
use Rattle.c_types_state.specs.Operands.{operand_in, IsOperand}

-- what an operator asks of an operand that is known
abbrev pub operand_rule : BinaryOperator → Pos → Known → Checked Known
operand_rule operator place known = operand (operand_kind operator) place (give known)

-- the type, or a pointer to `void` where there is none
abbrev pub type_or_void : Option CType → CType
type_or_void (Some c_type) = c_type
type_or_void None = Pointer Void

-- the type of two pointers that agree
abbrev pub agreed_in : Interned → memory_operand.Operand → memory_operand.Operand → CType
agreed_in table a b = rules.agreed_pointer (operand_in table a) (operand_in table b)

-- `&&` and `||` of two operands as conditions
abbrev pub both_rule : Pos → Pos → Known → Known → Checked Known
both_rule whole right_place left right = give (rules.both (rules.condition_of whole left) (rules.condition_of right_place right))

abbrev pub either_rule : Pos → Pos → Known → Known → Checked Known
either_rule whole right_place left right = give (rules.either (rules.condition_of whole left) (rules.condition_of right_place right))

-- a pointer that was moved within its row, as this value at an address
abbrev pub FindsMoved : {Z : Type 0} → Pos → Box memory_value.Value Z → number.CType → memory_address.Address → State → State → Option memory_operand.Operand → Type 0
FindsMoved whole value c_type address old new result =
    Finds IsOperand (rules.moved_pointer (scope_of old) whole (value_in old.table value.value) (type_in old.table c_type) (address_in old.table address)) old new result
