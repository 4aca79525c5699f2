-- Operators of one operand, and what they make.
use Rattle.std.specs.Prelude.{Box, Bool, ◌||◌, Option, Some, Result, IfOk}
use Rattle.run_theory.specs.declared.place.Pos.{Pos}
use Rattle.c_syntax.specs.declared.operator.PrefixOperator.{PrefixOperator}
use Rattle.c_typed.specs.declared.c_type.CType as number
use Rattle.c_typed.specs.declared.typed.Stepping.{Stepping}
use Rattle.c_typed.specs.declared.typed.Value as memory_value
use Rattle.c_typed.specs.declared.typed.Object as memory_object
use Rattle.c_typed.specs.Types.{CType, Pointer, is_integer}
use Rattle.c_typed.specs.Table.{Interned, Stands, type_in}
use Rattle.c_typed.specs.Views.{value_in, object_in, ObjectStands}
use Rattle.c_rules.specs.Names.{Scope}
use Rattle.c_rules.specs.Known.{Checked, Known, give, given, with_known, value_of_type, object_at}
use Rattle.c_rules.specs.Operators as rules
use Rattle.c_rules.specs.Operators.{prefixed}
use Rattle.c_types_state.specs.declared.known.Known as memory_known
use Rattle.c_types_state.specs.declared.known.Address as memory_address
use Rattle.c_types_state.specs.NameTables.{State, scope_of}
use Rattle.c_types_state.specs.Finding.{Finds, IsExpr, AddressStands, address_in}
use Rattle.c_types_state.specs.declared.operands.Operand as memory_operand
use Rattle.c_types_state.specs.Operands.{IsOperand}
use Rattle.c_types_state.specs.Promises.{scalar_of_part, integer_of_part}

-- what one gives of an operand that is known
abbrev pub prefixed_rule : Scope → PrefixOperator → Pos → Pos → Known → Checked Known
prefixed_rule scope operator whole place operand = prefixed scope operator whole place (give operand)

-- operators of an operand, where that is known
abbrev pub negation_of : Pos → Option Known → Checked Known
negation_of place part = given (scalar_of_part place part) (λ value. give (rules.logical_not (rules.condition_of place value)))

abbrev pub plus_of : Pos → Option Known → Checked Known
plus_of place part = given (integer_of_part place part) (λ value. give (rules.with_plus value))

abbrev pub minus_of : Pos → Pos → Option Known → Checked Known
minus_of whole place part = given (integer_of_part place part) (λ value. give (rules.with_minus whole value))

abbrev pub complement_of : Pos → Option Known → Checked Known
complement_of place part = given (integer_of_part place part) (λ value. give (rules.with_complement value))

abbrev pub step_of : Scope → Stepping → Pos → Pos → Option Known → Checked Known
step_of scope stepping whole place part = with_known part (rules.stepped scope stepping whole place)

-- a type whose objects `++` and `--` step
abbrev pub is_stepped : Scope → CType → Bool
is_stepped scope c_type = is_integer c_type || rules.is_pointer_to_complete scope c_type

-- an object at an address
abbrev pub IsObjectAt : {Z : Type 0} → number.CType → Box memory_object.Object Z → memory_address.Address → memory_known.Known → Type 0
IsObjectAt c_type object address made =
    (table : Interned) → Stands table c_type → ObjectStands table object.value → AddressStands table address
    → IsExpr table made (object_at (type_in table c_type) (object_in table object.value) (address_in table address))

-- an element that is an object at an address, where a pointer and an index have these types
abbrev pub FindsElement : {Z : Type 0} → Pos → Pos → number.CType → number.CType → Box memory_object.Object Z → memory_address.Address → State → State → Option memory_known.Known → Type 0
FindsElement whole index_place pointer index object address old new result =
    Finds IsExpr (rules.element_at (scope_of old) whole index_place (type_in old.table pointer) (type_in old.table index) (object_in old.table object.value) (address_in old.table address)) old new result

-- a pointer to a type, as a value at an address
abbrev pub FindsPointer : {Z E : Type 0} → number.CType → Box memory_value.Value Z → memory_address.Address → State → State → Result memory_operand.Operand E → Type 0
FindsPointer target value address old new result =
    IfOk result (λ operand. Finds IsOperand (give (record (value_of_type (Pointer (type_in old.table target)) (value_in old.table value.value)) { address = address_in old.table address })) old new (Some operand))
