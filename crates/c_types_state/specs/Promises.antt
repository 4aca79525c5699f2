-- What rules promise of operands in memory.
use Rattle.std.specs.Prelude.{Box, ◌≡◌, Option, Result, IfOk}
use Rattle.run_theory.specs.declared.place.Pos.{Pos}
use Rattle.c_num.specs.declared.IntType.{IntType}
use Rattle.c_typed.specs.declared.c_type.CType as number
use Rattle.c_typed.specs.declared.typed.Value as memory_value
use Rattle.c_typed.specs.Types.{CType, Integer}
use Rattle.c_typed.specs.Typed as typed
use Rattle.c_typed.specs.Table.{Interned, Stands, type_in}
use Rattle.c_typed.specs.Views.{value_in, ValueStands}
use Rattle.c_rules.specs.declared.constness.Constness.{Constness}
use Rattle.c_rules.specs.Known.{Checked, Known, give, given, with_known, value_rule, value_of_type, integer_value}
use Rattle.c_rules.specs.Known as known
use Rattle.c_rules.specs.Operators as rules
use Rattle.c_rules.specs.Constants as constants
use Rattle.c_types_state.specs.declared.known.Known as memory_known
use Rattle.c_types_state.specs.declared.known.Address as memory_address
use Rattle.c_types_state.specs.declared.known.TypedExpr as memory_typed
use Rattle.c_types_state.specs.NameTables.{State, scope_of}
use Rattle.c_types_state.specs.Finding.{Finds, each_in, expr_in, typed_in, address_in}
use Rattle.c_types_state.specs.declared.operands.Operand as memory_operand
use Rattle.c_types_state.specs.Operands.{IsOperand, operand_in}

-- ---- what a rule finds, where memory suffices

-- of an expression, where that is known
abbrev pub FindsOfPart : {A B E : Type 0} → (Interned → B → A → Type 0) → (Option Known → Checked A) → Option memory_known.Known → State → State → Result (Option B) E → Type 0
FindsOfPart Is rule part old new result = IfOk result (Finds Is (rule (each_in expr_in old.table part)) old new)

-- of an expression
abbrev pub FindsOfExpr : {A B E : Type 0} → (Interned → B → A → Type 0) → (Known → Checked A) → memory_known.Known → State → State → Result (Option B) E → Type 0
FindsOfExpr Is rule expr old new result = IfOk result (Finds Is (rule (expr_in old.table expr)) old new)

-- of a type
abbrev pub FindsOfType : {A B E : Type 0} → (Interned → B → A → Type 0) → (CType → Checked A) → number.CType → State → State → Result (Option B) E → Type 0
FindsOfType Is rule c_type old new result = IfOk result (Finds Is (rule (type_in old.table c_type)) old new)

-- of an operand, or of two
abbrev pub FindsOfOne : {A B E : Type 0} → (Interned → B → A → Type 0) → (Known → Checked A) → memory_operand.Operand → State → State → Result (Option B) E → Type 0
FindsOfOne Is rule operand old new result = IfOk result (Finds Is (rule (operand_in old.table operand)) old new)

abbrev pub FindsOfTwo : {A B E : Type 0} → (Interned → B → A → Type 0) → (Known → Known → Checked A) → memory_operand.Operand → memory_operand.Operand → State → State → Result (Option B) E → Type 0
FindsOfTwo Is rule left right old new result = IfOk result (Finds Is (rule (operand_in old.table left) (operand_in old.table right)) old new)

-- ---- an expression, where it is known, for its value

abbrev pub value_of_part : Pos → Option Known → Checked Known
value_of_part place part = with_known part (value_rule place)

abbrev pub scalar_of_part : Pos → Option Known → Checked Known
scalar_of_part place part = given (with_known part (value_rule place)) (rules.scalar_rule place)

abbrev pub integer_of_part : Pos → Option Known → Checked Known
integer_of_part place part = given (with_known part (value_rule place)) (rules.integer_rule place)

abbrev pub condition_of_part : Pos → Option Known → Checked rules.Condition
condition_of_part place part = given (given (with_known part (value_rule place)) (rules.scalar_rule place)) (λ value. give (rules.condition_of place value))

-- ---- what is made

-- a value that stands for this one in a table, or for one in each table
abbrev pub MakesValue : {Z E : Type 0} → Interned → typed.Value → Result (Box memory_value.Value Z) E → Type 0
MakesValue table value result = IfOk result (λ made. value_in table made.value ≡ value)

abbrev pub MakesInEach : {Z E : Type 0} → (Interned → typed.Value) → Result (Box memory_value.Value Z) E → Type 0
MakesInEach value result = IfOk result (λ made. (table : Interned) → value_in table made.value ≡ value table)

-- an operand of a type, or of an integer type
abbrev pub IsOfType : {Z : Type 0} → number.CType → Box memory_value.Value Z → memory_operand.Operand → Type 0
IsOfType c_type value operand = (table : Interned) → Stands table c_type → ValueStands table value.value → IsOperand table operand (value_of_type (type_in table c_type) (value_in table value.value))

abbrev pub IsOfInteger : {Z : Type 0} → IntType → Constness → Box memory_value.Value Z → memory_operand.Operand → Type 0
IsOfInteger int_type constness value operand = (table : Interned) → ValueStands table value.value → IsOperand table operand (integer_value (Integer int_type) constness (value_in table value.value))

-- ---- addresses

-- a pointer's, converted to a pointer to the target
abbrev pub IsRetyped : State → number.CType → memory_address.Address → memory_address.Address → Type 0
IsRetyped s target from made = address_in s.table made ≡ constants.retyped (scope_of s).completed (type_in s.table target) (address_in s.table from)

-- that of an expression's value
abbrev pub IsValueAddress : {E : Type 0} → Interned → memory_typed.TypedExpr → number.CType → memory_address.Address → Result memory_address.Address E → Type 0
IsValueAddress table expr c_type from result =
    IfOk result (λ made. address_in table made ≡ known.value_address (typed_in table expr) (type_in table c_type) (address_in table from))
