-- The arguments of calls.
use Rattle.std.specs.Prelude.{Box, ◌≡◌, ℕ, Bool, if◌then◌else◌, List, Option, Some, Result, Vec, IfOk}
use Rattle.run_theory.specs.declared.place.Pos.{Pos}
use Rattle.c_typed.specs.declared.typed.LibraryFunction.{LibraryFunction}
use Rattle.c_typed.specs.declared.typed.Value as memory_value
use Rattle.c_typed.specs.declared.c_type.CType as number
use Rattle.c_typed.specs.declared.c_type.Parameters as numbers
use Rattle.c_typed.specs.Types.{CType, CTypes, Function, MoreTypes, NoTypes}
use Rattle.c_typed.specs.Typed.{Value, Values, NullPointer}
use Rattle.c_typed.specs.Table.{Interned, Stands, type_in, types_in}
use Rattle.c_typed.specs.Views.{value_in, ValueStands, values_in, ValuesStand}
use Rattle.c_rules.specs.Names.{library_type}
use Rattle.c_rules.specs.Known.{Checked, Known, OfLibrary, give, given, with_known, value_of_type}
use Rattle.c_types_state.specs.NameTables.{State}
use Rattle.c_types_state.specs.Finding.{Finds, IsType}
use Rattle.c_types_expressions.specs.declared.calls.Argument as memory_argument
use Rattle.c_types_expressions.specs.Arguments.{argument_in, arguments_in}
use Rattle.c_rules.specs.Operators.{ArgumentValue, call_rule, passed, passed_rule, unconverted, unconverted_argument}

-- a call with these arguments, of what is known
abbrev pub call_rule_on : Pos → List ArgumentValue → Known → Checked Known
call_rule_on whole arguments known = call_rule whole known arguments

-- where it is known
abbrev pub call_of_part : Pos → List ArgumentValue → Option Known → Checked Known
call_of_part whole arguments part = with_known part (call_rule_on whole arguments)

abbrev pub IsValue : Interned → memory_value.Value → Value → Type 0
IsValue table memory value = ValueStands table memory × (value_in table memory ≡ value)

abbrev pub IsValues : {Z : Type 0} → Interned → Vec memory_value.Value Z → Values → Type 0
IsValues table memory values = ValuesStand table memory.items × (values_in table memory.items ≡ values)

-- what is passed: to `free` the arguments as they are
abbrev pub passed_values : Pos → Bool → CTypes → List ArgumentValue → Checked Values
passed_values whole is_free types arguments = given (passed whole types arguments) (λ values. give (if is_free then unconverted arguments else values))

abbrev pub passed_one : Pos → Bool → CType → ArgumentValue → Checked Value
passed_one whole is_free c_type argument = given (with_known argument.value (passed_rule whole argument.place c_type)) (λ value. give (if is_free then unconverted_argument argument.value else value))

-- a library function's name in so many parentheses
abbrev pub library_known : LibraryFunction → ℕ → Known
library_known function groups = record (value_of_type (library_type function) NullPointer) { typed = OfLibrary function groups }

-- ---- what is found and made

-- the values that are passed
abbrev pub FindsPassed : {Z E : Type 0} → Pos → Bool → numbers.Parameters → List memory_argument.Argument → State → State → Result (Option (Vec memory_value.Value Z)) E → Type 0
FindsPassed whole is_free parameters arguments old new result =
    IfOk result (Finds IsValues (passed_values whole is_free (types_in old.table parameters) (arguments_in old.table arguments)) old new)

-- that of one argument
abbrev pub FindsPassedOne : {E : Type 0} → Pos → Bool → number.CType → memory_argument.Argument → State → State → Result (Option memory_value.Value) E → Type 0
FindsPassedOne whole is_free parameter argument old new result =
    IfOk result (Finds IsValue (passed_one whole is_free (type_in old.table parameter) (argument_in old.table argument)) old new)

-- A call of what stands for a function, of a type and with values. The type and the values stand where it does.
abbrev pub CallStands : {Z E : Type 0} → (Interned → Type 0) → number.CType → List memory_value.Value → Result (Box memory_value.Value Z) E → Type 0
CallStands FunctionStands c_type values result =
    IfOk result (λ made. (table : Interned) → FunctionStands table → Stands table c_type → ValuesStand table values → ValueStands table made.value)

abbrev pub MakesCall : {Z E : Type 0} → (Interned → CType → Values → Value) → number.CType → List memory_value.Value → Result (Box memory_value.Value Z) E → Type 0
MakesCall call c_type values result =
    IfOk result (λ made. (table : Interned) → value_in table made.value ≡ call table (type_in table c_type) (values_in table values))

-- the functions of one parameter
abbrev pub FindsFunction : {E : Type 0} → number.CType → number.CType → State → State → Result number.CType E → Type 0
FindsFunction returned parameter old new result =
    IfOk result (λ made. Finds IsType (give (Function (type_in old.table returned) (MoreTypes (type_in old.table parameter) NoTypes))) old new (Some made))
