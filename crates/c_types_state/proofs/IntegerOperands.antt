-- Operands of integer types.
use Rattle.std.proofs.Common.{◌≡◌, Bool, Box, Global, ap, ◌∙◌}
use Rattle.c_num.specs.declared.IntType.{IntType}
use Rattle.c_typed.specs.declared.c_type.CType as number
use Rattle.c_typed.specs.declared.typed.Value as memory_value
use Rattle.c_typed.specs.Types.{Integer}
use Rattle.c_typed.specs.Table.{Interned, Stands, type_in, integer_number}
use Rattle.c_typed.specs.Views.{value_in, ValueStands}
use Rattle.c_typed.proofs.Grown.{integer_stands}
use Rattle.c_rules.specs.declared.constness.Constness.{Constness}
use Rattle.c_rules.specs.Known.{value_of_type, integer_value, is_zero}
use Rattle.c_types_state.specs.declared.operands.Operand as memory_operand
use Rattle.c_types_state.specs.Operands.{IsOperand, operand_in}

-- a value of an integer type, of which it is then noted what is constant
pub integer_operand : (table : Interned) (t : number.CType) (int_type : IntType) (constness : Constness) (zero_is : Bool) (value : Box memory_value.Value Global) (operand : memory_operand.Operand) → t.0 ≡ integer_number int_type → zero_is ≡ is_zero constness → (Stands table t → ValueStands table value.value → IsOperand table operand (value_of_type (type_in table t) (value_in table value.value))) → ValueStands table value.value → IsOperand table (record operand { constness = constness; is_null = zero_is }) (integer_value (Integer int_type) constness (value_in table value.value))
integer_operand table t int_type constness zero_is value operand e zero made stands =
    let its = integer_stands table t int_type e in
    let plain = made its.0 stands in
    let same : operand_in table operand ≡ value_of_type (Integer int_type) (value_in table value.value) = plain.1 ∙ ap (λ c_type. value_of_type c_type (value_in table value.value)) its.1 in
    (plain.0, λ i. record (same i) { constness = constness; is_null = zero i })
