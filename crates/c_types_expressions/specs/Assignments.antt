-- The operands of assignments.
use Rattle.run_theory.specs.declared.place.Pos.{Pos}
use Rattle.std.specs.Prelude.{Option}
use Rattle.c_num.specs.declared.BinOp.{BinOp}
use Rattle.c_rules.specs.Names.{Scope}
use Rattle.c_rules.specs.Known.{Checked, Known, give}
use Rattle.c_typed.specs.Typed.{Value}
use Rattle.c_typed.specs.Table.{Interned, type_in}
use Rattle.c_typed.specs.Views.{object_in}
use Rattle.c_rules.specs.Operators.{assigned_object, assigned_value, compound_value}
use Rattle.c_types_state.specs.declared.operands.Operand as memory_operand
use Rattle.c_types_state.specs.declared.targets.Target as memory_target
use Rattle.c_types_state.specs.Operands.{operand_in}

abbrev pub assigned_object_rule : Scope → Option BinOp → Pos → Known → Checked Known
assigned_object_rule scope operator place known = assigned_object scope operator place (give known)

abbrev pub assigned_value_rule : Option BinOp → Pos → Known → Checked Known
assigned_value_rule operator place known = assigned_value operator place (give known)

-- the value of a compound assignment to a target
abbrev pub compound_in : Interned → BinOp → Pos → memory_target.Target → memory_operand.Operand → Value
compound_in table op whole target operand = compound_value op whole (type_in table target.c_type) (object_in table target.object.value) (operand_in table operand)
