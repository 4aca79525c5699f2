-- What stands in memory for operands.
use Rattle.std.specs.Prelude.{◌≡◌, neg_ℤ}
use Rattle.c_typed.specs.Table.{Interned, Stands, type_in}
use Rattle.c_typed.specs.Views.{value_in, object_in, ValueStands, ObjectStands}
use Rattle.c_rules.specs.declared.constness.Constness.{Constness}
use Rattle.c_rules.specs.declared.constness.Constness.TheVariants.{Constant}
use Rattle.c_rules.specs.Constants.{map_constness}
use Rattle.c_rules.specs.Known.{Known, OfValue, OfObject}
use Rattle.c_types_state.specs.Finding.{AddressStands, address_in}
use Rattle.c_types_state.specs.declared.operands.Operand as memory_operand
use Rattle.c_types_state.specs.declared.targets.Target as memory_target
use Rattle.c_types_state.specs.declared.addresses.Direction.{Direction}
use Rattle.c_types_state.specs.declared.addresses.Direction.TheVariants as D

-- a value
abbrev pub operand_in : Interned → memory_operand.Operand → Known
operand_in table operand =
    record {
      c_type = type_in table operand.c_type;
      typed = OfValue (value_in table operand.value.value);
      constness = operand.constness;
      is_null = operand.is_null;
      address = address_in table operand.address;
    }

abbrev pub OperandStands : Interned → memory_operand.Operand → Type 0
OperandStands table operand = Stands table operand.c_type × ValueStands table operand.value.value × AddressStands table operand.address

abbrev pub IsOperand : Interned → memory_operand.Operand → Known → Type 0
IsOperand table operand known = OperandStands table operand × (operand_in table operand ≡ known)

-- an object that may be assigned to
abbrev pub target_in : Interned → memory_target.Target → Known
target_in table target =
    record {
      c_type = type_in table target.c_type;
      typed = OfObject (object_in table target.object.value);
      constness = target.constness;
      is_null = target.is_null;
      address = address_in table target.address;
    }

abbrev pub TargetStands : Interned → memory_target.Target → Type 0
TargetStands table target = Stands table target.c_type × ObjectStands table target.object.value × AddressStands table target.address

abbrev pub IsTarget : Interned → memory_target.Target → Known → Type 0
IsTarget table target known = TargetStands table target × (target_in table target ≡ known)

-- a number that is added, or subtracted
abbrev pub directed : Direction → Constness → Constness
directed D.Forward number = number
directed D.Back number = map_constness (λ z. Constant (neg_ℤ z)) number
