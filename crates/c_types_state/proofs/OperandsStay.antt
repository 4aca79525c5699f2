-- Operands stay while the table grows.
use Rattle.std.proofs.Common.{◌≡◌}
use Rattle.c_typed.specs.Table.{Interned, Grows}
use Rattle.c_typed.proofs.Grown.{stays}
use Rattle.c_typed.proofs.TypedStays.{value_stays}
use Rattle.c_rules.specs.Known as known
use Rattle.c_types_state.proofs.Findings.{address_stays}
use Rattle.c_types_state.specs.declared.operands.Operand as memory_operand
use Rattle.c_types_state.specs.Operands.{operand_in, OperandStands}

module _ (old new : Interned) (grows : Grows old new) where
  pub operand_stays : (o : memory_operand.Operand) → OperandStands old o → OperandStands new o × (operand_in new o ≡ operand_in old o)
  operand_stays o h =
      let its = stays old new grows o.c_type h.0 in
      let tree = value_stays old new grows o.value.value h.1 in
      let place = address_stays old new grows o.address h.2 in (
        (its.0, tree.0, place.0),
        λ i. record { c_type = its.1 i; typed = known.OfValue (tree.1 i); constness = o.constness; is_null = o.is_null; address = place.1 i },
      )
