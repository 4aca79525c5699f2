-- What is found of an expression for its value.
use Rattle.std.proofs.Common.{◌≡◌, Bool, Box, Global, Option, Some, subst, ◌∙◌}
use Rattle.run_theory.specs.declared.place.Pos.{Pos}
use Rattle.c_typed.specs.declared.c_type.CType as number
use Rattle.c_typed.specs.declared.typed.Value as memory_value
use Rattle.c_typed.specs.Types.{decayed, is_array}
use Rattle.c_typed.specs.Table.{Interned, type_in}
use Rattle.c_typed.specs.Views.{value_in, ValueStands}
use Rattle.c_types_state.specs.declared.known.Address as memory_address
use Rattle.c_types_state.specs.declared.known.Known as memory_known
use Rattle.c_types_state.specs.declared.known.Condition as memory_condition
use Rattle.c_rules.specs.Known.{Known, Checked, OfValue, give, given, read_value, value_of_typed, value_address}
use Rattle.c_rules.specs.Operators.{condition_of}
use Rattle.c_types_state.specs.NameTables.{State}
use Rattle.c_types_state.specs.Finding.{Finds, IsType, IsCondition, ExprStands, expr_in, TypedStands, typed_in, AddressStands, address_in}
use Rattle.c_types_state.proofs.Findings.{typed_stays, address_stays, finds-stands, finds-trans-give}
use Rattle.c_types_state.specs.declared.operands.Operand as memory_operand
use Rattle.c_types_state.specs.Operands.{IsOperand, OperandStands, operand_in}

-- an expression's value, whose type may have been made for it
module _ (old new : State) (place : Pos) (known : memory_known.Known) where
  pub finds-read : (t : number.CType) (array : Bool) (value : Box memory_value.Value Global) (address : memory_address.Address) → ExprStands old.table known → Finds IsType (give (decayed (type_in old.table known.c_type))) old new (Some t) → array ≡ is_array (type_in old.table known.c_type) → ((table : Interned) → TypedStands table known.typed → ValueStands table value.value) → ((table : Interned) → value_in table value.value ≡ value_of_typed place array (typed_in table known.typed)) → AddressStands old.table address → address_in old.table address ≡ value_address (typed_in old.table known.typed) (type_in old.table known.c_type) (address_in old.table known.address) → Finds IsOperand (give (read_value place (expr_in old.table known))) old new (Some (record { c_type = t; value = value; constness = known.constness; is_null = known.is_null; address = address }))
  finds-read t array value address stands f is stand means from at =
      let tree = typed_stays old.table new.table f.grows known.typed stands.1 in
      let kept = address_stays old.table new.table f.grows address from in
      let its : value_in new.table value.value ≡ value_of_typed place (is_array (type_in old.table known.c_type)) (typed_in old.table known.typed) = means new.table ∙ (λ i. value_of_typed place (is i) (tree.1 i)) in
      let there = kept.1 ∙ at in
      record {
        grows = f.grows;
        scope = f.scope;
        least = f.least;
        known = (
          (f.known.0, stand new.table tree.0, kept.0),
          λ i. record { c_type = f.known.1 i; typed = OfValue (its i); constness = known.constness; is_null = known.is_null; address = there i },
        );
      }

-- a value that was found, as a condition
module _ (part : Checked Known) (old new : State) (found : Option memory_operand.Operand) (operand : memory_operand.Operand) where
  pub finds-operand_stands : found ≡ Some operand → Finds IsOperand part old new found → OperandStands new.table operand
  finds-operand_stands e first = finds-stands OperandStands operand_in (subst (λ r. Finds IsOperand part old new r) e first)

  pub finds-condition : (place : Pos) (condition : memory_condition.Condition) → found ≡ Some operand → Finds IsOperand part old new found → IsCondition new.table condition (condition_of place (operand_in new.table operand)) → Finds IsCondition (given part (λ value. give (condition_of place value))) old new (Some condition)
  finds-condition place condition e first is =
      finds-trans-give (condition_of place) (subst (λ r. Finds IsOperand part old new r) e first) (λ v h. subst (λ k. IsCondition new.table condition (condition_of place k)) h.1 is)
