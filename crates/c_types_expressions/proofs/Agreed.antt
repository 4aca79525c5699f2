-- Two operands that are pointers that agree.
use Rattle.std.proofs.Common.{◌≡◌, Bool, true, false, ◌&&◌, if◌then◌else◌, Some, sym, subst, ◌∙◌}
use Rattle.run_theory.specs.declared.place.Pos.{Pos}
use Rattle.c_rules.specs.declared.rule.TypeRule.TheVariants as T
use Rattle.c_typed.specs.declared.c_type.CType as number
use Rattle.c_typed.specs.Types.{Void, is_void}
use Rattle.c_typed.specs.Typed as typed
use Rattle.c_typed.specs.Table.{type_in}
use Rattle.c_typed.specs.Views.{value_in, ValueStands}
use Rattle.c_typed.proofs.TypedStays.{value_stays}
use Rattle.c_types_state.specs.declared.known.Condition as memory_condition
use Rattle.c_rules.specs.Known.{give, unless, require, value_of_type}
use Rattle.c_rules.specs.Known as known
use Rattle.c_rules.specs.Operators.{both_integers, converted, pointers_agree, agreed_pointer, choice, integer_choice}
use Rattle.c_types_state.specs.NameTables.{State}
use Rattle.c_types_state.specs.Finding.{noted, Finds, IsType, condition_in}
use Rattle.c_types_state.specs.declared.operands.Operand as memory_operand
use Rattle.c_types_state.specs.Operands.{operand_in, OperandStands, IsOperand}
use Rattle.c_types_state.proofs.Steps.{passes, unchanged}
use Rattle.c_types_state.proofs.OperandsStay.{operand_stays}

module _ (s t : State) (whole : Pos) (agrees answered : Bool) (answer : answered ≡ agrees) (holds : answered ≡ true) (notes : t ≡ record s { least = noted s.least (unless agrees T.T11 whole) }) where
  -- they stand after the test
  pub tested_stands : (a : memory_operand.Operand) → OperandStands s.table a → OperandStands t.table a
  tested_stands a h = subst (λ (s : State). OperandStands s.table a) (sym (unchanged T.T11 whole answer holds notes)) h

  module _ (u : State) (a b : memory_operand.Operand) (made : number.CType) (test : agrees ≡ pointers_agree (operand_in s.table a) (operand_in s.table b)) (found : Finds IsType (give (agreed_pointer (operand_in t.table a) (operand_in t.table b))) t u (Some made)) where
    agreed_found : Finds IsType (give (agreed_pointer (operand_in s.table a) (operand_in s.table b))) s u (Some made)
    agreed_found = subst (λ (s : State). Finds IsType (give (agreed_pointer (operand_in s.table a) (operand_in s.table b))) s u (Some made)) (unchanged T.T11 whole answer holds notes) found

    -- and when their type is made
    pub agreed_operand : (o : memory_operand.Operand) → OperandStands s.table o → OperandStands u.table o × (operand_in u.table o ≡ operand_in s.table o)
    agreed_operand o h = operand_stays s.table u.table agreed_found.grows o h

    pub agreed_value : (o : memory_operand.Operand) (v : typed.Value) → OperandStands s.table o → v ≡ converted whole (type_in u.table made) (operand_in u.table o) → v ≡ converted whole (agreed_pointer (operand_in s.table a) (operand_in s.table b)) (operand_in s.table o)
    agreed_value o v h e = e ∙ (λ i. converted whole (agreed_found.known.1 i) ((agreed_operand o h).1 i))

    pub agreed_test : (condition : memory_condition.Condition) → ValueStands s.table condition.test.value → ValueStands u.table condition.test.value × (value_in u.table condition.test.value ≡ value_in s.table condition.test.value)
    agreed_test condition h = value_stays s.table u.table agreed_found.grows condition.test.value h

    -- what is made of them
    module _ (operand : memory_operand.Operand) (x y : typed.Value) (stand : OperandStands s.table a) (stand' : OperandStands s.table b) (is : x ≡ converted whole (type_in u.table made) (operand_in u.table a)) (is' : y ≡ converted whole (type_in u.table made) (operand_in u.table b)) where
      pub choice-made : (condition : memory_condition.Condition) (z : typed.Value) → z ≡ value_in u.table condition.test.value → ValueStands s.table condition.test.value → both_integers (operand_in s.table a) (operand_in s.table b) ≡ false → (are_void : Bool) → (is_void (type_in s.table a.c_type) && is_void (type_in s.table b.c_type)) ≡ are_void → are_void ≡ false → IsOperand u.table operand (value_of_type (type_in u.table made) (typed.Conditional z x y)) → Finds IsOperand (choice whole (condition_in s.table condition) (operand_in s.table a) (operand_in s.table b)) s u (Some operand)
      choice-made condition z tested test-stands others are_void void_test not_void h =
          let first = operand_in s.table a in
          let second = operand_in s.table b in
          let tests = condition_in s.table condition in
          let given = give (value_of_type (agreed_pointer first second) (typed.Conditional tests.test (converted whole (agreed_pointer first second) first) (converted whole (agreed_pointer first second) second))) in
          let kept = agreed_value a x stand is in
          let kept' = agreed_value b y stand' is' in
          let kept'' : z ≡ tests.test = tested ∙ (agreed_test condition test-stands).1 in
          let its = agreed_found.known.1 in
          let plain = give (value_of_type Void (typed.Conditional tests.test (known.value_in first) (known.value_in second))) in
          subst (λ b. Finds IsOperand (if b then integer_choice tests first second else if is_void first.c_type && is_void second.c_type then plain else require (pointers_agree first second) T.T11 whole given) s u (Some operand)) (sym others)
          (subst (λ b. Finds IsOperand (if b then plain else require (pointers_agree first second) T.T11 whole given) s u (Some operand)) (sym (void_test ∙ not_void))
          (passes (pointers_agree first second) T.T11 whole given test answer holds notes
          (record { grows = found.grows; scope = found.scope; least = found.least; known = (h.0, h.1 ∙ (λ i. value_of_type (its i) (typed.Conditional (kept'' i) (kept i) (kept' i)))) })))
