-- What is found of one operand, and what an operator makes of it.
use Rattle.std.proofs.Common.{◌≡◌, Option, Some, None, refl, sym, ap, subst, ◌∙◌}
use Rattle.run_theory.specs.declared.place.Pos.{Pos}
use Rattle.c_num.specs.declared.IntType.{IntType}
use Rattle.c_typed.specs.Types.{Integer, int}
use Rattle.c_typed.specs.Typed as typed
use Rattle.c_typed.specs.declared.typed.Value as memory_value
use Rattle.c_typed.specs.Table.{Interned, type_in}
use Rattle.c_typed.specs.Views.{value_in, ValueStands}
use Rattle.c_rules.specs.declared.constness.Constness.{Constness}
use Rattle.c_types_state.specs.declared.known.Known as memory_known
use Rattle.c_types_state.specs.declared.known.Condition as memory_condition
use Rattle.c_rules.specs.Known.{Checked, Known, give, also, given, with_known, value_rule, integer_value}
use Rattle.c_rules.specs.Operators.{Condition, condition_of, scalar_rule, integer_rule, logical_not, not_constness, with_plus, with_minus, with_complement, negated, complemented, promoted_type, promoted_value}
use Rattle.c_types_state.specs.NameTables.{State}
use Rattle.c_types_state.specs.Finding.{Finds, IsCondition, condition_in, each_in, expr_in}
use Rattle.c_types_state.proofs.Findings.{finds-give, finds-stands, finds-then, plain-none}
use Rattle.c_types_state.specs.declared.operands.Operand as memory_operand
use Rattle.c_types_state.specs.Operands.{operand_in, OperandStands, IsOperand}

-- ---- an integer that is made

pub integer-made : (table : Interned) (made : memory_operand.Operand) {t t' : IntType} {c c' : Constness} {v v' : typed.Value} → t ≡ t' → c ≡ c' → v ≡ v' → IsOperand table made (integer_value (Integer t) c v) → IsOperand table made (integer_value (Integer t') c' v')
integer-made table made et ec ev h = (h.0, h.1 ∙ (λ i. integer_value (Integer (et i)) (ec i) (ev i)))

-- the same of a value that was put into memory
pub integer-of : (table : Interned) (made : memory_operand.Operand) (int_type : IntType) (constness : Constness) (v v' : memory_value.Value) → v ≡ v' → ValueStands table v' → (ValueStands table v → IsOperand table made (integer_value (Integer int_type) constness (value_in table v))) → IsOperand table made (integer_value (Integer int_type) constness (value_in table v'))
integer-of table made int_type constness v v' is stands made_is =
    subst (λ (v : memory_value.Value). IsOperand table made (integer_value (Integer int_type) constness (value_in table v))) is (made_is (subst (ValueStands table) (sym is) stands))

-- ---- what is made of an operand

abbrev pub scalar_part : Interned → Pos → Option memory_known.Known → Checked Known
scalar_part table place operand = given (with_known (each_in expr_in table operand) (value_rule place)) (scalar_rule place)

abbrev pub integer_part : Interned → Pos → Option memory_known.Known → Checked Known
integer_part table place operand = given (with_known (each_in expr_in table operand) (value_rule place)) (integer_rule place)

module _ (part : Checked Known) (s t : State) (found : Option memory_operand.Operand) (operand : memory_operand.Operand) where
  pub operand-stands : found ≡ Some operand → Finds IsOperand part s t found → OperandStands t.table operand
  operand-stands e first = finds-stands OperandStands operand_in (subst (λ r. Finds IsOperand part s t r) e first)

  pub made-of : (made : memory_operand.Operand) (f : Known → Known) → found ≡ Some operand → Finds IsOperand part s t found → IsOperand t.table made (f (operand_in t.table operand)) → Finds IsOperand (given part (λ v. give (f v))) s t (Some made)
  made-of made f e first is =
      finds-then OperandStands operand_in (λ _. part) (λ _ v. give (f v)) (subst (λ r. Finds IsOperand part s t r) e first) (finds-give is)

  module _ (made : memory_operand.Operand) (promoted : typed.Value) (int_type : IntType) (constness : Constness) (e : found ≡ Some operand) (first : Finds IsOperand part s t found) (of : int_type ≡ promoted_type (type_in t.table operand.c_type)) (is : promoted ≡ promoted_value (operand_in t.table operand)) where
    pub made-plus : IsOperand t.table made (integer_value (Integer int_type) operand.constness (typed.Plus promoted)) → Finds IsOperand (given part (λ v. give (with_plus v))) s t (Some made)
    made-plus h = made-of made with_plus e first (integer-made t.table made of refl (ap typed.Plus is) h)

    pub made-minus : (whole : Pos) → constness ≡ negated int_type operand.constness → IsOperand t.table made (integer_value (Integer int_type) constness (typed.Minus whole int_type promoted)) → Finds IsOperand (given part (λ v. give (with_minus whole v))) s t (Some made)
    made-minus whole known h =
        made-of made (with_minus whole) e first
        (integer-made t.table made of (known ∙ ap (λ i. negated i operand.constness) of) (λ i. typed.Minus whole (of i) (is i)) h)

    pub made-complement : constness ≡ complemented int_type operand.constness → IsOperand t.table made (integer_value (Integer int_type) constness (typed.Complement int_type promoted)) → Finds IsOperand (given part (λ v. give (with_complement v))) s t (Some made)
    made-complement known h =
        made-of made with_complement e first
        (integer-made t.table made of (known ∙ ap (λ i. complemented i operand.constness) of) (λ i. typed.Complement (of i) (is i)) h)

module _ (part : Checked Known) (s t : State) (found : Option memory_operand.Operand) where
  pub made-none : (f : Known → Known) → found ≡ None → Finds IsOperand part s t found → Finds IsOperand (given part (λ v. give (f v))) s t None
  made-none f e first = plain-none part (λ v. give (f v)) (subst (λ r. Finds IsOperand part s t r) e first)

-- ---- what is made of a condition

module _ (part : Checked Known) (place : Pos) (s t : State) (found : Option memory_condition.Condition) where
  pub not-some : (condition : memory_condition.Condition) (constness : Constness) (made : memory_operand.Operand) → found ≡ Some condition → Finds IsCondition (given part (λ v. give (condition_of place v))) s t found → constness ≡ not_constness condition.constness → IsOperand t.table made (integer_value int constness (typed.Not (value_in t.table condition.test.value))) → Finds IsOperand (given part (λ v. give (logical_not (condition_of place v)))) s t (Some made)
  not-some condition constness made e first known is =
      by part.known (subst (λ r. Finds IsCondition (given part (λ v. give (condition_of place v))) s t r) e first)
    where
      by : (o : Option Known) → Finds IsCondition (also part.found (with_known o (λ v. give (condition_of place v)))) s t (Some condition) → Finds IsOperand (also part.found (with_known o (λ v. give (logical_not (condition_of place v))))) s t (Some made)
      by None h = absurd h.known
      by (Some v) h = record {
        grows = h.grows;
        scope = h.scope;
        least = h.least;
        known = (is.0, (is.1 ∙ (λ i. integer_value int (known i) (typed.Not (value_in t.table condition.test.value)))) ∙ ap logical_not h.known.1);
      }

  pub not-none : found ≡ None → Finds IsCondition (given part (λ v. give (condition_of place v))) s t found → Finds IsOperand (given part (λ v. give (logical_not (condition_of place v)))) s t None
  not-none e first =
      by part.known (subst (λ r. Finds IsCondition (given part (λ v. give (condition_of place v))) s t r) e first)
    where
      by : (o : Option Known) → Finds IsCondition (also part.found (with_known o (λ v. give (condition_of place v)))) s t None → Finds IsOperand (also part.found (with_known o (λ v. give (logical_not (condition_of place v))))) s t None
      by None h = record { grows = h.grows; scope = h.scope; least = h.least; known = tt }
      by (Some v) h = absurd h.known

pub condition-stands : (part : Checked Condition) (s t : State) (found : Option memory_condition.Condition) (condition : memory_condition.Condition) → found ≡ Some condition → Finds IsCondition part s t found → ValueStands t.table condition.test.value
condition-stands part s t found condition e first =
    finds-stands (λ table (made : memory_condition.Condition). ValueStands table made.test.value) condition_in (subst (λ r. Finds IsCondition part s t r) e first)
