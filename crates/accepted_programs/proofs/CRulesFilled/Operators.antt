-- Operators give filled types of filled ones.
use Rattle.std.proofs.Common.{◌≡◌, ℕ, ◌+◌, true, ◌&&◌, cond, List, [], ◌∷◌, Option, Some, None, bytes_eq, refl}
use Rattle.std.proofs.lemmas.Bool.{and_from}
use Rattle.run_theory.specs.declared.place.Pos.{Pos}
use Rattle.c_num.specs.declared.BinOp.{BinOp}
use Rattle.c_num.specs.declared.BinOp.TheVariants as B
use Rattle.c_num.specs.declared.Relation.{Relation}
use Rattle.c_num.specs.declared.Relation.TheVariants as R
use Rattle.c_num.specs.Arith.{is_shift}
use Rattle.c_syntax.specs.Trees.{NameTree}
use Rattle.c_syntax.specs.declared.operator.PrefixOperator.{PrefixOperator}
use Rattle.c_syntax.specs.declared.operator.PrefixOperator.TheVariants as P
use Rattle.c_syntax.specs.declared.operator.BinaryOperator.{BinaryOperator}
use Rattle.c_syntax.specs.declared.operator.BinaryOperator.TheVariants as O
use Rattle.c_syntax.specs.declared.operator.AssignOperator.{AssignOperator}
use Rattle.c_rules.specs.declared.rule.TypeRule.TheVariants as T
use Rattle.c_typed.specs.Types
use Rattle.c_typed.specs.Types.{CType, Void, Integer, Pointer, Array, Struct, Function}
use Rattle.c_typed.specs.Layouts.{StructDef, MemberDef, members_by_tag}
use Rattle.c_typed.specs.Typed as typed
use Rattle.c_typed.specs.Typed.{Value, Object}
use Rattle.c_typed.specs.declared.typed.Stepping.{Stepping}
use Rattle.c_typed.specs.declared.typed.Stepping.TheVariants as S
use Rattle.c_typed.specs.Sizes.{fills, makes, object_makes}
use Rattle.c_rules.specs.Names.{Scope}
use Rattle.c_rules.specs.Known.{Checked, Known, TypedExpr, OfValue, OfObject, OfFunction, OfLibrary, Address, give, refuse, require, given, as_value, value_in, value_of_type, object_at}
use Rattle.c_rules.specs.Constants
use Rattle.c_rules.specs.Operators
use Rattle.c_rules.specs.Operators.{Condition, target_of, object_in}
use Rattle.accepted_programs.specs.Knows.{IfKnown, Knows, Every}
use Rattle.accepted_programs.specs.Whole.{IsWhole, MemberFilled, StructFilled, FilledNames, typed_filled, KnownFilled}
use Rattle.accepted_programs.proofs.CRulesFilled.Holding.{by_test, chosen, gives, refuses, required, of_part, of_two}
use Rattle.accepted_programs.proofs.CRulesFilled.Types.{filled_itself, target_filled}
use Rattle.accepted_programs.proofs.CRulesFilled.Operands.{TestFilled, in_filled, object_filled, as_value_filled, as_integer_filled, as_scalar_filled, operand_filled, condition_filled, converted_filled, unconverted_filled}

module _ (structs : List StructDef) where
  -- something filled, where it is known
  abbrev pub Filled : Checked Known → Type 0
  Filled checked = Knows (KnownFilled structs) checked

  has_both : (a b : Value) → makes (fills structs) a ≡ true → makes (fills structs) b ≡ true → (makes (fills structs) a && makes (fills structs) b) ≡ true
  has_both a b one other = and_from (makes (fills structs) a) (makes (fills structs) b) one other

  in_both : (a b : Known) → KnownFilled structs a → KnownFilled structs b → (makes (fills structs) (value_in a) && makes (fills structs) (value_in b)) ≡ true
  in_both a b one other = has_both (value_in a) (value_in b) (in_filled structs a one) (in_filled structs b other)

  -- ---- pointers

  element_at_filled : (scope : Scope) (whole place : Pos) (pointer index : CType) (object : Object) (kept : Address) → IsWhole structs pointer → object_makes (fills structs) object ≡ true
      → Filled (Operators.element_at scope whole place pointer index object kept)
  element_at_filled scope whole place pointer index object kept filled of_object =
      required _ T.T14 whole _ (required _ T.T07 place _ (gives _ (target_filled structs pointer filled, of_object)))

  pub indexed_filled : (scope : Scope) (left_place right_place : Pos) (left right : Known) → KnownFilled structs left → KnownFilled structs right → Filled (Operators.indexed scope left_place right_place left right)
  indexed_filled scope left_place right_place left right one other =
      chosen _ _ _ (element_at_filled scope left_place left_place right.c_type left.c_type _ _ other.0 (in_both left right one other))
      (element_at_filled scope left_place right_place left.c_type right.c_type _ _ one.0 (in_both left right one other))

  pub dereferenced_filled : (scope : Scope) (whole : Pos) (pointer : Known) → KnownFilled structs pointer → Filled (Operators.dereferenced scope whole pointer)
  dereferenced_filled scope whole pointer filled =
      chosen _ _ _ (gives _ (target_filled structs pointer.c_type filled.0, in_filled structs pointer filled))
      (required _ T.T14 whole _ (gives _ (target_filled structs pointer.c_type filled.0, in_filled structs pointer filled)))

  pub address_filled : (whole : Pos) (operand : Known) (expression : TypedExpr) → IsWhole structs operand.c_type → typed_filled structs expression ≡ true → Filled (Operators.address_in whole operand expression)
  address_filled whole operand (OfValue value) filled of_it = refuses _ _
  address_filled whole operand (OfObject object) filled of_it = gives _ (filled, of_it)
  address_filled whole operand (OfFunction function) filled of_it = gives _ (filled, of_it)
  address_filled whole operand (OfLibrary function groups) filled of_it = refuses _ _

  moved_filled : (scope : Scope) (whole : Pos) (value : Value) (c_type : CType) (kept : Address) → IsWhole structs c_type → makes (fills structs) value ≡ true → Filled (Operators.moved_pointer scope whole value c_type kept)
  moved_filled scope whole value c_type kept filled of_value = required _ T.T14 whole _ (gives _ (filled, of_value))

  -- ---- members

  of_type_filled : (known : Option CType) (object : Object) (at : CType → Address) → IfKnown (IsWhole structs) known → object_makes (fills structs) object ≡ true → Filled (Operators.of_type known (λ c_type. give (object_at c_type object (at c_type))))
  of_type_filled None object at filled of_object = record { holds = tt }
  of_type_filled (Some c_type) object at filled of_object = gives _ (filled, of_object)

  member_at_filled : (number : ℕ) (members : List MemberDef) → Every (MemberFilled structs) members → (name : List ℕ) (object : ℕ → Object) (from : Address) (whole : Pos) → ((n : ℕ) → object_makes (fills structs) (object n) ≡ true)
      → Filled (Operators.member_at number members name object from whole)
  member_at_filled number [] filled name object from whole of_object = refuses _ _
  member_at_filled number (member ∷ members) filled name object from whole of_object =
      chosen (bytes_eq member.name name) _ _ (of_type_filled member.c_type (object number) _ filled.0 (of_object number)) (member_at_filled (number + 1) members filled.1 name object from whole of_object)

  member_in_filled : (members : Option (List MemberDef)) → IfKnown (Every (MemberFilled structs)) members → (name : List ℕ) (object : ℕ → Object) (from : Address) (whole : Pos) → ((n : ℕ) → object_makes (fills structs) (object n) ≡ true)
      → Filled (Operators.member_in members name object from whole)
  member_in_filled None filled name object from whole of_object = refuses _ _
  member_in_filled (Some members) filled name object from whole of_object = member_at_filled 0 members filled name object from whole of_object

  pub tag_filled : (all : List StructDef) → Every (StructFilled structs) all → (tag : List ℕ) → IfKnown (Every (MemberFilled structs)) (members_by_tag all tag)
  tag_filled [] filled tag = tt
  tag_filled (newest ∷ others) filled tag = by_test (IfKnown (Every (MemberFilled structs))) (bytes_eq newest.tag tag) (Some newest.members) (members_by_tag others tag) filled.0 (tag_filled others filled.1 tag)

  member_of_filled : (scope : Scope) → FilledNames structs scope → (whole : Pos) (t : CType) (object : ℕ → Object) (from : Address) (member : NameTree) → ((n : ℕ) → object_makes (fills structs) (object n) ≡ true)
      → Filled (Operators.member_of scope whole t object from member)
  member_of_filled scope names whole Void object from member of_object = refuses _ _
  member_of_filled scope names whole (Integer t) object from member of_object = refuses _ _
  member_of_filled scope names whole (Pointer t) object from member of_object = refuses _ _
  member_of_filled scope names whole (Array t n) object from member of_object = refuses _ _
  member_of_filled scope names whole (Function t ts) object from member of_object = refuses _ _
  member_of_filled scope names whole (Struct tag) object from member of_object =
      member_in_filled (members_by_tag scope.structs tag) (tag_filled scope.structs names.members tag) member.bytes object from whole of_object

  pub object_member_filled : (scope : Scope) → FilledNames structs scope → (whole : Pos) (member : NameTree) (known : Known) → KnownFilled structs known → Filled (Operators.object_member scope whole member known)
  object_member_filled scope names whole member known filled = member_of_filled scope names whole known.c_type _ known.address member (λ n. object_filled structs known.typed filled.1)

  pub pointer_member_filled : (scope : Scope) → FilledNames structs scope → (whole : Pos) (member : NameTree) (pointer : Known) → KnownFilled structs pointer → Filled (Operators.pointer_member scope whole member pointer)
  pointer_member_filled scope names whole member pointer filled =
      required _ T.T14 whole _ (member_of_filled scope names whole (target_of pointer.c_type) _ pointer.address member (λ n. in_filled structs pointer filled))

  -- ---- operators of one operand

  step_filled : (stepping : Stepping) (place : Pos) (t : CType) (object : Object) → object_makes (fills structs) object ≡ true → makes (fills structs) (Operators.step_value stepping place t object) ≡ true
  step_filled stepping place Void object filled = filled
  step_filled stepping place (Integer t) object filled = filled
  step_filled stepping place (Pointer t) object filled = filled
  step_filled stepping place (Array t n) object filled = filled
  step_filled stepping place (Struct tag) object filled = filled
  step_filled stepping place (Function t ts) object filled = filled

  pub stepped_filled : (scope : Scope) (stepping : Stepping) (whole place : Pos) (operand : Known) → KnownFilled structs operand → Filled (Operators.stepped scope stepping whole place operand)
  stepped_filled scope stepping whole place operand filled =
      of_part (KnownFilled structs) (KnownFilled structs) (Operators.modifiable_rule whole operand) _ (required _ T.T09 whole (give operand) (gives operand filled))
      (λ object object_is. required _ T.T07 place _ (required _ T.T14 whole _
      (gives _ (object_is.0, step_filled stepping whole object.c_type (object_in object.typed) (object_filled structs object.typed object_is.1)))))

  pub prefixed_filled : (scope : Scope) (operator : PrefixOperator) (whole place : Pos) (operand : Checked Known) → Filled operand → Filled (Operators.prefixed scope operator whole place operand)
  prefixed_filled scope P.Increment whole place operand filled = of_part (KnownFilled structs) (KnownFilled structs) operand _ filled (λ known is. stepped_filled scope S.PreIncrement whole place known is)
  prefixed_filled scope P.Decrement whole place operand filled = of_part (KnownFilled structs) (KnownFilled structs) operand _ filled (λ known is. stepped_filled scope S.PreDecrement whole place known is)
  prefixed_filled scope P.Address whole place operand filled = of_part (KnownFilled structs) (KnownFilled structs) operand (Operators.address_of whole) filled (λ known is. address_filled whole known known.typed is.0 is.1)
  prefixed_filled scope P.Dereference whole place operand filled =
      of_part (KnownFilled structs) (KnownFilled structs) (as_value place operand) (Operators.dereferenced scope whole) (as_value_filled structs place operand filled) (λ known is. dereferenced_filled scope whole known is)
  prefixed_filled scope P.Plus whole place operand filled =
      of_part (KnownFilled structs) (KnownFilled structs) (Operators.as_integer place operand) (λ value. give (Operators.with_plus value)) (as_integer_filled structs place operand filled) (λ known is. gives _ (refl, in_filled structs known is))
  prefixed_filled scope P.Minus whole place operand filled =
      of_part (KnownFilled structs) (KnownFilled structs) (Operators.as_integer place operand) (λ value. give (Operators.with_minus whole value)) (as_integer_filled structs place operand filled) (λ known is. gives _ (refl, in_filled structs known is))
  prefixed_filled scope P.Complement whole place operand filled =
      of_part (KnownFilled structs) (KnownFilled structs) (Operators.as_integer place operand) (λ value. give (Operators.with_complement value)) (as_integer_filled structs place operand filled) (λ known is. gives _ (refl, in_filled structs known is))
  prefixed_filled scope P.Not whole place operand filled =
      of_part (KnownFilled structs) (KnownFilled structs) (Operators.as_scalar place operand) (λ value. give (Operators.logical_not (Operators.condition_of place value))) (as_scalar_filled structs place operand filled) (λ known is. gives _ (refl, condition_filled structs place known is))

  pub size_filled : (scope : Scope) (place : Pos) (t : CType) → Filled (Operators.size_of scope place t)
  size_filled scope place t = required _ T.T05 place _ (gives _ (refl, refl))

  -- a value that is left unused
  pub dropped_filled : (value : Value) → makes (fills structs) value ≡ true → makes (fills structs) (Operators.dropped value) ≡ true
  dropped_filled (typed.Call is_used place function c_type arguments) filled = filled
  dropped_filled (typed.Grouped inner) filled = dropped_filled inner filled
  dropped_filled value filled = filled

  pub cast_filled : (scope : Scope) (whole : Pos) (t : CType) (value : Known) → IsWhole structs t → KnownFilled structs value → Filled (Operators.cast_to scope whole t value)
  cast_filled scope whole Void value filled of_value = gives _ (refl, dropped_filled (value_in value) (in_filled structs value of_value))
  cast_filled scope whole (Integer t) value filled of_value = required _ T.T16 whole _ (gives _ (filled, in_filled structs value of_value))
  cast_filled scope whole (Pointer target) value filled of_value =
      chosen value.is_null _ _ (gives _ (filled, in_filled structs value of_value))
      (required _ T.T16 whole _
      (gives _ (filled, and_from (fills structs target) (makes (fills structs) (value_in value)) (filled_itself structs target filled) (in_filled structs value of_value))))
  cast_filled scope whole (Array t n) value filled of_value = refuses _ _
  cast_filled scope whole (Struct tag) value filled of_value = refuses _ _
  cast_filled scope whole (Function t ts) value filled of_value = refuses _ _

  -- ---- operators of two operands

  arithmetic_filled : (op : BinOp) (whole : Pos) (a b : Known) → KnownFilled structs a → KnownFilled structs b → Filled (Operators.arithmetic op whole a b)
  arithmetic_filled op whole a b one other = gives _ (refl, in_both a b one other)

  shifted_filled : (op : BinOp) (whole : Pos) (a b : Known) → KnownFilled structs a → KnownFilled structs b → Filled (Operators.shifted op whole a b)
  shifted_filled op whole a b one other = gives _ (refl, in_both a b one other)

  compared_filled : (relation : Relation) (a b : Known) → KnownFilled structs a → KnownFilled structs b → Filled (Operators.compared relation a b)
  compared_filled relation a b one other = gives _ (refl, in_both a b one other)

  sum_filled : (scope : Scope) (whole : Pos) (a b : Known) → KnownFilled structs a → KnownFilled structs b → Filled (Operators.sum scope whole a b)
  sum_filled scope whole a b one other =
      chosen (Operators.both_integers a b) (Operators.arithmetic B.Add whole a b) (cond (Types.is_pointer a.c_type && Types.is_integer b.c_type) second (cond (Types.is_integer a.c_type && Types.is_pointer b.c_type) third (refuse T.T11 whole)))
      (arithmetic_filled B.Add whole a b one other)
      (chosen (Types.is_pointer a.c_type && Types.is_integer b.c_type) second (cond (Types.is_integer a.c_type && Types.is_pointer b.c_type) third (refuse T.T11 whole))
      (moved_filled scope whole (typed.PointerPlus whole (value_in a) (value_in b)) a.c_type (Constants.moved a.address b.constness) one.0 (in_both a b one other))
      (chosen (Types.is_integer a.c_type && Types.is_pointer b.c_type) third (refuse T.T11 whole)
      (moved_filled scope whole (typed.NumberPlus whole (value_in a) (value_in b)) b.c_type (Constants.moved b.address a.constness) other.0 (in_both a b one other)) (refuses T.T11 whole)))
    where
      second : Checked Known
      second = Operators.add_number scope whole (typed.PointerPlus whole (value_in a) (value_in b)) a b.constness

      third : Checked Known
      third = Operators.add_number scope whole (typed.NumberPlus whole (value_in a) (value_in b)) b a.constness

  difference_filled : (scope : Scope) (whole : Pos) (a b : Known) → KnownFilled structs a → KnownFilled structs b → Filled (Operators.difference scope whole a b)
  difference_filled scope whole a b one other =
      chosen _ _ _ (arithmetic_filled B.Sub whole a b one other)
      (chosen _ _ _ (moved_filled scope whole _ a.c_type _ one.0 (in_both a b one other))
      (required _ T.T11 whole _ (required _ T.T14 whole _ (gives _ (refl, in_both a b one other)))))

  ordered_filled : (relation : Relation) (whole : Pos) (a b : Known) → KnownFilled structs a → KnownFilled structs b → Filled (Operators.ordered relation whole a b)
  ordered_filled relation whole a b one other =
      chosen _ _ _ (compared_filled relation a b one other) (required _ T.T11 whole _ (gives _ (refl, in_both a b one other)))

  agreed_filled : (a b : Known) → KnownFilled structs a → KnownFilled structs b → IsWhole structs (Operators.agreed_pointer a b)
  agreed_filled a b one other =
      by_test (IsWhole structs) (Types.is_pointer a.c_type && b.is_null) (cond (a.is_null && Types.is_pointer b.c_type) b.c_type a.c_type) (cond (Types.is_pointer b.c_type && a.is_null) b.c_type last)
      (by_test (IsWhole structs) (a.is_null && Types.is_pointer b.c_type) b.c_type a.c_type other.0 one.0)
      (by_test (IsWhole structs) (Types.is_pointer b.c_type && a.is_null) b.c_type last other.0 (by_test (IsWhole structs) (Types.same_type a.c_type b.c_type) a.c_type (Pointer Void) one.0 refl))
    where
      last : CType
      last = cond (Types.same_type a.c_type b.c_type) a.c_type (Pointer Void)

  equated_filled : (relation : Relation) (whole : Pos) (a b : Known) → KnownFilled structs a → KnownFilled structs b → Filled (Operators.equated relation whole a b)
  equated_filled relation whole a b one other =
      chosen _ _ _ (compared_filled relation a b one other)
      (required _ T.T11 whole _ (gives _ (
        refl,
        has_both (Operators.unconverted_value (target_of (Operators.agreed_pointer a b)) a) (Operators.unconverted_value (target_of (Operators.agreed_pointer a b)) b)
            (unconverted_filled structs (target_of (Operators.agreed_pointer a b)) a one) (unconverted_filled structs (target_of (Operators.agreed_pointer a b)) b other),
      )))

  combined_filled : (scope : Scope) (operator : BinaryOperator) (whole right_place : Pos) (a b : Known) → KnownFilled structs a → KnownFilled structs b → Filled (Operators.combined scope operator whole right_place a b)
  combined_filled scope O.Multiply whole right_place a b one other = arithmetic_filled B.Mul whole a b one other
  combined_filled scope O.Divide whole right_place a b one other = arithmetic_filled B.Div whole a b one other
  combined_filled scope O.Remainder whole right_place a b one other = arithmetic_filled B.Rem whole a b one other
  combined_filled scope O.Add whole right_place a b one other = sum_filled scope whole a b one other
  combined_filled scope O.Subtract whole right_place a b one other = difference_filled scope whole a b one other
  combined_filled scope O.ShiftLeft whole right_place a b one other = shifted_filled B.Shl whole a b one other
  combined_filled scope O.ShiftRight whole right_place a b one other = shifted_filled B.Shr whole a b one other
  combined_filled scope O.Less whole right_place a b one other = ordered_filled R.Lt whole a b one other
  combined_filled scope O.Greater whole right_place a b one other = ordered_filled R.Gt whole a b one other
  combined_filled scope O.LessEqual whole right_place a b one other = ordered_filled R.Le whole a b one other
  combined_filled scope O.GreaterEqual whole right_place a b one other = ordered_filled R.Ge whole a b one other
  combined_filled scope O.Equal whole right_place a b one other = equated_filled R.Eq whole a b one other
  combined_filled scope O.NotEqual whole right_place a b one other = equated_filled R.Ne whole a b one other
  combined_filled scope O.BitAnd whole right_place a b one other = arithmetic_filled B.And whole a b one other
  combined_filled scope O.BitXor whole right_place a b one other = arithmetic_filled B.Xor whole a b one other
  combined_filled scope O.BitOr whole right_place a b one other = arithmetic_filled B.Or whole a b one other
  combined_filled scope O.And whole right_place a b one other = gives _ (refl, has_both (Operators.condition_of whole a).test (Operators.condition_of right_place b).test (condition_filled structs whole a one) (condition_filled structs right_place b other))
  combined_filled scope O.Or whole right_place a b one other = gives _ (refl, has_both (Operators.condition_of whole a).test (Operators.condition_of right_place b).test (condition_filled structs whole a one) (condition_filled structs right_place b other))

  pub binary_filled : (scope : Scope) (operator : BinaryOperator) (place right_place : Pos) (left right : Checked Known) → Filled left → Filled right → Filled (Operators.binary scope operator place right_place left right)
  binary_filled scope operator place right_place left right one other =
      of_two (KnownFilled structs) (KnownFilled structs) (KnownFilled structs) (Operators.operand (Operators.operand_kind operator) place left) (Operators.operand (Operators.operand_kind operator) right_place right) (Operators.combined scope operator place right_place)
      (operand_filled structs (Operators.operand_kind operator) place left one) (operand_filled structs (Operators.operand_kind operator) right_place right other)
      (λ a b a_is b_is. combined_filled scope operator place right_place a b a_is b_is)

  -- ---- `?:`

  pub choice_filled : (whole : Pos) (condition : Condition) (a b : Known) → TestFilled structs condition → KnownFilled structs a → KnownFilled structs b → Filled (Operators.choice whole condition a b)
  choice_filled whole condition a b test one other =
      chosen (Operators.both_integers a b) (Operators.integer_choice condition a b) (cond (Types.is_void a.c_type && Types.is_void b.c_type) second third)
      (gives _ (refl, three (value_in a) (value_in b) (in_filled structs a one) (in_filled structs b other)))
      (chosen (Types.is_void a.c_type && Types.is_void b.c_type) second third
      (gives _ (refl, three (value_in a) (value_in b) (in_filled structs a one) (in_filled structs b other)))
      (required (Operators.pointers_agree a b) T.T11 whole _
      (gives (value_of_type agreed (typed.Conditional condition.test (Operators.converted whole agreed a) (Operators.converted whole agreed b))) (
        agreed_filled a b one other,
        three (Operators.converted whole agreed a) (Operators.converted whole agreed b)
            (converted_filled structs whole agreed a (agreed_filled a b one other) one) (converted_filled structs whole agreed b (agreed_filled a b one other) other),
      ))))
    where
      agreed : CType
      agreed = Operators.agreed_pointer a b

      second : Checked Known
      second = give (value_of_type Void (typed.Conditional condition.test (value_in a) (value_in b)))

      third : Checked Known
      third = require (Operators.pointers_agree a b) T.T11 whole (give (value_of_type agreed (typed.Conditional condition.test (Operators.converted whole agreed a) (Operators.converted whole agreed b))))

      three : (x y : Value) → makes (fills structs) x ≡ true → makes (fills structs) y ≡ true → (makes (fills structs) condition.test && makes (fills structs) x && makes (fills structs) y) ≡ true
      three x y x_is y_is = and_from (makes (fills structs) condition.test && makes (fills structs) x) (makes (fills structs) y) (has_both condition.test x test x_is) y_is

  -- ---- assignments

  compound_object_filled : (scope : Scope) (op : BinOp) (place : Pos) (object : Known) → KnownFilled structs object → Filled (Operators.compound_object scope op place object)
  compound_object_filled scope op place object filled = chosen _ _ _ (required _ T.T14 place _ (gives object filled)) (required _ T.T07 place _ (gives object filled))

  modifiable_filled : (place : Pos) (object : Checked Known) → Filled object → Filled (given object (Operators.modifiable_rule place))
  modifiable_filled place object filled = of_part (KnownFilled structs) (KnownFilled structs) object (Operators.modifiable_rule place) filled (λ known is. required _ T.T09 place _ (gives known is))

  assigned_object_filled : (scope : Scope) (op : Option BinOp) (place : Pos) (object : Checked Known) → Filled object → Filled (Operators.assigned_object scope op place object)
  assigned_object_filled scope None place object filled = modifiable_filled place object filled
  assigned_object_filled scope (Some op) place object filled =
      of_part (KnownFilled structs) (KnownFilled structs) _ (Operators.compound_object scope op place) (modifiable_filled place object filled) (λ known is. compound_object_filled scope op place known is)

  assigned_value_filled : (op : Option BinOp) (place : Pos) (part : Checked Known) → Filled part → Filled (Operators.assigned_value op place part)
  assigned_value_filled None place part filled = as_value_filled structs place part filled
  assigned_value_filled (Some op) place part filled = as_integer_filled structs place part filled

  object_both : (object : Object) (value : Value) → object_makes (fills structs) object ≡ true → makes (fills structs) value ≡ true → (object_makes (fills structs) object && makes (fills structs) value) ≡ true
  object_both object value one other = and_from (object_makes (fills structs) object) (makes (fills structs) value) one other

  compound_filled : (op : BinOp) (whole : Pos) (t : CType) (object : Object) (value : Known) → object_makes (fills structs) object ≡ true → KnownFilled structs value → makes (fills structs) (Operators.compound_value op whole t object value) ≡ true
  compound_filled op whole Void object value filled is = object_both object (value_in value) filled (in_filled structs value is)
  compound_filled op whole (Integer t) object value filled is =
      by_test (λ (v : Value). makes (fills structs) v ≡ true) (is_shift op) _ _ (object_both object (value_in value) filled (in_filled structs value is)) (object_both object (value_in value) filled (in_filled structs value is))
  compound_filled op whole (Pointer t) object value filled is = object_both object (value_in value) filled (in_filled structs value is)
  compound_filled op whole (Array t n) object value filled is = object_both object (value_in value) filled (in_filled structs value is)
  compound_filled op whole (Struct tag) object value filled is = object_both object (value_in value) filled (in_filled structs value is)
  compound_filled op whole (Function t ts) object value filled is = object_both object (value_in value) filled (in_filled structs value is)

  assignment_filled : (op : Option BinOp) (whole value_place : Pos) (left right : Known) → KnownFilled structs left → KnownFilled structs right → Filled (Operators.assignment op whole value_place left right)
  assignment_filled None whole value_place left right one other =
      required _ T.T10 value_place _
      (gives _ (one.0, object_both (object_in left.typed) (Operators.converted whole left.c_type right) (object_filled structs left.typed one.1) (converted_filled structs whole left.c_type right one.0 other)))
  assignment_filled (Some op) whole value_place left right one other = gives _ (one.0, compound_filled op whole left.c_type (object_in left.typed) right (object_filled structs left.typed one.1) other)

  pub assigned_filled : (scope : Scope) (operator : AssignOperator) (place value_place : Pos) (object value : Checked Known) → Filled object → Filled value → Filled (Operators.assigned scope operator place value_place object value)
  assigned_filled scope operator place value_place object value one other =
      of_two (KnownFilled structs) (KnownFilled structs) (KnownFilled structs) (Operators.assigned_object scope (Operators.operator_of operator) place object) (Operators.assigned_value (Operators.operator_of operator) value_place value)
      (Operators.assignment (Operators.operator_of operator) place value_place)
      (assigned_object_filled scope (Operators.operator_of operator) place object one) (assigned_value_filled (Operators.operator_of operator) value_place value other)
      (λ a b a_is b_is. assignment_filled (Operators.operator_of operator) place value_place a b a_is b_is)
