-- Operators give small types of small ones.
use Rattle.std.proofs.Common.{◌≡◌, ℕ, ◌+◌, true, ◌&&◌, cond, List, [], ◌∷◌, Option, Some, None, bytes_eq, refl}
use Rattle.std.proofs.lemmas.Bool.{and_from}
use Rattle.run_theory.specs.declared.place.Pos.{Pos}
use Rattle.c_num.specs.declared.BinOp.{BinOp}
use Rattle.c_num.specs.declared.BinOp.TheVariants as B
use Rattle.c_num.specs.declared.Relation.{Relation}
use Rattle.c_num.specs.declared.Relation.TheVariants as R
use Rattle.c_num.specs.Arith.{is_shift}
use Rattle.c_syntax.specs.Trees.{NameTree}
use Rattle.c_syntax.specs.declared.operator.PrefixOperator.{PrefixOperator}
use Rattle.c_syntax.specs.declared.operator.PrefixOperator.TheVariants as P
use Rattle.c_syntax.specs.declared.operator.BinaryOperator.{BinaryOperator}
use Rattle.c_syntax.specs.declared.operator.BinaryOperator.TheVariants as O
use Rattle.c_syntax.specs.declared.operator.AssignOperator.{AssignOperator}
use Rattle.c_rules.specs.declared.rule.TypeRule.TheVariants as T
use Rattle.c_typed.specs.Types
use Rattle.c_typed.specs.Types.{CType, Void, Integer, Pointer, Array, Struct, Function}
use Rattle.c_typed.specs.Layouts.{StructDef, MemberDef, members_by_tag}
use Rattle.c_typed.specs.Typed as typed
use Rattle.c_typed.specs.Typed.{Value, Object}
use Rattle.c_typed.specs.declared.typed.Stepping.{Stepping}
use Rattle.c_typed.specs.declared.typed.Stepping.TheVariants as S
use Rattle.c_typed.specs.Sizes.{is_small, makes, object_makes}
use Rattle.c_rules.specs.Names.{Scope}
use Rattle.c_rules.specs.Known.{Checked, Known, TypedExpr, OfValue, OfObject, OfFunction, OfLibrary, Address, give, refuse, require, given, as_value, value_in, value_of_type, object_at}
use Rattle.c_rules.specs.Constants
use Rattle.c_rules.specs.Operators
use Rattle.c_rules.specs.Operators.{Condition, target_of, object_in}
use Rattle.accepted_programs.specs.Small.{IfKnown, Knows, Every, IsSmall, MemberSmall, StructSmall, SmallNames, typed_small, KnownSmall}
use Rattle.accepted_programs.proofs.CTypesSizes.Holding.{by_test, chosen, gives, refuses, required, of_part, of_two}
use Rattle.accepted_programs.proofs.CTypesSizes.Types.{integer_small, small_itself, target_small}
use Rattle.accepted_programs.proofs.CTypesSizes.Operands.{TestSmall, in_small, object_small, as_value_small, as_integer_small, as_scalar_small, operand_small, condition_small, converted_small, unconverted_small}

module _ (structs : List StructDef) where
  -- something small, where it is known
  abbrev pub Small : Checked Known → Type 0
  Small checked = Knows (KnownSmall structs) checked

  has_both : (a b : Value) → makes (is_small structs) a ≡ true → makes (is_small structs) b ≡ true → (makes (is_small structs) a && makes (is_small structs) b) ≡ true
  has_both a b one other = and_from (makes (is_small structs) a) (makes (is_small structs) b) one other

  in_both : (a b : Known) → KnownSmall structs a → KnownSmall structs b → (makes (is_small structs) (value_in a) && makes (is_small structs) (value_in b)) ≡ true
  in_both a b one other = has_both (value_in a) (value_in b) (in_small structs a one) (in_small structs b other)

  -- ---- pointers

  element_at_small : (scope : Scope) (whole place : Pos) (pointer index : CType) (object : Object) (kept : Address) → IsSmall structs pointer → object_makes (is_small structs) object ≡ true
      → Small (Operators.element_at scope whole place pointer index object kept)
  element_at_small scope whole place pointer index object kept small of_object =
      required _ T.T14 whole _ (required _ T.T07 place _ (gives _ (target_small structs pointer small, of_object)))

  pub indexed_small : (scope : Scope) (left_place right_place : Pos) (left right : Known) → KnownSmall structs left → KnownSmall structs right → Small (Operators.indexed scope left_place right_place left right)
  indexed_small scope left_place right_place left right one other =
      chosen _ _ _ (element_at_small scope left_place left_place right.c_type left.c_type _ _ other.0 (in_both left right one other))
      (element_at_small scope left_place right_place left.c_type right.c_type _ _ one.0 (in_both left right one other))

  pub dereferenced_small : (scope : Scope) (whole : Pos) (pointer : Known) → KnownSmall structs pointer → Small (Operators.dereferenced scope whole pointer)
  dereferenced_small scope whole pointer small =
      chosen _ _ _ (gives _ (target_small structs pointer.c_type small.0, in_small structs pointer small))
      (required _ T.T14 whole _ (gives _ (target_small structs pointer.c_type small.0, in_small structs pointer small)))

  pub address_small : (whole : Pos) (operand : Known) (expression : TypedExpr) → IsSmall structs operand.c_type → typed_small structs expression ≡ true → Small (Operators.address_in whole operand expression)
  address_small whole operand (OfValue value) small of_it = refuses _ _
  address_small whole operand (OfObject object) small of_it = gives _ (small, of_it)
  address_small whole operand (OfFunction function) small of_it = gives _ (small, of_it)
  address_small whole operand (OfLibrary function groups) small of_it = refuses _ _

  moved_small : (scope : Scope) (whole : Pos) (value : Value) (c_type : CType) (kept : Address) → IsSmall structs c_type → makes (is_small structs) value ≡ true → Small (Operators.moved_pointer scope whole value c_type kept)
  moved_small scope whole value c_type kept small of_value = required _ T.T14 whole _ (gives _ (small, of_value))

  -- ---- members

  of_type_small : (known : Option CType) (object : Object) (at : CType → Address) → IfKnown (IsSmall structs) known → object_makes (is_small structs) object ≡ true → Small (Operators.of_type known (λ c_type. give (object_at c_type object (at c_type))))
  of_type_small None object at small of_object = record { holds = tt }
  of_type_small (Some c_type) object at small of_object = gives _ (small, of_object)

  member_at_small : (number : ℕ) (members : List MemberDef) → Every (MemberSmall structs) members → (name : List ℕ) (object : ℕ → Object) (from : Address) (whole : Pos) → ((n : ℕ) → object_makes (is_small structs) (object n) ≡ true)
      → Small (Operators.member_at number members name object from whole)
  member_at_small number [] small name object from whole of_object = refuses _ _
  member_at_small number (member ∷ members) small name object from whole of_object =
      chosen (bytes_eq member.name name) _ _ (of_type_small member.c_type (object number) _ small.0 (of_object number)) (member_at_small (number + 1) members small.1 name object from whole of_object)

  member_in_small : (members : Option (List MemberDef)) → IfKnown (Every (MemberSmall structs)) members → (name : List ℕ) (object : ℕ → Object) (from : Address) (whole : Pos) → ((n : ℕ) → object_makes (is_small structs) (object n) ≡ true)
      → Small (Operators.member_in members name object from whole)
  member_in_small None small name object from whole of_object = refuses _ _
  member_in_small (Some members) small name object from whole of_object = member_at_small 0 members small name object from whole of_object

  pub tag_small : (all : List StructDef) → Every (StructSmall structs) all → (tag : List ℕ) → IfKnown (Every (MemberSmall structs)) (members_by_tag all tag)
  tag_small [] small tag = tt
  tag_small (newest ∷ others) small tag = by_test (IfKnown (Every (MemberSmall structs))) (bytes_eq newest.tag tag) (Some newest.members) (members_by_tag others tag) small.0 (tag_small others small.1 tag)

  member_of_small : (scope : Scope) → SmallNames structs scope → (whole : Pos) (t : CType) (object : ℕ → Object) (from : Address) (member : NameTree) → ((n : ℕ) → object_makes (is_small structs) (object n) ≡ true)
      → Small (Operators.member_of scope whole t object from member)
  member_of_small scope names whole Void object from member of_object = refuses _ _
  member_of_small scope names whole (Integer t) object from member of_object = refuses _ _
  member_of_small scope names whole (Pointer t) object from member of_object = refuses _ _
  member_of_small scope names whole (Array t n) object from member of_object = refuses _ _
  member_of_small scope names whole (Function t ts) object from member of_object = refuses _ _
  member_of_small scope names whole (Struct tag) object from member of_object =
      member_in_small (members_by_tag scope.structs tag) (tag_small scope.structs names.members tag) member.bytes object from whole of_object

  pub object_member_small : (scope : Scope) → SmallNames structs scope → (whole : Pos) (member : NameTree) (known : Known) → KnownSmall structs known → Small (Operators.object_member scope whole member known)
  object_member_small scope names whole member known small = member_of_small scope names whole known.c_type _ known.address member (λ n. object_small structs known.typed small.1)

  pub pointer_member_small : (scope : Scope) → SmallNames structs scope → (whole : Pos) (member : NameTree) (pointer : Known) → KnownSmall structs pointer → Small (Operators.pointer_member scope whole member pointer)
  pointer_member_small scope names whole member pointer small =
      required _ T.T14 whole _ (member_of_small scope names whole (target_of pointer.c_type) _ pointer.address member (λ n. in_small structs pointer small))

  -- ---- operators of one operand

  step_small : (stepping : Stepping) (place : Pos) (t : CType) (object : Object) → object_makes (is_small structs) object ≡ true → makes (is_small structs) (Operators.step_value stepping place t object) ≡ true
  step_small stepping place Void object small = small
  step_small stepping place (Integer t) object small = small
  step_small stepping place (Pointer t) object small = small
  step_small stepping place (Array t n) object small = small
  step_small stepping place (Struct tag) object small = small
  step_small stepping place (Function t ts) object small = small

  pub stepped_small : (scope : Scope) (stepping : Stepping) (whole place : Pos) (operand : Known) → KnownSmall structs operand → Small (Operators.stepped scope stepping whole place operand)
  stepped_small scope stepping whole place operand small =
      of_part (KnownSmall structs) (KnownSmall structs) (Operators.modifiable_rule whole operand) _ (required _ T.T09 whole (give operand) (gives operand small))
      (λ object object_is. required _ T.T07 place _ (required _ T.T14 whole _
      (gives _ (object_is.0, step_small stepping whole object.c_type (object_in object.typed) (object_small structs object.typed object_is.1)))))

  pub prefixed_small : (scope : Scope) (operator : PrefixOperator) (whole place : Pos) (operand : Checked Known) → Small operand → Small (Operators.prefixed scope operator whole place operand)
  prefixed_small scope P.Increment whole place operand small = of_part (KnownSmall structs) (KnownSmall structs) operand _ small (λ known is. stepped_small scope S.PreIncrement whole place known is)
  prefixed_small scope P.Decrement whole place operand small = of_part (KnownSmall structs) (KnownSmall structs) operand _ small (λ known is. stepped_small scope S.PreDecrement whole place known is)
  prefixed_small scope P.Address whole place operand small = of_part (KnownSmall structs) (KnownSmall structs) operand (Operators.address_of whole) small (λ known is. address_small whole known known.typed is.0 is.1)
  prefixed_small scope P.Dereference whole place operand small =
      of_part (KnownSmall structs) (KnownSmall structs) (as_value place operand) (Operators.dereferenced scope whole) (as_value_small structs place operand small) (λ known is. dereferenced_small scope whole known is)
  prefixed_small scope P.Plus whole place operand small =
      of_part (KnownSmall structs) (KnownSmall structs) (Operators.as_integer place operand) (λ value. give (Operators.with_plus value)) (as_integer_small structs place operand small) (λ known is. gives _ (integer_small structs _, in_small structs known is))
  prefixed_small scope P.Minus whole place operand small =
      of_part (KnownSmall structs) (KnownSmall structs) (Operators.as_integer place operand) (λ value. give (Operators.with_minus whole value)) (as_integer_small structs place operand small) (λ known is. gives _ (integer_small structs _, in_small structs known is))
  prefixed_small scope P.Complement whole place operand small =
      of_part (KnownSmall structs) (KnownSmall structs) (Operators.as_integer place operand) (λ value. give (Operators.with_complement value)) (as_integer_small structs place operand small) (λ known is. gives _ (integer_small structs _, in_small structs known is))
  prefixed_small scope P.Not whole place operand small =
      of_part (KnownSmall structs) (KnownSmall structs) (Operators.as_scalar place operand) (λ value. give (Operators.logical_not (Operators.condition_of place value))) (as_scalar_small structs place operand small) (λ known is. gives _ (refl, condition_small structs place known is))

  pub size_small : (scope : Scope) (place : Pos) (t : CType) → Small (Operators.size_of scope place t)
  size_small scope place t = required _ T.T05 place _ (gives _ (refl, refl))

  -- a value that is left unused
  pub dropped_small : (value : Value) → makes (is_small structs) value ≡ true → makes (is_small structs) (Operators.dropped value) ≡ true
  dropped_small (typed.Call is_used place function c_type arguments) small = small
  dropped_small (typed.Grouped inner) small = dropped_small inner small
  dropped_small value small = small

  pub cast_small : (scope : Scope) (whole : Pos) (t : CType) (value : Known) → IsSmall structs t → KnownSmall structs value → Small (Operators.cast_to scope whole t value)
  cast_small scope whole Void value small of_value = gives _ (refl, dropped_small (value_in value) (in_small structs value of_value))
  cast_small scope whole (Integer t) value small of_value = required _ T.T16 whole _ (gives _ (small, in_small structs value of_value))
  cast_small scope whole (Pointer target) value small of_value =
      chosen value.is_null _ _ (gives _ (small, in_small structs value of_value))
      (required _ T.T16 whole _
      (gives _ (small, and_from (is_small structs target) (makes (is_small structs) (value_in value)) (small_itself structs target small) (in_small structs value of_value))))
  cast_small scope whole (Array t n) value small of_value = refuses _ _
  cast_small scope whole (Struct tag) value small of_value = refuses _ _
  cast_small scope whole (Function t ts) value small of_value = refuses _ _

  -- ---- operators of two operands

  arithmetic_small : (op : BinOp) (whole : Pos) (a b : Known) → KnownSmall structs a → KnownSmall structs b → Small (Operators.arithmetic op whole a b)
  arithmetic_small op whole a b one other = gives _ (integer_small structs _, in_both a b one other)

  shifted_small : (op : BinOp) (whole : Pos) (a b : Known) → KnownSmall structs a → KnownSmall structs b → Small (Operators.shifted op whole a b)
  shifted_small op whole a b one other = gives _ (integer_small structs _, in_both a b one other)

  compared_small : (relation : Relation) (a b : Known) → KnownSmall structs a → KnownSmall structs b → Small (Operators.compared relation a b)
  compared_small relation a b one other = gives _ (refl, in_both a b one other)

  sum_small : (scope : Scope) (whole : Pos) (a b : Known) → KnownSmall structs a → KnownSmall structs b → Small (Operators.sum scope whole a b)
  sum_small scope whole a b one other =
      chosen (Operators.both_integers a b) (Operators.arithmetic B.Add whole a b) (cond (Types.is_pointer a.c_type && Types.is_integer b.c_type) second (cond (Types.is_integer a.c_type && Types.is_pointer b.c_type) third (refuse T.T11 whole)))
      (arithmetic_small B.Add whole a b one other)
      (chosen (Types.is_pointer a.c_type && Types.is_integer b.c_type) second (cond (Types.is_integer a.c_type && Types.is_pointer b.c_type) third (refuse T.T11 whole))
      (moved_small scope whole (typed.PointerPlus whole (value_in a) (value_in b)) a.c_type (Constants.moved a.address b.constness) one.0 (in_both a b one other))
      (chosen (Types.is_integer a.c_type && Types.is_pointer b.c_type) third (refuse T.T11 whole)
      (moved_small scope whole (typed.NumberPlus whole (value_in a) (value_in b)) b.c_type (Constants.moved b.address a.constness) other.0 (in_both a b one other)) (refuses T.T11 whole)))
    where
      second : Checked Known
      second = Operators.add_number scope whole (typed.PointerPlus whole (value_in a) (value_in b)) a b.constness

      third : Checked Known
      third = Operators.add_number scope whole (typed.NumberPlus whole (value_in a) (value_in b)) b a.constness

  difference_small : (scope : Scope) (whole : Pos) (a b : Known) → KnownSmall structs a → KnownSmall structs b → Small (Operators.difference scope whole a b)
  difference_small scope whole a b one other =
      chosen _ _ _ (arithmetic_small B.Sub whole a b one other)
      (chosen _ _ _ (moved_small scope whole _ a.c_type _ one.0 (in_both a b one other))
      (required _ T.T11 whole _ (required _ T.T14 whole _ (gives _ (refl, in_both a b one other)))))

  ordered_small : (relation : Relation) (whole : Pos) (a b : Known) → KnownSmall structs a → KnownSmall structs b → Small (Operators.ordered relation whole a b)
  ordered_small relation whole a b one other =
      chosen _ _ _ (compared_small relation a b one other) (required _ T.T11 whole _ (gives _ (refl, in_both a b one other)))

  agreed_small : (a b : Known) → KnownSmall structs a → KnownSmall structs b → IsSmall structs (Operators.agreed_pointer a b)
  agreed_small a b one other =
      by_test (IsSmall structs) (Types.is_pointer a.c_type && b.is_null) (cond (a.is_null && Types.is_pointer b.c_type) b.c_type a.c_type) (cond (Types.is_pointer b.c_type && a.is_null) b.c_type last)
      (by_test (IsSmall structs) (a.is_null && Types.is_pointer b.c_type) b.c_type a.c_type other.0 one.0)
      (by_test (IsSmall structs) (Types.is_pointer b.c_type && a.is_null) b.c_type last other.0 (by_test (IsSmall structs) (Types.same_type a.c_type b.c_type) a.c_type (Pointer Void) one.0 refl))
    where
      last : CType
      last = cond (Types.same_type a.c_type b.c_type) a.c_type (Pointer Void)

  equated_small : (relation : Relation) (whole : Pos) (a b : Known) → KnownSmall structs a → KnownSmall structs b → Small (Operators.equated relation whole a b)
  equated_small relation whole a b one other =
      chosen _ _ _ (compared_small relation a b one other)
      (required _ T.T11 whole _ (gives _ (
        refl,
        has_both (Operators.unconverted_value (target_of (Operators.agreed_pointer a b)) a) (Operators.unconverted_value (target_of (Operators.agreed_pointer a b)) b)
            (unconverted_small structs (target_of (Operators.agreed_pointer a b)) a one) (unconverted_small structs (target_of (Operators.agreed_pointer a b)) b other),
      )))

  combined_small : (scope : Scope) (operator : BinaryOperator) (whole right_place : Pos) (a b : Known) → KnownSmall structs a → KnownSmall structs b → Small (Operators.combined scope operator whole right_place a b)
  combined_small scope O.Multiply whole right_place a b one other = arithmetic_small B.Mul whole a b one other
  combined_small scope O.Divide whole right_place a b one other = arithmetic_small B.Div whole a b one other
  combined_small scope O.Remainder whole right_place a b one other = arithmetic_small B.Rem whole a b one other
  combined_small scope O.Add whole right_place a b one other = sum_small scope whole a b one other
  combined_small scope O.Subtract whole right_place a b one other = difference_small scope whole a b one other
  combined_small scope O.ShiftLeft whole right_place a b one other = shifted_small B.Shl whole a b one other
  combined_small scope O.ShiftRight whole right_place a b one other = shifted_small B.Shr whole a b one other
  combined_small scope O.Less whole right_place a b one other = ordered_small R.Lt whole a b one other
  combined_small scope O.Greater whole right_place a b one other = ordered_small R.Gt whole a b one other
  combined_small scope O.LessEqual whole right_place a b one other = ordered_small R.Le whole a b one other
  combined_small scope O.GreaterEqual whole right_place a b one other = ordered_small R.Ge whole a b one other
  combined_small scope O.Equal whole right_place a b one other = equated_small R.Eq whole a b one other
  combined_small scope O.NotEqual whole right_place a b one other = equated_small R.Ne whole a b one other
  combined_small scope O.BitAnd whole right_place a b one other = arithmetic_small B.And whole a b one other
  combined_small scope O.BitXor whole right_place a b one other = arithmetic_small B.Xor whole a b one other
  combined_small scope O.BitOr whole right_place a b one other = arithmetic_small B.Or whole a b one other
  combined_small scope O.And whole right_place a b one other = gives _ (refl, has_both (Operators.condition_of whole a).test (Operators.condition_of right_place b).test (condition_small structs whole a one) (condition_small structs right_place b other))
  combined_small scope O.Or whole right_place a b one other = gives _ (refl, has_both (Operators.condition_of whole a).test (Operators.condition_of right_place b).test (condition_small structs whole a one) (condition_small structs right_place b other))

  pub binary_small : (scope : Scope) (operator : BinaryOperator) (place right_place : Pos) (left right : Checked Known) → Small left → Small right → Small (Operators.binary scope operator place right_place left right)
  binary_small scope operator place right_place left right one other =
      of_two (KnownSmall structs) (KnownSmall structs) (KnownSmall structs) (Operators.operand (Operators.operand_kind operator) place left) (Operators.operand (Operators.operand_kind operator) right_place right) (Operators.combined scope operator place right_place)
      (operand_small structs (Operators.operand_kind operator) place left one) (operand_small structs (Operators.operand_kind operator) right_place right other)
      (λ a b a_is b_is. combined_small scope operator place right_place a b a_is b_is)

  -- ---- `?:`

  pub choice_small : (whole : Pos) (condition : Condition) (a b : Known) → TestSmall structs condition → KnownSmall structs a → KnownSmall structs b → Small (Operators.choice whole condition a b)
  choice_small whole condition a b test one other =
      chosen (Operators.both_integers a b) (Operators.integer_choice condition a b) (cond (Types.is_void a.c_type && Types.is_void b.c_type) second third)
      (gives _ (integer_small structs (Operators.common_type a b), three (value_in a) (value_in b) (in_small structs a one) (in_small structs b other)))
      (chosen (Types.is_void a.c_type && Types.is_void b.c_type) second third
      (gives _ (refl, three (value_in a) (value_in b) (in_small structs a one) (in_small structs b other)))
      (required (Operators.pointers_agree a b) T.T11 whole _
      (gives (value_of_type agreed (typed.Conditional condition.test (Operators.converted whole agreed a) (Operators.converted whole agreed b))) (
        agreed_small a b one other,
        three (Operators.converted whole agreed a) (Operators.converted whole agreed b)
            (converted_small structs whole agreed a (agreed_small a b one other) one) (converted_small structs whole agreed b (agreed_small a b one other) other),
      ))))
    where
      agreed : CType
      agreed = Operators.agreed_pointer a b

      second : Checked Known
      second = give (value_of_type Void (typed.Conditional condition.test (value_in a) (value_in b)))

      third : Checked Known
      third = require (Operators.pointers_agree a b) T.T11 whole (give (value_of_type agreed (typed.Conditional condition.test (Operators.converted whole agreed a) (Operators.converted whole agreed b))))

      three : (x y : Value) → makes (is_small structs) x ≡ true → makes (is_small structs) y ≡ true → (makes (is_small structs) condition.test && makes (is_small structs) x && makes (is_small structs) y) ≡ true
      three x y x_is y_is = and_from (makes (is_small structs) condition.test && makes (is_small structs) x) (makes (is_small structs) y) (has_both condition.test x test x_is) y_is

  -- ---- assignments

  compound_object_small : (scope : Scope) (op : BinOp) (place : Pos) (object : Known) → KnownSmall structs object → Small (Operators.compound_object scope op place object)
  compound_object_small scope op place object small = chosen _ _ _ (required _ T.T14 place _ (gives object small)) (required _ T.T07 place _ (gives object small))

  modifiable_small : (place : Pos) (object : Checked Known) → Small object → Small (given object (Operators.modifiable_rule place))
  modifiable_small place object small = of_part (KnownSmall structs) (KnownSmall structs) object (Operators.modifiable_rule place) small (λ known is. required _ T.T09 place _ (gives known is))

  assigned_object_small : (scope : Scope) (op : Option BinOp) (place : Pos) (object : Checked Known) → Small object → Small (Operators.assigned_object scope op place object)
  assigned_object_small scope None place object small = modifiable_small place object small
  assigned_object_small scope (Some op) place object small =
      of_part (KnownSmall structs) (KnownSmall structs) _ (Operators.compound_object scope op place) (modifiable_small place object small) (λ known is. compound_object_small scope op place known is)

  assigned_value_small : (op : Option BinOp) (place : Pos) (part : Checked Known) → Small part → Small (Operators.assigned_value op place part)
  assigned_value_small None place part small = as_value_small structs place part small
  assigned_value_small (Some op) place part small = as_integer_small structs place part small

  object_both : (object : Object) (value : Value) → object_makes (is_small structs) object ≡ true → makes (is_small structs) value ≡ true → (object_makes (is_small structs) object && makes (is_small structs) value) ≡ true
  object_both object value one other = and_from (object_makes (is_small structs) object) (makes (is_small structs) value) one other

  compound_small : (op : BinOp) (whole : Pos) (t : CType) (object : Object) (value : Known) → object_makes (is_small structs) object ≡ true → KnownSmall structs value → makes (is_small structs) (Operators.compound_value op whole t object value) ≡ true
  compound_small op whole Void object value small is = object_both object (value_in value) small (in_small structs value is)
  compound_small op whole (Integer t) object value small is =
      by_test (λ (v : Value). makes (is_small structs) v ≡ true) (is_shift op) _ _ (object_both object (value_in value) small (in_small structs value is)) (object_both object (value_in value) small (in_small structs value is))
  compound_small op whole (Pointer t) object value small is = object_both object (value_in value) small (in_small structs value is)
  compound_small op whole (Array t n) object value small is = object_both object (value_in value) small (in_small structs value is)
  compound_small op whole (Struct tag) object value small is = object_both object (value_in value) small (in_small structs value is)
  compound_small op whole (Function t ts) object value small is = object_both object (value_in value) small (in_small structs value is)

  assignment_small : (op : Option BinOp) (whole value_place : Pos) (left right : Known) → KnownSmall structs left → KnownSmall structs right → Small (Operators.assignment op whole value_place left right)
  assignment_small None whole value_place left right one other =
      required _ T.T10 value_place _
      (gives _ (one.0, object_both (object_in left.typed) (Operators.converted whole left.c_type right) (object_small structs left.typed one.1) (converted_small structs whole left.c_type right one.0 other)))
  assignment_small (Some op) whole value_place left right one other = gives _ (one.0, compound_small op whole left.c_type (object_in left.typed) right (object_small structs left.typed one.1) other)

  pub assigned_small : (scope : Scope) (operator : AssignOperator) (place value_place : Pos) (object value : Checked Known) → Small object → Small value → Small (Operators.assigned scope operator place value_place object value)
  assigned_small scope operator place value_place object value one other =
      of_two (KnownSmall structs) (KnownSmall structs) (KnownSmall structs) (Operators.assigned_object scope (Operators.operator_of operator) place object) (Operators.assigned_value (Operators.operator_of operator) value_place value)
      (Operators.assignment (Operators.operator_of operator) place value_place)
      (assigned_object_small scope (Operators.operator_of operator) place object one) (assigned_value_small (Operators.operator_of operator) value_place value other)
      (λ a b a_is b_is. assignment_small (Operators.operator_of operator) place value_place a b a_is b_is)
