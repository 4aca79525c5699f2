-- What operators give does not depend on the names outside functions.
use Rattle.std.proofs.Common.{◌≡◌, ℕ, List, [], ◌++◌, Option, Some, None, refl}
use Rattle.run_theory.specs.declared.place.Pos.{Pos}
use Rattle.c_num.specs.declared.BinOp.{BinOp}
use Rattle.c_syntax.specs.declared.operator.BinaryOperator.{BinaryOperator}
use Rattle.c_syntax.specs.declared.operator.BinaryOperator.TheVariants as O
use Rattle.c_syntax.specs.declared.operator.PrefixOperator.{PrefixOperator}
use Rattle.c_syntax.specs.declared.operator.PrefixOperator.TheVariants as P
use Rattle.c_syntax.specs.Trees.{NameTree, SimpleTree}
use Rattle.c_syntax.specs.Trees
use Rattle.c_typed.specs.Types.{CType, Void, Integer, Pointer, Array, Struct, Function}
use Rattle.c_typed.specs.declared.typed.Stepping.{Stepping}
use Rattle.c_typed.specs.declared.typed.Stepping.TheVariants as S
use Rattle.c_typed.specs.Typed.{Object}
use Rattle.c_rules.specs.Names.{Scope, FileName, Meaning, NoMeaning, Local, Outer, Library}
use Rattle.c_rules.specs.Known.{Checked, Known, Address, given, given_two, given_three, with_known, as_value, value_rule, give}
use Rattle.c_rules.specs.Operators
use Rattle.c_rules.specs.Operators.{OperandKind, AnInteger, AnyValue, AScalar}
use Rattle.c_rules.specs.Expressions.{simple_type}
use Rattle.c_rules.proofs.Nothing.{both_none, given_part}

-- ---- parts that stay

pub given_stays : {A B : Type 0} (part part' : Checked A) (rule rule' : A → Checked B) → (part.found ≡ [] → part' ≡ part) → rule' ≡ rule → (given part rule).found ≡ [] → given part' rule' ≡ given part rule
given_stays part part' rule rule' stays same none = let is = stays (given_part part rule none) in λ i. given (is i) (same i)

pub two_stays : {A B C : Type 0} (one one' : Checked A) (two two' : Checked B) (rule rule' : A → B → Checked C) → (one.found ≡ [] → one' ≡ one) → (two.found ≡ [] → two' ≡ two) → rule' ≡ rule
    → (given_two one two rule).found ≡ [] → given_two one' two' rule' ≡ given_two one two rule
two_stays one one' two two' rule rule' first second same none =
    let parts = both_none one.found two.found (both_none (one.found ++ two.found) (with_known one.known (λ a. with_known two.known (rule a))).found none).0 in
    let is = first parts.0 in
    let is' = second parts.1 in
    λ i. given_two (is i) (is' i) (same i)

pub three_stays : {A B C D : Type 0} (one one' : Checked A) (two two' : Checked B) (three three' : Checked C) (rule : A → B → C → Checked D)
    → (one.found ≡ [] → one' ≡ one) → (two.found ≡ [] → two' ≡ two) → (three.found ≡ [] → three' ≡ three) → (given_three one two three rule).found ≡ [] → given_three one' two' three' rule ≡ given_three one two three rule
three_stays one one' two two' three three' rule first second third none =
    let front = both_none (one.found ++ two.found ++ three.found) (with_known one.known (λ a. with_known two.known (λ b. with_known three.known (rule a b)))).found none in
    let left = both_none (one.found ++ two.found) three.found front.0 in
    let parts = both_none one.found two.found left.0 in
    let is = first parts.0 in
    let is' = second parts.1 in
    let is'' = third left.1 in
    λ i. given_three (is i) (is' i) (is'' i) rule

pub value_stays : (place : Pos) (part part' : Checked Known) → (part.found ≡ [] → part' ≡ part) → (as_value place part).found ≡ [] → as_value place part' ≡ as_value place part
value_stays place part part' stays none = given_stays part part' (value_rule place) (value_rule place) stays refl none

pub integer_stays : (place : Pos) (part part' : Checked Known) → (part.found ≡ [] → part' ≡ part) → (Operators.as_integer place part).found ≡ [] → Operators.as_integer place part' ≡ Operators.as_integer place part
integer_stays place part part' stays none =
    given_stays (as_value place part) (as_value place part') (Operators.integer_rule place) (Operators.integer_rule place) (value_stays place part part' stays) refl none

pub scalar_stays : (place : Pos) (part part' : Checked Known) → (part.found ≡ [] → part' ≡ part) → (Operators.as_scalar place part).found ≡ [] → Operators.as_scalar place part' ≡ Operators.as_scalar place part
scalar_stays place part part' stays none =
    given_stays (as_value place part) (as_value place part') (Operators.scalar_rule place) (Operators.scalar_rule place) (value_stays place part part' stays) refl none

pub condition_stays : (place : Pos) (part part' : Checked Known) → (part.found ≡ [] → part' ≡ part) → (Operators.as_condition place part).found ≡ [] → Operators.as_condition place part' ≡ Operators.as_condition place part
condition_stays place part part' stays none =
    given_stays (Operators.as_scalar place part) (Operators.as_scalar place part') (λ value. give (Operators.condition_of place value)) (λ value. give (Operators.condition_of place value)) (scalar_stays place part part' stays) refl none

pub operand_stays : (kind : OperandKind) (place : Pos) (part part' : Checked Known) → (part.found ≡ [] → part' ≡ part) → (Operators.operand kind place part).found ≡ [] → Operators.operand kind place part' ≡ Operators.operand kind place part
operand_stays AnInteger place part part' stays none = integer_stays place part part' stays none
operand_stays AnyValue place part part' stays none = value_stays place part part' stays none
operand_stays AScalar place part part' stays none = scalar_stays place part part' stays none

-- ---- rules

module _ (scope : Scope) (file : List FileName) where
  abbrev pub behind : Scope
  behind = record scope { file = file }

  complete_same : (c_type : CType) → Operators.is_pointer_to_complete behind c_type ≡ Operators.is_pointer_to_complete scope c_type
  complete_same Void = refl
  complete_same (Integer int_type) = refl
  complete_same (Pointer target) = refl
  complete_same (Array element n) = refl
  complete_same (Struct tag) = refl
  complete_same (Function result types) = refl

  outer_same : (name : NameTree) (c_type : CType) → Operators.outer_name behind name c_type ≡ Operators.outer_name scope name c_type
  outer_same name Void = refl
  outer_same name (Integer int_type) = refl
  outer_same name (Pointer target) = refl
  outer_same name (Array element n) = refl
  outer_same name (Struct tag) = refl
  outer_same name (Function result types) = refl

  pub name_same : (name : NameTree) (meaning : Meaning) → Operators.name_as behind name meaning ≡ Operators.name_as scope name meaning
  name_same name NoMeaning = refl
  name_same name (Local number c_type) = refl
  name_same name (Outer None) = refl
  name_same name (Outer (Some c_type)) = outer_same name c_type
  name_same name (Library function c_type) = refl

  pub words_same : (words : SimpleTree) → simple_type behind words ≡ simple_type scope words
  words_same Trees.VoidWord = refl
  words_same (Trees.IntegerWords int_type) = refl
  words_same (Trees.StructTag tag) = refl

  pub indexed_same : (left_place right_place : Pos) (left right : Known) → Operators.indexed behind left_place right_place left right ≡ Operators.indexed scope left_place right_place left right
  indexed_same left_place right_place left right = simp complete_same

  dereferenced_same : (whole : Pos) (pointer : Known) → Operators.dereferenced behind whole pointer ≡ Operators.dereferenced scope whole pointer
  dereferenced_same whole pointer = simp complete_same

  member_same : (whole : Pos) (c_type : CType) (object : ℕ → Object) (from : Address) (member : NameTree) → Operators.member_of behind whole c_type object from member ≡ Operators.member_of scope whole c_type object from member
  member_same whole Void object from member = refl
  member_same whole (Integer int_type) object from member = refl
  member_same whole (Pointer target) object from member = refl
  member_same whole (Array element n) object from member = refl
  member_same whole (Struct tag) object from member = refl
  member_same whole (Function result types) object from member = refl

  pub object_member_same : (whole : Pos) (member : NameTree) (known : Known) → Operators.object_member behind whole member known ≡ Operators.object_member scope whole member known
  object_member_same whole member known = member_same whole known.c_type _ known.address member

  pub pointer_member_same : (whole : Pos) (member : NameTree) (pointer : Known) → Operators.pointer_member behind whole member pointer ≡ Operators.pointer_member scope whole member pointer
  pointer_member_same whole member pointer = simp (complete_same, member_same)

  pub stepped_same : (stepping : Stepping) (whole place : Pos) (operand : Known) → Operators.stepped behind stepping whole place operand ≡ Operators.stepped scope stepping whole place operand
  stepped_same stepping whole place operand = simp complete_same

  sum_same : (whole : Pos) (a b : Known) → Operators.sum behind whole a b ≡ Operators.sum scope whole a b
  sum_same whole a b = simp complete_same

  difference_same : (whole : Pos) (a b : Known) → Operators.difference behind whole a b ≡ Operators.difference scope whole a b
  difference_same whole a b = simp complete_same

  pub combined_same : (operator : BinaryOperator) (whole place : Pos) (a b : Known) → Operators.combined behind operator whole place a b ≡ Operators.combined scope operator whole place a b
  combined_same O.Multiply whole place a b = refl
  combined_same O.Divide whole place a b = refl
  combined_same O.Remainder whole place a b = refl
  combined_same O.Add whole place a b = sum_same whole a b
  combined_same O.Subtract whole place a b = difference_same whole a b
  combined_same O.ShiftLeft whole place a b = refl
  combined_same O.ShiftRight whole place a b = refl
  combined_same O.Less whole place a b = refl
  combined_same O.Greater whole place a b = refl
  combined_same O.LessEqual whole place a b = refl
  combined_same O.GreaterEqual whole place a b = refl
  combined_same O.Equal whole place a b = refl
  combined_same O.NotEqual whole place a b = refl
  combined_same O.BitAnd whole place a b = refl
  combined_same O.BitXor whole place a b = refl
  combined_same O.BitOr whole place a b = refl
  combined_same O.And whole place a b = refl
  combined_same O.Or whole place a b = refl

  pub cast_same : (whole : Pos) (c_type : CType) (value : Known) → Operators.cast_to behind whole c_type value ≡ Operators.cast_to scope whole c_type value
  cast_same whole Void value = refl
  cast_same whole (Integer int_type) value = refl
  cast_same whole (Pointer target) value = refl
  cast_same whole (Array element n) value = refl
  cast_same whole (Struct tag) value = refl
  cast_same whole (Function result types) value = refl

  compound_same : (op : BinOp) (place : Pos) (object : Known) → Operators.compound_object behind op place object ≡ Operators.compound_object scope op place object
  compound_same op place object = simp complete_same

  pub object_stays : (op : Option BinOp) (place : Pos) (part part' : Checked Known) → (part.found ≡ [] → part' ≡ part) → (Operators.assigned_object scope op place part).found ≡ []
      → Operators.assigned_object behind op place part' ≡ Operators.assigned_object scope op place part
  object_stays None place part part' stays none = given_stays part part' (Operators.modifiable_rule place) (Operators.modifiable_rule place) stays refl none
  object_stays (Some op) place part part' stays none =
      given_stays (given part (Operators.modifiable_rule place)) (given part' (Operators.modifiable_rule place)) (Operators.compound_object scope op place) (Operators.compound_object behind op place)
      (given_stays part part' (Operators.modifiable_rule place) (Operators.modifiable_rule place) stays refl) (λ i object. compound_same op place object i) none

  pub assigned_stays : (op : Option BinOp) (place : Pos) (part part' : Checked Known) → (part.found ≡ [] → part' ≡ part) → (Operators.assigned_value op place part).found ≡ []
      → Operators.assigned_value op place part' ≡ Operators.assigned_value op place part
  assigned_stays None place part part' stays none = value_stays place part part' stays none
  assigned_stays (Some op) place part part' stays none = integer_stays place part part' stays none

  pub prefixed_stays : (operator : PrefixOperator) (whole place : Pos) (part part' : Checked Known) → (part.found ≡ [] → part' ≡ part) → (Operators.prefixed scope operator whole place part).found ≡ []
      → Operators.prefixed behind operator whole place part' ≡ Operators.prefixed scope operator whole place part
  prefixed_stays P.Increment whole place part part' stays none = given_stays part part' (Operators.stepped scope S.PreIncrement whole place) (Operators.stepped behind S.PreIncrement whole place) stays (λ i known. stepped_same S.PreIncrement whole place known i) none
  prefixed_stays P.Decrement whole place part part' stays none = given_stays part part' (Operators.stepped scope S.PreDecrement whole place) (Operators.stepped behind S.PreDecrement whole place) stays (λ i known. stepped_same S.PreDecrement whole place known i) none
  prefixed_stays P.Address whole place part part' stays none = given_stays part part' (Operators.address_of whole) (Operators.address_of whole) stays refl none
  prefixed_stays P.Dereference whole place part part' stays none =
      given_stays (as_value place part) (as_value place part') (Operators.dereferenced scope whole) (Operators.dereferenced behind whole) (value_stays place part part' stays) (λ i known. dereferenced_same whole known i) none
  prefixed_stays P.Plus whole place part part' stays none =
      given_stays (Operators.as_integer place part) (Operators.as_integer place part') (λ value. give (Operators.with_plus value)) (λ value. give (Operators.with_plus value)) (integer_stays place part part' stays) refl none
  prefixed_stays P.Minus whole place part part' stays none =
      given_stays (Operators.as_integer place part) (Operators.as_integer place part') (λ value. give (Operators.with_minus whole value)) (λ value. give (Operators.with_minus whole value)) (integer_stays place part part' stays) refl none
  prefixed_stays P.Complement whole place part part' stays none =
      given_stays (Operators.as_integer place part) (Operators.as_integer place part') (λ value. give (Operators.with_complement value)) (λ value. give (Operators.with_complement value)) (integer_stays place part part' stays) refl none
  prefixed_stays P.Not whole place part part' stays none =
      given_stays (Operators.as_scalar place part) (Operators.as_scalar place part') (λ value. give (Operators.logical_not (Operators.condition_of place value))) (λ value. give (Operators.logical_not (Operators.condition_of place value))) (scalar_stays place part part' stays) refl none
