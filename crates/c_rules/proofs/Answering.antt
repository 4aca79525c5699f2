-- Where nothing is violated, and each name and member has a type, something is known of an expression.
use Rattle.std.proofs.Common.{◌≡◌, ℕ, suc, ◌+◌, Bool, true, false, cond, List, [], ◌∷◌, Option, Some, None, is_some, slice_get, refl, sym, subst}
use Rattle.std.proofs.lemmas.Bool.{false≢true}
use Rattle.run_theory.specs.declared.place.Pos.{Pos}
use Rattle.c_num.specs.declared.BinOp.{BinOp}
use Rattle.c_num.specs.declared.Relation.{Relation}
use Rattle.c_syntax.specs.Trees
use Rattle.c_syntax.specs.Trees.{NameTree, ExprTree}
use Rattle.c_syntax.specs.declared.operator.PrefixOperator.{PrefixOperator}
use Rattle.c_syntax.specs.declared.operator.PrefixOperator.TheVariants as P
use Rattle.c_syntax.specs.declared.operator.BinaryOperator.{BinaryOperator}
use Rattle.c_syntax.specs.declared.operator.BinaryOperator.TheVariants as O
use Rattle.c_syntax.specs.declared.operator.AssignOperator.{AssignOperator}
use Rattle.c_typed.specs.declared.typed.Stepping.{Stepping}
use Rattle.c_typed.specs.Types.{CType, CTypes, Void, Integer, Pointer, Array, Struct, Function, NoTypes, MoreTypes}
use Rattle.c_typed.specs.Layouts.{MemberDef, members_by_tag}
use Rattle.c_typed.specs.Typed.{Value, Object}
use Rattle.c_rules.specs.declared.rule.TypeRule.{TypeRule}
use Rattle.c_rules.specs.declared.violation.Violation.{Violation}
use Rattle.c_rules.specs.declared.constness.Constness.{Constness}
use Rattle.c_rules.specs.declared.constness.Constness.TheVariants.{NotConstant, Undefined, Constant}
use Rattle.c_rules.specs.Names.{Scope, Meaning, NoMeaning, Local, Outer, Library, meaning_of}
use Rattle.c_rules.specs.Known.{Checked, Known, TypedExpr, OfValue, OfObject, OfFunction, OfLibrary, Address, give, refuse, also, require, with_known, given, given_two, given_three, as_value, value_rule}
use Rattle.c_rules.specs.Operators
use Rattle.c_rules.specs.Operators.{OperandKind, AnInteger, AnyValue, AScalar, ArgumentValue, Arguments}
use Rattle.c_rules.specs.Expressions.{library_called, as_constant, constant_value}
use Rattle.c_rules.specs.Fitting.{Yields}
use Rattle.c_rules.proofs.Yielding.{none_left, none_right, give_yields, also_yields, require_yields, given_yields, given_two_yields, given_three_yields}

abbrev pub Anything : {A : Type 0} → A → Type 0
Anything a = Unit {0}

-- something is known where nothing is found
pub record Answers {A : Type 0} (checked : Checked A) : Type 0 where
  pub yields : Yields Anything checked

-- ---- names and members with types

abbrev pub has_type : Meaning → Bool
has_type (Local number None) = false
has_type (Outer None) = false
has_type _ = true

pub record HaveTypes (scope : Scope) : Type 0 where
  pub names : (name : List ℕ) → has_type (meaning_of scope name) ≡ true
  pub members : (tag : List ℕ) (members : List MemberDef) (number : ℕ) (member : MemberDef) → members_by_tag scope.structs tag ≡ Some members
      → slice_get members number ≡ Some member → is_some member.c_type ≡ true

-- ---- parts

pub given-answer : {A : Type 0} (a : A) → Answers (give a)
given-answer a = record { yields = give_yields Anything a tt }

pub refused : {A : Type 0} (kind : TypeRule) (place : Pos) → Answers {A = A} (refuse kind place)
refused kind place = record { yields = λ none. cc }

also-answers : {A : Type 0} (violations : List Violation) (checked : Checked A) → Answers checked → Answers (also violations checked)
also-answers violations checked h = record { yields = also_yields Anything violations checked h.yields }

needed : {A : Type 0} (b : Bool) (kind : TypeRule) (place : Pos) (checked : Checked A) → Answers checked → Answers (require b kind place checked)
needed b kind place checked h = record { yields = require_yields Anything b kind place checked (λ _. h.yields) }

chosen : {A : Type 0} (b : Bool) (one other : Checked A) → Answers one → Answers other → Answers (cond b one other)
chosen true one other h k = h
chosen false one other h k = k

pub then : {A B : Type 0} (part : Checked A) (rule : A → Checked B) → Answers part → ((a : A) → Answers (rule a)) → Answers (given part rule)
then part rule h k = record { yields = given_yields Anything Anything part rule h.yields (λ a _. (k a).yields) }

pub then_two : {A B C : Type 0} (one : Checked A) (other : Checked B) (rule : A → B → Checked C) → Answers one → Answers other → ((a : A) (b : B) → Answers (rule a b)) → Answers (given_two one other rule)
then_two one other rule h k then = record { yields = given_two_yields Anything Anything Anything one other rule h.yields k.yields (λ a b _ _. (then a b).yields) }

then_three : {A B C D : Type 0} (one : Checked A) (two : Checked B) (three : Checked C) (rule : A → B → C → Checked D) → Answers one → Answers two → Answers three
    → ((a : A) (b : B) (c : C) → Answers (rule a b c)) → Answers (given_three one two three rule)
then_three one two three rule h k l then = record { yields = given_three_yields Anything Anything Anything Anything one two three rule h.yields k.yields l.yields (λ a b c _ _ _. (then a b c).yields) }

pub value-answers : (place : Pos) (part : Checked Known) → Answers part → Answers (as_value place part)
value-answers place part h = then part (value_rule place) h (λ known. also-answers _ _ (given-answer _))

pub integer-answers : (place : Pos) (part : Checked Known) → Answers part → Answers (Operators.as_integer place part)
integer-answers place part h = then (as_value place part) (Operators.integer_rule place) (value-answers place part h) (λ known. needed _ _ _ _ (given-answer _))

pub scalar-answers : (place : Pos) (part : Checked Known) → Answers part → Answers (Operators.as_scalar place part)
scalar-answers place part h = then (as_value place part) (Operators.scalar_rule place) (value-answers place part h) (λ known. needed _ _ _ _ (given-answer _))

pub condition-answers : (place : Pos) (part : Checked Known) → Answers part → Answers (Operators.as_condition place part)
condition-answers place part h = then (Operators.as_scalar place part) (λ value. give (Operators.condition_of place value)) (scalar-answers place part h) (λ known. given-answer _)

constant-answers : (place : Pos) (constness : Constness) → Answers (constant_value place constness)
constant-answers place NotConstant = refused _ _
constant-answers place Undefined = refused _ _
constant-answers place (Constant value) = given-answer _

pub as_constant-answers : (place : Pos) (part : Checked Known) → Answers part → Answers (as_constant place part)
as_constant-answers place part h = then (Operators.as_integer place part) (λ value. constant_value place value.constness) (integer-answers place part h) (λ value. constant-answers place value.constness)

-- ---- names

outer-answers : (scope : Scope) (name : NameTree) (c_type : CType) → Answers (Operators.outer_name scope name c_type)
outer-answers scope name Void = given-answer _
outer-answers scope name (Integer int_type) = given-answer _
outer-answers scope name (Pointer target) = given-answer _
outer-answers scope name (Array element n) = given-answer _
outer-answers scope name (Struct tag) = given-answer _
outer-answers scope name (Function result parameters) = also-answers _ _ (given-answer _)

name-answers : (scope : Scope) (name : NameTree) (meaning : Meaning) → has_type meaning ≡ true → Answers (Operators.name_as scope name meaning)
name-answers scope name NoMeaning h = refused _ _
name-answers scope name (Local number None) h = absurd (false≢true h)
name-answers scope name (Local number (Some c_type)) h = given-answer _
name-answers scope name (Outer None) h = absurd (false≢true h)
name-answers scope name (Outer (Some c_type)) h = outer-answers scope name c_type
name-answers scope name (Library function c_type) h = refused _ _

pub named-answers : (scope : Scope) → HaveTypes scope → (name : NameTree) → Answers (Operators.named scope name)
named-answers scope types name = name-answers scope name (meaning_of scope name.bytes) (types.names name.bytes)

-- ---- pointers and members

element-answers : (scope : Scope) (whole place : Pos) (pointer index : CType) (object : Object) (kept : Address) → Answers (Operators.element_at scope whole place pointer index object kept)
element-answers scope whole place pointer index object kept = search (needed, given-answer)

pub indexed-answers : (scope : Scope) (left_place right_place : Pos) (left right : Known) → Answers (Operators.indexed scope left_place right_place left right)
indexed-answers scope left_place right_place left right = search (chosen, element-answers)

dereferenced-answers : (scope : Scope) (whole : Pos) (pointer : Known) → Answers (Operators.dereferenced scope whole pointer)
dereferenced-answers scope whole pointer = search (chosen, needed, given-answer)

address-answers : (whole : Pos) (operand : Known) (typed : TypedExpr) → Answers (Operators.address_in whole operand typed)
address-answers whole operand (OfValue value) = refused _ _
address-answers whole operand (OfObject object) = given-answer _
address-answers whole operand (OfFunction function) = given-answer _
address-answers whole operand (OfLibrary function groups) = refused _ _

moved-answers : (scope : Scope) (whole : Pos) (value : Value) (c_type : CType) (kept : Address) → Answers (Operators.moved_pointer scope whole value c_type kept)
moved-answers scope whole value c_type kept = search (needed, given-answer)

of_type-answers : (c_type : Option CType) (rule : CType → Checked Known) → is_some c_type ≡ true → ((t : CType) → Answers (rule t)) → Answers (Operators.of_type c_type rule)
of_type-answers None rule h k = absurd (false≢true h)
of_type-answers (Some t) rule h k = k t

-- each of these members has a type
abbrev AreTyped : List MemberDef → Type 0
AreTyped members = (number : ℕ) (member : MemberDef) → slice_get members number ≡ Some member → is_some member.c_type ≡ true

member-answers : (number : ℕ) (members : List MemberDef) (name : List ℕ) (object : ℕ → Object) (from : Address) (whole : Pos) → AreTyped members → Answers (Operators.member_at number members name object from whole)
member-answers number [] name object from whole typed = refused _ _
member-answers number (member ∷ members) name object from whole typed =
    chosen _ _ _ (of_type-answers member.c_type _ (typed 0 member refl) (λ t. given-answer _)) (member-answers (number + 1) members name object from whole (λ n. typed (suc n)))

member_in-answers : (members : Option (List MemberDef)) (name : List ℕ) (object : ℕ → Object) (from : Address) (whole : Pos) → ((m : List MemberDef) → members ≡ Some m → AreTyped m) → Answers (Operators.member_in members name object from whole)
member_in-answers None name object from whole typed = refused _ _
member_in-answers (Some members) name object from whole typed = member-answers 0 members name object from whole (typed members refl)

member_of-answers : (scope : Scope) → HaveTypes scope → (whole : Pos) (c_type : CType) (object : ℕ → Object) (from : Address) (member : NameTree) → Answers (Operators.member_of scope whole c_type object from member)
member_of-answers scope types whole Void object from member = refused _ _
member_of-answers scope types whole (Integer int_type) object from member = refused _ _
member_of-answers scope types whole (Pointer target) object from member = refused _ _
member_of-answers scope types whole (Array element n) object from member = refused _ _
member_of-answers scope types whole (Function result parameters) object from member = refused _ _
member_of-answers scope types whole (Struct tag) object from member =
    member_in-answers (members_by_tag scope.structs tag) member.bytes object from whole (λ members is number one. types.members tag members number one is)

pub object_member-answers : (scope : Scope) → HaveTypes scope → (whole : Pos) (member : NameTree) (known : Known) → Answers (Operators.object_member scope whole member known)
object_member-answers scope types whole member known = member_of-answers scope types whole known.c_type _ known.address member

pub pointer_member-answers : (scope : Scope) → HaveTypes scope → (whole : Pos) (member : NameTree) (pointer : Known) → Answers (Operators.pointer_member scope whole member pointer)
pointer_member-answers scope types whole member pointer = search (needed, member_of-answers, types)

-- ---- operators of one operand

modifiable-answers : (whole : Pos) (object : Known) → Answers (Operators.modifiable_rule whole object)
modifiable-answers whole object = search (needed, given-answer)

pub stepped-answers : (scope : Scope) (stepping : Stepping) (whole place : Pos) (operand : Known) → Answers (Operators.stepped scope stepping whole place operand)
stepped-answers scope stepping whole place operand = search (then, modifiable-answers, needed, given-answer)

pub prefixed-answers : (scope : Scope) (operator : PrefixOperator) (whole place : Pos) (operand : Checked Known) → Answers operand → Answers (Operators.prefixed scope operator whole place operand)
prefixed-answers scope P.Increment whole place operand h = then operand _ h (stepped-answers scope _ _ _)
prefixed-answers scope P.Decrement whole place operand h = then operand _ h (stepped-answers scope _ _ _)
prefixed-answers scope P.Address whole place operand h = then operand _ h (λ known. address-answers whole known known.typed)
prefixed-answers scope P.Dereference whole place operand h = then (as_value place operand) _ (value-answers place operand h) (dereferenced-answers scope whole)
prefixed-answers scope P.Plus whole place operand h = then (Operators.as_integer place operand) _ (integer-answers place operand h) (λ known. given-answer _)
prefixed-answers scope P.Minus whole place operand h = then (Operators.as_integer place operand) _ (integer-answers place operand h) (λ known. given-answer _)
prefixed-answers scope P.Complement whole place operand h = then (Operators.as_integer place operand) _ (integer-answers place operand h) (λ known. given-answer _)
prefixed-answers scope P.Not whole place operand h = then (Operators.as_scalar place operand) _ (scalar-answers place operand h) (λ known. given-answer _)

pub size-answers : (scope : Scope) (place : Pos) (c_type : CType) → Answers (Operators.size_of scope place c_type)
size-answers scope place c_type = search (needed, given-answer)

pub cast-answers : (scope : Scope) (whole : Pos) (c_type : CType) (value : Known) → Answers (Operators.cast_to scope whole c_type value)
cast-answers scope whole Void value = given-answer _
cast-answers scope whole (Integer int_type) value = search (needed, given-answer)
cast-answers scope whole (Pointer target) value = search (chosen, needed, given-answer)
cast-answers scope whole (Array element n) value = refused _ _
cast-answers scope whole (Struct tag) value = refused _ _
cast-answers scope whole (Function result parameters) value = refused _ _

-- ---- operators of two operands

sum-answers : (scope : Scope) (whole : Pos) (a b : Known) → Answers (Operators.sum scope whole a b)
sum-answers scope whole a b = search (chosen, moved-answers, given-answer, refused)

difference-answers : (scope : Scope) (whole : Pos) (a b : Known) → Answers (Operators.difference scope whole a b)
difference-answers scope whole a b = search (chosen, moved-answers, given-answer, needed)

ordered-answers : (relation : Relation) (whole : Pos) (a b : Known) → Answers (Operators.ordered relation whole a b)
ordered-answers relation whole a b = search (chosen, given-answer, needed)

equated-answers : (relation : Relation) (whole : Pos) (a b : Known) → Answers (Operators.equated relation whole a b)
equated-answers relation whole a b = search (chosen, given-answer, needed)

combined-answers : (scope : Scope) (operator : BinaryOperator) (whole place : Pos) (a b : Known) → Answers (Operators.combined scope operator whole place a b)
combined-answers scope O.Multiply whole place a b = given-answer _
combined-answers scope O.Divide whole place a b = given-answer _
combined-answers scope O.Remainder whole place a b = given-answer _
combined-answers scope O.Add whole place a b = sum-answers scope whole a b
combined-answers scope O.Subtract whole place a b = difference-answers scope whole a b
combined-answers scope O.ShiftLeft whole place a b = given-answer _
combined-answers scope O.ShiftRight whole place a b = given-answer _
combined-answers scope O.Less whole place a b = ordered-answers _ whole a b
combined-answers scope O.Greater whole place a b = ordered-answers _ whole a b
combined-answers scope O.LessEqual whole place a b = ordered-answers _ whole a b
combined-answers scope O.GreaterEqual whole place a b = ordered-answers _ whole a b
combined-answers scope O.Equal whole place a b = equated-answers _ whole a b
combined-answers scope O.NotEqual whole place a b = equated-answers _ whole a b
combined-answers scope O.BitAnd whole place a b = given-answer _
combined-answers scope O.BitXor whole place a b = given-answer _
combined-answers scope O.BitOr whole place a b = given-answer _
combined-answers scope O.And whole place a b = given-answer _
combined-answers scope O.Or whole place a b = given-answer _

operand-answers : (kind : OperandKind) (place : Pos) (part : Checked Known) → Answers part → Answers (Operators.operand kind place part)
operand-answers AnInteger place part h = integer-answers place part h
operand-answers AnyValue place part h = value-answers place part h
operand-answers AScalar place part h = scalar-answers place part h

pub binary-answers : (scope : Scope) (operator : BinaryOperator) (place right_place : Pos) (left right : Checked Known) → Answers left → Answers right → Answers (Operators.binary scope operator place right_place left right)
binary-answers scope operator place right_place left right h k =
    then_two (Operators.operand (Operators.operand_kind operator) place left) (Operators.operand (Operators.operand_kind operator) right_place right) (Operators.combined scope operator place right_place)
    (operand-answers (Operators.operand_kind operator) place left h) (operand-answers (Operators.operand_kind operator) right_place right k) (combined-answers scope operator place right_place)

choice-answers : (whole : Pos) (condition : Operators.Condition) (a b : Known) → Answers (Operators.choice whole condition a b)
choice-answers whole condition a b = search (chosen, given-answer, needed)

pub conditional-answers : (condition_place taken_place otherwise_place : Pos) (condition taken otherwise : Checked Known) → Answers condition → Answers taken → Answers otherwise
    → Answers (given_three (Operators.as_condition condition_place condition) (as_value taken_place taken) (as_value otherwise_place otherwise) (Operators.choice condition_place))
conditional-answers condition_place taken_place otherwise_place condition taken otherwise h k l =
    then_three (Operators.as_condition condition_place condition) (as_value taken_place taken) (as_value otherwise_place otherwise) (Operators.choice condition_place)
    (condition-answers condition_place condition h) (value-answers taken_place taken k) (value-answers otherwise_place otherwise l) (choice-answers condition_place)

-- ---- assignments

compound-answers : (scope : Scope) (op : BinOp) (place : Pos) (object : Known) → Answers (Operators.compound_object scope op place object)
compound-answers scope op place object = search (chosen, given-answer, needed)

object-answers : (scope : Scope) (op : Option BinOp) (place : Pos) (object : Checked Known) → Answers object → Answers (Operators.assigned_object scope op place object)
object-answers scope None place object h = then object (Operators.modifiable_rule place) h (modifiable-answers place)
object-answers scope (Some op) place object h =
    then (given object (Operators.modifiable_rule place)) (Operators.compound_object scope op place) (then object (Operators.modifiable_rule place) h (modifiable-answers place)) (compound-answers scope op place)

right-answers : (op : Option BinOp) (place : Pos) (part : Checked Known) → Answers part → Answers (Operators.assigned_value op place part)
right-answers None place part h = value-answers place part h
right-answers (Some op) place part h = integer-answers place part h

assignment-answers : (op : Option BinOp) (whole place : Pos) (left right : Known) → Answers (Operators.assignment op whole place left right)
assignment-answers None whole place left right = search (needed, given-answer)
assignment-answers (Some op) whole place left right = given-answer _

pub assigned-answers : (scope : Scope) (operator : AssignOperator) (place value_place : Pos) (object value : Checked Known) → Answers object → Answers value → Answers (Operators.assigned scope operator place value_place object value)
assigned-answers scope operator place value_place object value h k =
    let op = Operators.operator_of operator in
    then_two (Operators.assigned_object scope op place object) (Operators.assigned_value op value_place value) (Operators.assignment op place value_place)
    (object-answers scope op place object h) (right-answers op value_place value k) (assignment-answers op place value_place)

-- ---- calls

-- the value of each argument is known
abbrev pub AreKnown : List ArgumentValue → Type 0
AreKnown [] = Unit {0}
AreKnown (first ∷ others) = ((known : Known) × (first.value ≡ Some known)) × AreKnown others

with_known-answers : {A B : Type 0} (known : Option A) (a : A) (rule : A → Checked B) → known ≡ Some a → Answers (rule a) → Answers (with_known known rule)
with_known-answers known a rule is h = subst (λ option. Answers (with_known option rule)) (sym is) h

passed-answers : (whole : Pos) (parameters : CTypes) (arguments : List ArgumentValue) → AreKnown arguments → Answers (Operators.passed whole parameters arguments)
passed-answers whole NoTypes arguments known = given-answer _
passed-answers whole (MoreTypes first others) [] known = given-answer _
passed-answers whole (MoreTypes first others) (argument ∷ arguments) known =
    then_two (with_known argument.value (Operators.passed_rule whole argument.place first)) (Operators.passed whole others arguments) _
    (with_known-answers argument.value known.0.0 _ known.0.1 (needed _ _ _ _ (given-answer _))) (passed-answers whole others arguments known.1) (λ value values. given-answer _)

called-answers : (whole : Pos) (function : Known) (c_type : CType) (arguments : List ArgumentValue) → AreKnown arguments → Answers (Operators.called_as whole function c_type arguments)
called-answers whole function (Pointer (Function result parameters)) arguments known =
    needed _ _ _ (given (Operators.passed whole parameters arguments) _) (then (Operators.passed whole parameters arguments) _ (passed-answers whole parameters arguments known) (λ values. given-answer _))
called-answers whole function (Pointer Void) arguments known = refused _ _
called-answers whole function (Pointer (Integer int_type)) arguments known = refused _ _
called-answers whole function (Pointer (Pointer target)) arguments known = refused _ _
called-answers whole function (Pointer (Array element n)) arguments known = refused _ _
called-answers whole function (Pointer (Struct tag)) arguments known = refused _ _
called-answers whole function Void arguments known = refused _ _
called-answers whole function (Integer int_type) arguments known = refused _ _
called-answers whole function (Array element n) arguments known = refused _ _
called-answers whole function (Struct tag) arguments known = refused _ _
called-answers whole function (Function result parameters) arguments known = refused _ _

pub call-answers : (whole : Pos) (function : Checked Known) (arguments : Arguments) → Answers function → (arguments.found ≡ [] → AreKnown arguments.values) → Answers (Operators.call whole function arguments)
call-answers whole function arguments h known =
    record {
      yields = λ none.
          (then function (λ f. Operators.call_rule whole f arguments.values) h (λ f. also-answers _ _ (called-answers whole f _ arguments.values (known (none_left arguments.found _ none))))).yields
          (none_right arguments.found _ none);
    }

library-answers : (scope : Scope) (groups : ℕ) (name : NameTree) (otherwise : Checked Known) (meaning : Meaning) → meaning_of scope name.bytes ≡ meaning → Answers otherwise
    → Answers (library_called scope groups (Trees.Named name) otherwise)
library-answers scope groups name otherwise NoMeaning e h = rw (e) h
library-answers scope groups name otherwise (Local number c_type) e h = rw (e) h
library-answers scope groups name otherwise (Outer c_type) e h = rw (e) h
library-answers scope groups name otherwise (Library function c_type) e h = rw (e) (given-answer _)

pub library_called-answers : (scope : Scope) (groups : ℕ) (e : ExprTree) (otherwise : Checked Known) → Answers otherwise → Answers (library_called scope groups e otherwise)
library_called-answers scope groups (Trees.Named name) otherwise h = library-answers scope groups name otherwise (meaning_of scope name.bytes) refl h
library_called-answers scope groups (Trees.Parenthesized place inner) otherwise h = library_called-answers scope (suc groups) inner otherwise h
library_called-answers scope groups (Trees.Integer value int_type place) otherwise h = h
library_called-answers scope groups (Trees.Character byte place) otherwise h = h
library_called-answers scope groups (Trees.Literal bytes place) otherwise h = h
library_called-answers scope groups (Trees.Null place) otherwise h = h
library_called-answers scope groups (Trees.EndOfFile place) otherwise h = h
library_called-answers scope groups (Trees.Index array index) otherwise h = h
library_called-answers scope groups (Trees.Call function open_place _) otherwise h = h
library_called-answers scope groups (Trees.Member object member) otherwise h = h
library_called-answers scope groups (Trees.PointerMember pointer member) otherwise h = h
library_called-answers scope groups (Trees.PostIncrement operand) otherwise h = h
library_called-answers scope groups (Trees.PostDecrement operand) otherwise h = h
library_called-answers scope groups (Trees.Prefix operator place operand) otherwise h = h
library_called-answers scope groups (Trees.SizeofExpr place operand) otherwise h = h
library_called-answers scope groups (Trees.SizeofType place type_name) otherwise h = h
library_called-answers scope groups (Trees.Cast place type_name operand) otherwise h = h
library_called-answers scope groups (Trees.Binary operator left right) otherwise h = h
library_called-answers scope groups (Trees.Conditional condition taken otherwise') otherwise h = h
library_called-answers scope groups (Trees.Assign operator object value) otherwise h = h
