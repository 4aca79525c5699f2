-- What the rules find of a part of the text: what it violates, and what is known of it where it violates nothing that is
-- needed for that.
use Rattle.std.specs.Prelude.{ℕ, suc, Bool, true, false, not, ◌&&◌, ◌||◌, ◌==◌, nat_lt, nat_le, if◌then◌else◌, List, [], ◌∷◌, ◌++◌, Option, Some, None, pos}
use Rattle.std.specs.Ordering.{int_eq}
use Rattle.run_theory.specs.declared.place.Pos.{Pos}
use Rattle.c_rules.specs.declared.rule.TypeRule.{TypeRule}
use Rattle.c_rules.specs.declared.rule.TypeRule.TheVariants as T
use Rattle.c_rules.specs.declared.violation.Violation.{Violation}
use Rattle.c_rules.specs.declared.constness.Constness.{Constness}
use Rattle.c_rules.specs.declared.constness.Constness.TheVariants.{NotConstant, Constant}
use Rattle.c_typed.specs.Places.{is_same_place}
use Rattle.c_typed.specs.declared.part.Part.{Part}
use Rattle.c_typed.specs.declared.part.Part.TheVariants as Parts
use Rattle.c_typed.specs.Values.{Static}
use Rattle.c_typed.specs.declared.typed.LibraryFunction.{LibraryFunction}
use Rattle.c_typed.specs.Typed.{Value, Object, Designator, NullPointer, Grouped, Read, Decay, FunctionValue, GroupedObject, GroupedFunction}
use Rattle.c_typed.specs.Types
use Rattle.c_typed.specs.Types.{CType, Array, decayed, is_struct}

-- ---- violations

-- the first place, and at one place the first rule
abbrev pub rule_number : TypeRule → ℕ
rule_number T.T01 = 1
rule_number T.T02 = 2
rule_number T.T03 = 3
rule_number T.T04 = 4
rule_number T.T05 = 5
rule_number T.T06 = 6
rule_number T.T07 = 7
rule_number T.T08 = 8
rule_number T.T09 = 9
rule_number T.T10 = 10
rule_number T.T11 = 11
rule_number T.T12 = 12
rule_number T.T13 = 13
rule_number T.T14 = 14
rule_number T.T15 = 15
rule_number T.T16 = 16
rule_number T.T17 = 17
rule_number T.T18 = 18
rule_number T.T19 = 19
rule_number T.T20 = 20
rule_number T.T21 = 21
rule_number T.T22 = 22
rule_number T.T23 = 23
rule_number T.T24 = 24

abbrev pub is_before : Pos → Pos → Bool
is_before a b = nat_lt a.line b.line || ((a.line == b.line) && nat_lt a.column b.column)

abbrev pub comes_first : Violation → Violation → Bool
comes_first a b = is_before a.place b.place || (is_same_place a.place b.place && nat_le (rule_number a.kind) (rule_number b.kind))

abbrev pub least_of_two : Violation → Option Violation → Option Violation
least_of_two violation None = Some violation
least_of_two violation (Some other) = if comes_first violation other then Some violation else Some other

abbrev pub least : List Violation → Option Violation
least [] = None
least (violation ∷ violations) = least_of_two violation (least violations)

abbrev pub at : TypeRule → Pos → List Violation
at kind place = record { kind = kind; place = place } ∷ []

abbrev pub unless : Bool → TypeRule → Pos → List Violation
unless true kind place = []
unless false kind place = at kind place

-- ---- what is found

pub record Checked (A : Type 0) : Type 0 where
  pub found : List Violation
  pub known : Option A

abbrev pub give : {A : Type 0} → A → Checked A
give a = record { found = []; known = Some a }

abbrev pub unknown : {A : Type 0} → Checked A
unknown = record { found = []; known = None }

-- it violates this rule, and nothing is known of it
abbrev pub refuse : {A : Type 0} → TypeRule → Pos → Checked A
refuse kind place = record { found = at kind place; known = None }

-- what is known already, or isn't
abbrev pub known_already : {A : Type 0} → Option A → Checked A
known_already known = record { found = []; known = known }

-- with other violations
abbrev pub also : {A : Type 0} → List Violation → Checked A → Checked A
also violations checked = record checked { found = violations ++ checked.found }

-- a rule that is looked at where it holds that
abbrev pub require : {A : Type 0} → Bool → TypeRule → Pos → Checked A → Checked A
require true kind place checked = checked
require false kind place checked = refuse kind place

-- a rule that needs what is known of a part
abbrev pub with_known : {A B : Type 0} → Option A → (A → Checked B) → Checked B
with_known None rule = unknown
with_known (Some a) rule = rule a

abbrev pub given : {A B : Type 0} → Checked A → (A → Checked B) → Checked B
given part rule = also part.found (with_known part.known rule)

-- a rule that needs what is known of two parts, or of three
abbrev pub given_two : {A B C : Type 0} → Checked A → Checked B → (A → B → Checked C) → Checked C
given_two one two rule = also (one.found ++ two.found) (with_known one.known (λ a. with_known two.known (rule a)))

abbrev pub given_three : {A B C D : Type 0} → Checked A → Checked B → Checked C → (A → B → C → Checked D) → Checked D
given_three one two three rule = also (one.found ++ two.found ++ three.found) (with_known one.known (λ a. with_known two.known (λ b. with_known three.known (rule a b))))

-- ---- expressions

-- an expression that has a type, as a typed tree: a value, an object, a function, or a library function's name in so many
-- parentheses
pub data TypedExpr : Type 0 where
  OfValue : (value : Value) → TypedExpr
  OfObject : (object : Object) → TypedExpr
  OfFunction : (function : Designator) → TypedExpr
  OfLibrary : (function : LibraryFunction) (groups : ℕ) → TypedExpr

-- An address that is known before the program runs (C17 6.6 paragraph 9): none; one outside its object and its end; null;
-- a function's; or that of the element with an index in a row of so many elements of one type, to which steps lead from
-- the root. An object alone is a row of one.
pub data Address : Type 0 where
  NoAddress Outside NullAddress : Address
  FunctionAddress : (name : List ℕ) → Address
  Element : (root : Static) (steps : List Part) (c_type : CType) (count index : ℕ) → Address

-- What is known of an expression that has a type. An object's address is that of it, a pointer's its value.
pub record Known : Type 0 where
  pub c_type : CType
  pub typed : TypedExpr
  pub constness : Constness
  pub is_null : Bool
  pub address : Address

-- a value of a type, and nothing more
abbrev pub value_of_type : CType → Value → Known
value_of_type c_type value = record { c_type = c_type; typed = OfValue value; constness = NotConstant; is_null = false; address = NoAddress }

abbrev pub object_at : CType → Object → Address → Known
object_at c_type object address = record { c_type = c_type; typed = OfObject object; constness = NotConstant; is_null = false; address = address }

abbrev pub is_zero : Constness → Bool
is_zero (Constant value) = int_eq value (pos 0)
is_zero _ = false

-- a value of an integer type. An integer constant expression of value 0 is a null pointer constant (C17 6.3.2.3
-- paragraph 3).
abbrev pub integer_value : CType → Constness → Value → Known
integer_value c_type constness value = record (value_of_type c_type value) { constness = constness; is_null = is_zero constness }

-- the address of an array's first element
abbrev pub first_element : Address → Address
first_element (Element root steps (Array element length) count index) = if nat_lt index count then Element root (steps ++ Parts.Elements index ∷ []) element length 0 else Outside
first_element NoAddress = NoAddress
first_element _ = Outside

-- The same as a value (C17 6.3.2.1): the address of an object that is read isn't constant.
abbrev pub value_address : TypedExpr → CType → Address → Address
value_address (OfObject object) (Array element length) stored = first_element stored
value_address (OfObject object) _ stored = NoAddress
value_address _ _ stored = stored

-- where an object that begins at the place is read: one in parentheses where that in them is
abbrev pub read_place : Pos → Object → Pos
read_place place (GroupedObject inner_place inner) = inner_place
read_place place _ = place

-- the value of a typed tree, which may be that of an array
abbrev pub value_of_typed : Pos → Bool → TypedExpr → Value
value_of_typed place is_array (OfValue value) = value
value_of_typed place is_array (OfObject object) = if is_array then Decay (read_place place object) object else Read (read_place place object) object
value_of_typed place is_array (OfFunction function) = FunctionValue function
value_of_typed place is_array (OfLibrary function groups) = NullPointer

abbrev pub value_from : Pos → CType → TypedExpr → Value
value_from place c_type typed = value_of_typed place (Types.is_array c_type) typed

abbrev pub read_value : Pos → Known → Known
read_value place known =
    record known {
      c_type = decayed known.c_type;
      typed = OfValue (value_from place known.c_type known.typed);
      address = value_address known.typed known.c_type known.address;
    }

-- An expression for its value, the first token of which stands at the place. No struct is one.
abbrev pub value_rule : Pos → Known → Checked Known
value_rule place known = also (unless (not (is_struct known.c_type)) T.T19 place) (give (read_value place known))

abbrev pub as_value : Pos → Checked Known → Checked Known
as_value place part = given part (value_rule place)

-- the value that was made by it
abbrev pub value_in : Known → Value
value_in known = value_from known_place known.c_type known.typed
  where
    known_place : Pos
    known_place = record { line = 1; column = 1 }

-- in parentheses; its own first token stands at the place
abbrev pub grouped : Pos → TypedExpr → TypedExpr
grouped place (OfValue value) = OfValue (Grouped value)
grouped place (OfObject object) = OfObject (GroupedObject (read_place place object) object)
grouped place (OfFunction function) = OfFunction (GroupedFunction function)
grouped place (OfLibrary function groups) = OfLibrary function (suc groups)
