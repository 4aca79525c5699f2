-- The rules of initializers (C17 6.7.9).
use Rattle.std.specs.Prelude.{ℕ, zero, suc, Bool, true, false, ◌||◌, nat_le, if◌then◌else◌, List, [], ◌∷◌, ◌++◌, length, Option, Some, None}
use Rattle.run_theory.specs.declared.place.Pos.{Pos}
use Rattle.c_syntax.specs.Trees
use Rattle.c_syntax.specs.Trees.{ExprTree, InitTree, InitsTree}
use Rattle.c_rules.specs.declared.rule.TypeRule.TheVariants as T
use Rattle.c_rules.specs.declared.violation.Violation.{Violation}
use Rattle.c_typed.specs.Types
use Rattle.c_typed.specs.Types.{CType, Pointer, Array, Struct, Function}
use Rattle.c_typed.specs.Layouts.{MemberDef, members_by_tag}
use Rattle.c_rules.specs.Names.{Scope}
use Rattle.c_rules.specs.Known.{Checked, Known, require, given, at, unless, as_value, give, Address, NoAddress, Outside}
use Rattle.c_rules.specs.declared.constness.Constness.{Constness}
use Rattle.c_rules.specs.declared.constness.Constness.TheVariants.{NotConstant, Undefined, Constant}
use Rattle.c_rules.specs.Constants.{address_as}
use Rattle.c_rules.specs.Operators.{fits}
use Rattle.c_rules.specs.Expressions.{expr, place_of}

-- the place of its first token
abbrev pub init_place : InitTree → Pos
init_place (Trees.InitValue value) = place_of value
init_place (Trees.InitList place inits) = place

-- an expression with no other use than that its own rules hold
abbrev pub value_found : Scope → ExprTree → List Violation
value_found scope value = (as_value (place_of value) (expr scope value)).found

abbrev mutual
  pub found_within : Scope → InitTree → List Violation
  found_within scope (Trees.InitValue value) = value_found scope value
  found_within scope (Trees.InitList place inits) = found_within_all scope inits

  pub found_within_all : Scope → InitsTree → List Violation
  found_within_all scope Trees.NoInits = []
  found_within_all scope (Trees.Inits init others) = found_within scope init ++ found_within_all scope others

-- ---- lengths

-- The literal that an initializer is, in braces or not (C17 6.7.9 paragraph 14).
abbrev pub literal_alone : InitTree → Option (List ℕ)
literal_alone (Trees.InitValue (Trees.Literal bytes place)) = Some bytes
literal_alone (Trees.InitList place (Trees.Inits (Trees.InitValue (Trees.Literal bytes place')) Trees.NoInits)) = Some bytes
literal_alone _ = None

abbrev pub count : InitsTree → ℕ
count Trees.NoInits = 0
count (Trees.Inits init others) = suc (count others)

abbrev pub plain_length : InitTree → ℕ
plain_length (Trees.InitValue value) = 1
plain_length (Trees.InitList place inits) = count inits

abbrev pub length_by : InitTree → Option (List ℕ) → CType → ℕ
length_by init (Some bytes) element = if Types.is_character element then suc (length bytes) else plain_length init
length_by init None element = plain_length init

-- the length of an array of these elements that it initializes (C17 6.7.9 paragraph 22)
abbrev pub initial_length : InitTree → CType → ℕ
initial_length init element = length_by init (literal_alone init) element

-- ---- globals

abbrev pub constant_first : Pos → Constness → List Violation
constant_first place NotConstant = at T.T17 place
constant_first place Undefined = at T.T24 place
constant_first place (Constant value) = []

abbrev pub address_first : Pos → Address → List Violation
address_first place NoAddress = at T.T17 place
address_first place Outside = at T.T24 place
address_first place _ = []

abbrev pub known_first : Scope → Pos → CType → Known → List Violation
known_first scope place (Pointer target) known = if known.is_null then [] else address_first place (address_as scope.completed (Pointer target) known.address)
known_first scope place c_type known = constant_first place known.constness

-- the first value of a scalar, which has to be constant (C17 6.7.9 paragraphs 4, 11)
abbrev pub scalar_first : Scope → Pos → CType → Checked Known → List Violation
scalar_first scope place c_type value = value.found ++ by value.known
  where
    by : Option Known → List Violation
    by None = []
    by (Some known) = if fits c_type known then known_first scope place c_type known else at T.T10 place

-- an expression as the initializer of a global of a type
abbrev pub value_first : Scope → CType → ExprTree → List Violation
value_first scope (Array element n) value = found_by (literal_alone (Trees.InitValue value)) (Types.is_character element)
  where
    found_by : Option (List ℕ) → Bool → List Violation
    found_by (Some bytes) true = unless (nat_le (length bytes) n) T.T18 (place_of value)
    found_by _ _ = value_found scope value ++ at T.T18 (place_of value)
value_first scope (Struct tag) value = value_found scope value ++ at T.T18 (place_of value)
value_first scope (Function result parameters) value = value_found scope value ++ at T.T10 (place_of value)
value_first scope c_type value = scalar_first scope (place_of value) c_type (as_value (place_of value) (expr scope value))

-- is it one literal, and are the elements characters?
abbrev pub is_text : CType → InitsTree → Bool
is_text element (Trees.Inits (Trees.InitValue (Trees.Literal bytes place)) Trees.NoInits) = Types.is_character element
is_text element _ = false

abbrev pub members_of : Option (List MemberDef) → List MemberDef
members_of (Some members) = members
members_of None = []

abbrev mutual
  -- the initializer of a global, an element or a member of a type
  pub first_of : Scope → Option CType → InitTree → List Violation
  first_of scope None init = found_within scope init
  first_of scope (Some c_type) (Trees.InitValue value) = value_first scope c_type value
  first_of scope (Some (Array element n)) (Trees.InitList place inits) = if is_text element inits then text_first scope element n inits else elements_first scope element n inits
  first_of scope (Some (Struct tag)) (Trees.InitList place inits) = members_first scope (members_of (members_by_tag scope.structs tag)) inits
  first_of scope (Some c_type) (Trees.InitList place inits) = at T.T18 place ++ found_within_all scope inits

  -- a literal in braces
  pub text_first : Scope → CType → ℕ → InitsTree → List Violation
  text_first scope element n (Trees.Inits (Trees.InitValue value) Trees.NoInits) = value_first scope (Array element n) value
  text_first scope element n _ = []

  pub elements_first : Scope → CType → ℕ → InitsTree → List Violation
  elements_first scope element n Trees.NoInits = []
  elements_first scope element (suc n) (Trees.Inits init others) = first_of scope (Some element) init ++ elements_first scope element n others
  elements_first scope element zero (Trees.Inits init others) = at T.T18 (init_place init) ++ found_within scope init ++ found_within_all scope others

  pub members_first : Scope → List MemberDef → InitsTree → List Violation
  members_first scope members Trees.NoInits = []
  members_first scope (member ∷ members) (Trees.Inits init others) = first_of scope member.c_type init ++ members_first scope members others
  members_first scope [] (Trees.Inits init others) = at T.T18 (init_place init) ++ found_within scope init ++ found_within_all scope others

-- ---- locals

-- a scalar alone has an initializer there, and no braces
abbrev pub local_first : Scope → Option CType → InitTree → List Violation
local_first scope None init = found_within scope init
local_first scope (Some c_type) (Trees.InitList place inits) = at T.T18 place ++ found_within_all scope inits
local_first scope (Some c_type) (Trees.InitValue value) =
    if Types.is_array c_type || Types.is_struct c_type then at T.T18 (place_of value) ++ value_found scope value
    else (given (as_value (place_of value) (expr scope value)) (λ known. require (fits c_type known) T.T10 (place_of value) (give known))).found
