-- The rules of expressions, of the names of types and of declarators (C17 6.5, 6.7.6, 6.7.7).
use Rattle.std.specs.Prelude.{ℕ, zero, suc, min, Bool, true, false, not, ◌||◌, if◌then◌else◌, List, [], ◌∷◌, length, Option, Some, None, ℤ, pos, neg_ℤ}
use Rattle.run_theory.specs.declared.place.Pos.{Pos}
use Rattle.c_num.specs.declared.IntType.{IntType}
use Rattle.c_num.specs.declared.IntType.TheVariants as I
use Rattle.c_num.specs.Conversion.{convert_to}
use Rattle.c_syntax.specs.Trees
use Rattle.c_syntax.specs.Trees.{NameTree, ExprTree, ArgumentsTree, TypeTree, OptionalTree, DeclaratorTree, DirectTree, SuffixesTree, LengthTree, ParametersTree, WordsTree, SimpleTree}
use Rattle.c_rules.specs.declared.rule.TypeRule.TheVariants as T
use Rattle.c_rules.specs.declared.violation.Violation.{Violation}
use Rattle.c_typed.specs.Types
use Rattle.c_typed.specs.Types.{CType, CTypes, Void, Integer, Pointer, Array, Struct, Function, NoTypes, MoreTypes, literal_type}
use Rattle.c_typed.specs.Layouts.{is_complete}
use Rattle.c_rules.specs.Names.{Scope, Meaning, Library, meaning_of, declares_tag, is_library}
use Rattle.c_typed.specs.Names.{contains}
use Rattle.c_rules.specs.Known.{Checked, Known, known_already, give, refuse, also, require, with_known, given, given_two, given_three, unless, as_value, value_of_type, object_at, integer_value, OfLibrary, grouped, NullAddress, Element}
use Rattle.c_rules.specs.declared.constness.Constness.{Constness}
use Rattle.c_rules.specs.declared.constness.Constness.TheVariants.{NotConstant, Undefined, Constant}
use Rattle.c_typed.specs.Values.{StaticLiteral}
use Rattle.c_typed.specs.Typed as typed
use Rattle.c_typed.specs.declared.typed.Stepping.TheVariants as S
use Rattle.c_rules.specs.Operators

-- the place of an expression's first token
abbrev pub place_of : ExprTree → Pos
place_of (Trees.Named name) = name.place
place_of (Trees.Integer value int_type place) = place
place_of (Trees.Character byte place) = place
place_of (Trees.Literal bytes place) = place
place_of (Trees.Null place) = place
place_of (Trees.EndOfFile place) = place
place_of (Trees.Parenthesized place inner) = place
place_of (Trees.Index array index) = place_of array
place_of (Trees.Call function open_place _) = place_of function
place_of (Trees.Member object member) = place_of object
place_of (Trees.PointerMember pointer member) = place_of pointer
place_of (Trees.PostIncrement operand) = place_of operand
place_of (Trees.PostDecrement operand) = place_of operand
place_of (Trees.Prefix operator place operand) = place
place_of (Trees.SizeofExpr place operand) = place
place_of (Trees.SizeofType place type_name) = place
place_of (Trees.Cast place type_name operand) = place
place_of (Trees.Binary operator left right) = place_of left
place_of (Trees.Conditional condition taken otherwise) = place_of condition
place_of (Trees.Assign operator object value) = place_of object

-- ---- types

abbrev pub simple_type : Scope → SimpleTree → Checked CType
simple_type scope Trees.VoidWord = give Void
simple_type scope (Trees.IntegerWords int_type) = give (Integer int_type)
simple_type scope (Trees.StructTag tag) = require (declares_tag scope.tags tag) T.T03 tag.place (give (Struct tag.bytes))

abbrev pub words_type : Scope → WordsTree → Checked CType
words_type scope words = simple_type scope words.words

abbrev pub pointers : ℕ → CType → CType
pointers zero c_type = c_type
pointers (suc n) c_type = Pointer (pointers n c_type)

abbrev pub pointed : ℕ → Option CType → Option CType
pointed stars None = None
pointed stars (Some c_type) = Some (pointers stars c_type)

-- Where a length may be left out: nowhere; in a parameter, which is a pointer; or in a global with an initializer that
-- gives the length for each type of elements (C17 6.7.6.3 paragraph 7, 6.7.9 paragraph 22).
pub data LengthRole : Type 0 where
  Required Adjusted : LengthRole
  Initialized : (length_for : CType → ℕ) → LengthRole

pub data Length : Type 0 where
  Missing : Length
  Stated : (value : Checked ℤ) → Length

-- an integer constant expression that has a value
abbrev pub constant_value : Pos → Constness → Checked ℤ
constant_value place NotConstant = refuse T.T17 place
constant_value place Undefined = refuse T.T24 place
constant_value place (Constant value) = give value

abbrev pub as_constant : Pos → Checked Known → Checked ℤ
as_constant place part = given (Operators.as_integer place part) (λ value. constant_value place value.constness)

-- no value of an integer type is greater than this
abbrev pub greatest_length : ℕ
greatest_length = 18446744073709551615

abbrev pub positive : Pos → ℤ → Checked ℕ
positive here (pos (suc n)) = give (min (suc n) greatest_length)
positive here _ = refuse T.T06 here

abbrev pub length_value : Pos → LengthRole → Option CType → Length → Checked ℕ
length_value here role element (Stated value) = given value (positive here)
length_value here Required element Missing = refuse T.T06 here
length_value here Adjusted element Missing = give 1
length_value here (Initialized length_for) element Missing = with_known element (λ c_type. give (length_for c_type))

-- an array of these elements; its declared name, or what stands for it, is here (C17 6.7.6.2)
abbrev pub array_type : Scope → Pos → LengthRole → Length → Checked CType → Checked CType
array_type scope here role length element =
    given_two (given element (λ c_type. require (is_complete scope.structs c_type) T.T05 here (give c_type))) (length_value here role element.known length) (λ c_type n. give (Array c_type n))

-- a function with this result (C17 6.7.6.3 paragraph 1)
abbrev pub function_type : Pos → Checked CTypes → Checked CType → Checked CType
function_type here parameters result =
    given_two (given result (λ c_type. require (not (Types.is_array c_type || Types.is_function c_type)) T.T05 here (require (not (Types.is_struct c_type)) T.T19 here (give c_type)))) parameters (λ c_type types. give (Function c_type types))

-- A parameter's own type, that of an object (C17 6.7.6.3 paragraphs 4, 7, 8). An incomplete structure violates T19 too, which
-- stands behind T05 at one place.
abbrev pub parameter_type : Scope → Pos → CType → Checked CType
parameter_type scope here c_type =
    require (is_complete scope.structs (Types.decayed c_type)) T.T05 here (require (not (Types.is_struct (Types.decayed c_type))) T.T19 here (give (Types.decayed c_type)))

-- ---- declared names

abbrev mutual
  pub declared_name : DeclaratorTree → Option NameTree
  declared_name (Trees.Declarator stars direct _) = direct_name direct

  pub direct_name : DirectTree → Option NameTree
  direct_name (Trees.DeclaredName name) = Some name
  direct_name (Trees.Nested declarator) = declared_name declarator
  direct_name Trees.NoName = None

abbrev pub optional_name : OptionalTree → Option NameTree
optional_name Trees.NoDeclarator = None
optional_name (Trees.Declared declarator) = declared_name declarator

-- its place, else that of the first word
abbrev pub name_place : Option NameTree → Pos → Pos
name_place (Some name) place = name.place
name_place None place = place

-- Does the declarator say more than its name?
abbrev mutual
  pub adds : DeclaratorTree → Bool
  adds (Trees.Declarator zero direct Trees.NoSuffixes) = direct_adds direct
  adds (Trees.Declarator stars direct _) = true

  pub direct_adds : DirectTree → Bool
  direct_adds (Trees.Nested declarator) = adds declarator
  direct_adds _ = false

-- A length may be left out next to the name alone.
abbrev pub role_outside : DirectTree → LengthRole → LengthRole
role_outside direct role = if direct_adds direct then Required else role

-- ---- constants

-- an integer constant of a value of its type (C17 6.4.4)
abbrev pub integer_constant : IntType → ℤ → Known
integer_constant int_type value = integer_value (Integer int_type) (Constant value) (typed.Constant int_type value)

-- ---- calls

-- Is a library function called by its name, which may stand in parentheses?
abbrev pub library_called : Scope → ℕ → ExprTree → Checked Known → Checked Known
library_called scope groups (Trees.Named name) otherwise = by (meaning_of scope name.bytes)
  where
    by : Meaning → Checked Known
    by (Library function c_type) = give (record (value_of_type c_type typed.NullPointer) { typed = OfLibrary function groups })
    by _ = otherwise
library_called scope groups (Trees.Parenthesized place inner) otherwise = library_called scope (suc groups) inner otherwise
library_called scope groups _ otherwise = otherwise

-- a parameter list that is `(void)` (C17 6.7.6.3 paragraph 10)
abbrev pub is_void_alone : ParametersTree → Bool
is_void_alone (Trees.Parameter words Trees.NoDeclarator Trees.NoParameters) = is_void_word words.words
  where
    is_void_word : SimpleTree → Bool
    is_void_word Trees.VoidWord = true
    is_void_word _ = false
is_void_alone _ = false

-- the names of parameters, none twice and none a library function's
abbrev pub name_clash : List (List ℕ) → Option NameTree → List Violation
name_clash names None = []
name_clash names (Some name) = unless (not (contains names name.bytes || is_library name.bytes)) T.T04 name.place

abbrev pub with_name : Option NameTree → List (List ℕ) → List (List ℕ)
with_name None names = names
with_name (Some name) names = name.bytes ∷ names

-- a parameter behind these names
abbrev pub one_parameter : Scope → List (List ℕ) → WordsTree → OptionalTree → Checked CType → Checked CType
one_parameter scope names words declarator named =
    also (name_clash names (optional_name declarator)) (given named (parameter_type scope (name_place (optional_name declarator) words.place)))

-- ---- the rules

abbrev mutual
  pub expr : Scope → ExprTree → Checked Known
  expr scope (Trees.Named name) = Operators.named scope name
  expr scope (Trees.Integer value int_type place) = give (integer_constant int_type (convert_to int_type (pos value)))
  expr scope (Trees.Character byte place) = give (integer_constant I.Int (convert_to I.Char (pos byte)))
  expr scope (Trees.Literal bytes place) = give (object_at (literal_type bytes) (typed.Literal place bytes) (Element (StaticLiteral place) [] (literal_type bytes) 1 0))
  expr scope (Trees.Null place) = give (record (value_of_type (Pointer Void) typed.NullPointer) { is_null = true; address = NullAddress })
  expr scope (Trees.EndOfFile place) = give (integer_constant I.Int (neg_ℤ (pos 1)))
  expr scope (Trees.Parenthesized place inner) = given (expr scope inner) (λ known. give (record known { typed = grouped (place_of inner) known.typed }))
  expr scope (Trees.Index array index) =
      given_two (as_value (place_of array) (expr scope array)) (as_value (place_of index) (expr scope index)) (Operators.indexed scope (place_of array) (place_of index))
  expr scope (Trees.Call function open_place arguments) =
      Operators.call (place_of function) (library_called scope 0 function (expr scope function)) (argument_values scope arguments)
  expr scope (Trees.Member object member) = given (expr scope object) (Operators.object_member scope (place_of object) member)
  expr scope (Trees.PointerMember pointer member) = given (as_value (place_of pointer) (expr scope pointer)) (Operators.pointer_member scope (place_of pointer) member)
  expr scope (Trees.PostIncrement operand) = given (expr scope operand) (Operators.stepped scope S.PostIncrement (place_of operand) (place_of operand))
  expr scope (Trees.PostDecrement operand) = given (expr scope operand) (Operators.stepped scope S.PostDecrement (place_of operand) (place_of operand))
  expr scope (Trees.Prefix operator place operand) = Operators.prefixed scope operator place (place_of operand) (expr scope operand)
  expr scope (Trees.SizeofExpr place operand) = given (expr scope operand) (λ known. Operators.size_of scope place known.c_type)
  expr scope (Trees.SizeofType place type_name) = given (type_named scope type_name) (Operators.size_of scope (type_place type_name))
  expr scope (Trees.Cast place type_name operand) = given_two (type_named scope type_name) (as_value (place_of operand) (expr scope operand)) (Operators.cast_to scope place)
  expr scope (Trees.Binary operator left right) = Operators.binary scope operator (place_of left) (place_of right) (expr scope left) (expr scope right)
  expr scope (Trees.Conditional condition taken otherwise) =
      given_three (Operators.as_condition (place_of condition) (expr scope condition)) (as_value (place_of taken) (expr scope taken)) (as_value (place_of otherwise) (expr scope otherwise)) (Operators.choice (place_of condition))
  expr scope (Trees.Assign operator object value) = Operators.assigned scope operator (place_of object) (place_of value) (expr scope object) (expr scope value)

  pub argument_values : Scope → ArgumentsTree → Operators.Arguments
  argument_values scope Trees.NoArguments = Operators.no_arguments
  argument_values scope (Trees.Argument value others) = Operators.with_argument (place_of value) (as_value (place_of value) (expr scope value)) (argument_values scope others)

  -- the place of a type name's first token
  pub type_place : TypeTree → Pos
  type_place (Trees.TypeName words _) = words.place

  pub type_named : Scope → TypeTree → Checked CType
  type_named scope (Trees.TypeName words declarator) = optional_type scope words.place Required (words_type scope words) declarator

  -- the type that words and a declarator name, where the words name this one
  pub optional_type : Scope → Pos → LengthRole → Checked CType → OptionalTree → Checked CType
  optional_type scope here role base Trees.NoDeclarator = base
  optional_type scope here role base (Trees.Declared declarator) = also base.found (declared_type scope here role base.known declarator)

  -- the type of a declared name, where the words before it name this one
  pub declared_type : Scope → Pos → LengthRole → Option CType → DeclaratorTree → Checked CType
  declared_type scope here role base (Trees.Declarator stars direct suffixes) = direct_type scope here role (suffixes_type scope here (role_outside direct role) (pointed stars base) suffixes) direct

  pub direct_type : Scope → Pos → LengthRole → Checked CType → DirectTree → Checked CType
  direct_type scope here role outer (Trees.Nested declarator) = also outer.found (declared_type scope here role outer.known declarator)
  direct_type scope here role outer _ = outer

  -- what follows a declarator first is what the name is first
  pub suffixes_type : Scope → Pos → LengthRole → Option CType → SuffixesTree → Checked CType
  suffixes_type scope here role base Trees.NoSuffixes = known_already base
  suffixes_type scope here role base (Trees.ArraySuffix length others) = array_type scope here role (length_stated scope length) (suffixes_type scope here Required base others)
  suffixes_type scope here role base (Trees.FunctionSuffix parameters others) = function_type here (if is_void_alone parameters then give NoTypes else parameter_types scope [] parameters) (suffixes_type scope here Required base others)

  pub length_stated : Scope → LengthTree → Length
  length_stated scope Trees.NoLength = Missing
  length_stated scope (Trees.ArrayLength value) = Stated (as_constant (place_of value) (expr scope value))

  pub parameter_types : Scope → List (List ℕ) → ParametersTree → Checked CTypes
  parameter_types scope names Trees.NoParameters = give NoTypes
  parameter_types scope names (Trees.Parameter words declarator others) =
      given_two (one_parameter scope names words declarator (optional_type scope (name_place (optional_name declarator) words.place) Adjusted (words_type scope words) declarator)) (parameter_types scope (with_name (optional_name declarator) names) others)
      (λ first types. give (MoreTypes first types))
