-- Types that declarators make: each of their arrays has an element, of a complete type.
use Rattle.std.proofs.Common.{◌≡◌, ℕ, zero, suc, min, ◌<◌, Bool, true, false, cond, not, ◌&&◌, ◌||◌, nat_lt, List, [], length, Option, Some, None, ℤ, pos, negsuc, refl, arith}
use Rattle.std.proofs.lemmas.Bool.{false≢true, and_from}
use Rattle.std.proofs.lemmas.Bool.Decides.{Decides-ltb}
use Rattle.run_theory.specs.declared.place.Pos.{Pos}
use Rattle.c_syntax.specs.Trees
use Rattle.c_syntax.specs.Trees.{SimpleTree, WordsTree, TypeTree, OptionalTree, DeclaratorTree, DirectTree, SuffixesTree, ParametersTree, InitTree}
use Rattle.c_typed.specs.Types.{CType, CTypes, Void, Integer, Array, Struct, Function, NoTypes, MoreTypes, decayed, is_array, is_function, is_struct, is_character}
use Rattle.c_typed.specs.Layouts.{StructDef, is_complete}
use Rattle.c_rules.specs.declared.rule.TypeRule.{TypeRule}
use Rattle.c_rules.specs.declared.rule.TypeRule.TheVariants as T
use Rattle.c_rules.specs.Names.{Scope, declares_tag}
use Rattle.c_rules.specs.Known.{Checked, give, require, given}
use Rattle.c_rules.specs.Expressions.{LengthRole, Required, Adjusted, Initialized, Length, Missing, Stated, greatest_length, simple_type, words_type, pointers, pointed, positive, length_value, array_type, function_type, parameter_type, parameter_types, one_parameter, optional_name, name_place, name_clash, with_name, direct_adds, role_outside, is_void_alone, length_stated, suffixes_type, direct_type, declared_type, optional_type, type_named}
use Rattle.c_rules.specs.Initializers.{count, plain_length, length_by, literal_alone}
use Rattle.c_rules.specs.Statements.{object_type}
use Rattle.c_rules.specs.Programs.{outside_type, body_type, role_of}
use Rattle.c_rules.proofs.Structures.{Keeps, complete_kept}
use Rattle.accepted_programs.specs.Knows.{IfKnown, Knows}
use Rattle.accepted_programs.proofs.CRulesFilled.Holding.{by_test, gives, refuses, beside, chosen, required, of_part, of_two}
use Rattle.accepted_programs.specs.Whole.{is_whole, are_whole, IsWhole}
use Rattle.accepted_programs.specs.Given.{first_given}
use Rattle.accepted_programs.proofs.CRulesFilled.Types.{some_length, decayed_filled}

-- ---- lengths

abbrev IsPositive : ℕ → Type 0
IsPositive n = nat_lt 0 n ≡ true

-- a length that is left out is some element's at least
abbrev pub HasLength : LengthRole → Type 0
HasLength Required = Unit {0}
HasLength Adjusted = Unit {0}
HasLength (Initialized length_for) = (c_type : CType) → nat_lt 0 (length_for c_type) ≡ true

tested : {A : Type 0} {kind : A → Type 0} (b : Bool) (rule : TypeRule) (place : Pos) (checked : Checked A) → (b ≡ true → Knows kind checked) → Knows kind (require b rule place checked)
tested true rule place checked knows = knows refl
tested false rule place checked knows = record { holds = tt }

abbrev Anything : ℤ → Type 0
Anything z = Unit {0}

anything : (value : Checked ℤ) → Knows Anything value
anything value = record { holds = by value.known }
  where
    by : (known : Option ℤ) → IfKnown Anything known
    by None = tt
    by (Some z) = tt

below : (n : ℕ) → 0 < min (suc n) 18446744073709551615
below n = omega arith

positive_length : (here : Pos) (z : ℤ) → Knows IsPositive (positive here z)
positive_length here (pos zero) = refuses _ _
positive_length here (pos (suc n)) = gives _ ((Decides-ltb 0 (min (suc n) greatest_length)).1 (below n))
positive_length here (negsuc n) = refuses _ _

length_positive : (here : Pos) (role : LengthRole) → HasLength role → (element : Option CType) (length : Length) → Knows IsPositive (length_value here role element length)
length_positive here role has element (Stated value) = of_part Anything IsPositive value (positive here) (anything value) (λ z any. positive_length here z)
length_positive here Required has element Missing = refuses _ _
length_positive here Adjusted has element Missing = gives 1 refl
length_positive here (Initialized length_for) has None Missing = record { holds = tt }
length_positive here (Initialized length_for) has (Some c_type) Missing = record { holds = has c_type }

outside_has : (direct : DirectTree) (role : LengthRole) → HasLength role → HasLength (role_outside direct role)
outside_has direct role has = by_test HasLength (direct_adds direct) Required role tt has

-- first values give an element at least
by_literal : (init : InitTree) (bytes : Option (List ℕ)) (c_type : CType) → IsPositive (plain_length init) → IsPositive (length_by init bytes c_type)
by_literal init None c_type plain = plain
by_literal init (Some bytes) c_type plain = by_test IsPositive (is_character c_type) (suc (length bytes)) (plain_length init) (some_length (length bytes)) plain

pub role_has : (init : Option InitTree) → first_given init ≡ true → HasLength (role_of init)
role_has None is = tt
role_has (Some (Trees.InitValue value)) is = λ c_type. by_literal (Trees.InitValue value) (literal_alone (Trees.InitValue value)) c_type refl
role_has (Some (Trees.InitList place Trees.NoInits)) is = absurd (false≢true is)
role_has (Some (Trees.InitList place (Trees.Inits init others))) is =
    λ c_type. by_literal (Trees.InitList place (Trees.Inits init others)) (literal_alone (Trees.InitList place (Trees.Inits init others))) c_type (some_length (count others))

-- ---- declarators

module _ (structs : List StructDef) where
  abbrev AreWhole : CTypes → Type 0
  AreWhole types = are_whole structs types ≡ true

  abbrev Element : CType → Type 0
  Element c_type = IsWhole structs c_type × (is_complete structs c_type ≡ true)

  pointers_whole : (stars : ℕ) (t : CType) → IsWhole structs t → IsWhole structs (pointers stars t)
  pointers_whole zero t whole = whole
  pointers_whole (suc n) t whole = pointers_whole n t whole

  pointed_whole : (stars : ℕ) (base : Option CType) → IfKnown (IsWhole structs) base → IfKnown (IsWhole structs) (pointed stars base)
  pointed_whole stars None whole = tt
  pointed_whole stars (Some t) whole = pointers_whole stars t whole

  function_whole : (here : Pos) (parameters : Checked CTypes) (result : Checked CType) → Knows AreWhole parameters → Knows (IsWhole structs) result → Knows (IsWhole structs) (function_type here parameters result)
  function_whole here parameters result all whole =
      of_two (IsWhole structs) AreWhole (IsWhole structs) (given result (λ t. require (not (is_array t || is_function t)) T.T05 here (require (not (is_struct t)) T.T19 here (give t)))) parameters (λ t ts. give (Function t ts))
      (of_part (IsWhole structs) (IsWhole structs) result (λ t. require (not (is_array t || is_function t)) T.T05 here (require (not (is_struct t)) T.T19 here (give t))) whole
      (λ t is. required _ T.T05 here _ (required _ T.T19 here _ (gives t is))))
      all (λ t ts is are. gives (Function t ts) (and_from (is_whole structs t) (are_whole structs ts) is are))

  module _ (scope : Scope) (keeps : Keeps scope.structs structs) where
    simple_whole : (words : SimpleTree) → Knows (IsWhole structs) (simple_type scope words)
    simple_whole Trees.VoidWord = gives Void refl
    simple_whole (Trees.IntegerWords t) = gives (Integer t) refl
    simple_whole (Trees.StructTag tag) = required (declares_tag scope.tags tag) T.T03 tag.place (give (Struct tag.bytes)) (gives (Struct tag.bytes) refl)

    pub words_whole : (words : WordsTree) → Knows (IsWhole structs) (words_type scope words)
    words_whole words = simple_whole words.words

    array_whole : (here : Pos) (role : LengthRole) → HasLength role → (length : Length) (element : Checked CType) → Knows (IsWhole structs) element → Knows (IsWhole structs) (array_type scope here role length element)
    array_whole here role has length element whole =
        of_two Element IsPositive (IsWhole structs) (given element (λ t. require (is_complete scope.structs t) T.T05 here (give t))) (length_value here role element.known length) (λ t n. give (Array t n))
        (of_part (IsWhole structs) Element element (λ t. require (is_complete scope.structs t) T.T05 here (give t)) whole
        (λ t is. tested (is_complete scope.structs t) T.T05 here (give t) (λ complete. gives t (is, complete_kept scope.structs structs keeps t complete))))
        (length_positive here role has element.known length)
        (λ t n is some. gives (Array t n) (and_from (nat_lt 0 n && is_complete structs t) (is_whole structs t) (and_from (nat_lt 0 n) (is_complete structs t) some is.1) is.0))

    parameter_whole : (here : Pos) (t : CType) → IsWhole structs t → Knows (IsWhole structs) (parameter_type scope here t)
    parameter_whole here t is = required _ T.T05 here _ (required _ T.T19 here _ (gives (decayed t) (decayed_filled structs t is)))

    mutual
      pub optional_whole : (here : Pos) (role : LengthRole) → HasLength role → (base : Checked CType) → Knows (IsWhole structs) base → (tree : OptionalTree) → Knows (IsWhole structs) (optional_type scope here role base tree)
      optional_whole here role has base whole Trees.NoDeclarator = whole
      optional_whole here role has base whole (Trees.Declared declarator) = beside base.found _ (declared_whole here role has base.known whole.holds declarator)

      pub declared_whole : (here : Pos) (role : LengthRole) → HasLength role → (base : Option CType) → IfKnown (IsWhole structs) base → (tree : DeclaratorTree) → Knows (IsWhole structs) (declared_type scope here role base tree)
      declared_whole here role has base whole (Trees.Declarator stars direct suffixes) =
          direct_whole here role has (suffixes_type scope here (role_outside direct role) (pointed stars base) suffixes)
          (suffixes_whole here (role_outside direct role) (outside_has direct role has) (pointed stars base) (pointed_whole stars base whole) suffixes) direct

      direct_whole : (here : Pos) (role : LengthRole) → HasLength role → (outer : Checked CType) → Knows (IsWhole structs) outer → (tree : DirectTree) → Knows (IsWhole structs) (direct_type scope here role outer tree)
      direct_whole here role has outer whole (Trees.DeclaredName name) = whole
      direct_whole here role has outer whole Trees.NoName = whole
      direct_whole here role has outer whole (Trees.Nested declarator) = beside outer.found _ (declared_whole here role has outer.known whole.holds declarator)

      suffixes_whole : (here : Pos) (role : LengthRole) → HasLength role → (base : Option CType) → IfKnown (IsWhole structs) base → (suffixes : SuffixesTree) → Knows (IsWhole structs) (suffixes_type scope here role base suffixes)
      suffixes_whole here role has base whole Trees.NoSuffixes = record { holds = whole }
      suffixes_whole here role has base whole (Trees.ArraySuffix length others) =
          array_whole here role has (length_stated scope length) (suffixes_type scope here Required base others) (suffixes_whole here Required tt base whole others)
      suffixes_whole here role has base whole (Trees.FunctionSuffix parameters others) =
          function_whole here (cond (is_void_alone parameters) (give NoTypes) (parameter_types scope [] parameters)) (suffixes_type scope here Required base others)
          (chosen (is_void_alone parameters) (give NoTypes) (parameter_types scope [] parameters) (gives NoTypes refl) (parameters_whole [] parameters)) (suffixes_whole here Required tt base whole others)

      parameters_whole : (names : List (List ℕ)) (tree : ParametersTree) → Knows AreWhole (parameter_types scope names tree)
      parameters_whole names Trees.NoParameters = gives NoTypes refl
      parameters_whole names (Trees.Parameter words declarator others) =
          let place = name_place (optional_name declarator) words.place in
          let named = optional_type scope place Adjusted (words_type scope words) declarator in
          of_two (IsWhole structs) AreWhole AreWhole (one_parameter scope names words declarator named) (parameter_types scope (with_name (optional_name declarator) names) others) (λ first types. give (MoreTypes first types))
          (beside (name_clash names (optional_name declarator)) _ (of_part (IsWhole structs) (IsWhole structs) named (parameter_type scope place)
          (optional_whole place Adjusted tt (words_type scope words) (words_whole words) declarator) (λ t is. parameter_whole place t is)))
          (parameters_whole (with_name (optional_name declarator) names) others)
          (λ t ts is are. gives (MoreTypes t ts) (and_from (is_whole structs t) (are_whole structs ts) is are))

    pub type_whole : (tree : TypeTree) → Knows (IsWhole structs) (type_named scope tree)
    type_whole (Trees.TypeName words declarator) = optional_whole words.place Required tt (words_type scope words) (words_whole words) declarator

    -- the types of objects and of functions
    pub object_whole : (here : Pos) (base : Option CType) → IfKnown (IsWhole structs) base → (tree : DeclaratorTree) → IfKnown (IsWhole structs) (object_type scope here (declared_type scope here Required base tree)).known
    object_whole here base whole tree =
        (of_part (IsWhole structs) (IsWhole structs) (declared_type scope here Required base tree) (λ t. require (is_complete scope.structs t) T.T05 here (give t)) (declared_whole here Required tt base whole tree)
        (λ t is. required _ T.T05 here _ (gives t is))).holds

    pub outside_whole : (here : Pos) (role : LengthRole) → HasLength role → (base : Option CType) → IfKnown (IsWhole structs) base → (tree : DeclaratorTree)
        → IfKnown (IsWhole structs) (outside_type scope here (declared_type scope here role base tree)).known
    outside_whole here role has base whole tree =
        (of_part (IsWhole structs) (IsWhole structs) (declared_type scope here role base tree) (λ t. require (is_function t || is_complete scope.structs t) T.T05 here (give t)) (declared_whole here role has base whole tree)
        (λ t is. required _ T.T05 here _ (gives t is))).holds

    pub body_whole : (here : Pos) (base : Option CType) → IfKnown (IsWhole structs) base → (tree : DeclaratorTree) → IfKnown (IsWhole structs) (body_type here (declared_type scope here Required base tree)).known
    body_whole here base whole tree =
        (of_part (IsWhole structs) (IsWhole structs) (declared_type scope here Required base tree) _ (declared_whole here Required tt base whole tree) (λ t is. beside _ (give t) (gives t is))).holds
