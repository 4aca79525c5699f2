-- What is named at a place of the text is named alike behind a declaration outside functions.
use Rattle.std.proofs.Common.{◌≡◌, ℕ, suc, Bool, true, false, not, ◌||◌, cond, List, [], ◌++◌, Option, Some, None, bytes_eq, refl, sym, ap, ◌∙◌, ◌⊎◌, inl, inr}
use Rattle.std.proofs.lemmas.Bool.{true≢false}
use Rattle.run_theory.specs.declared.place.Pos.{Pos}
use Rattle.c_syntax.specs.Trees
use Rattle.c_syntax.specs.Trees.{NameTree, ExprTree, ArgumentsTree, TypeTree, OptionalTree, DeclaratorTree, DirectTree, SuffixesTree, LengthTree, ParametersTree, WordsTree}
use Rattle.c_typed.specs.Types.{CType, CTypes, NoTypes, MoreTypes, Array, Function, is_array, is_function, is_struct}
use Rattle.c_typed.specs.Layouts.{is_complete}
use Rattle.c_typed.specs.declared.typed.LibraryFunction.{LibraryFunction}
use Rattle.c_typed.specs.declared.typed.Stepping.TheVariants as S
use Rattle.c_typed.specs.Typed as typed
use Rattle.c_rules.specs.declared.rule.TypeRule.TheVariants as T
use Rattle.c_rules.specs.declared.violation.Violation.{Violation}
use Rattle.c_rules.specs.Names.{Scope, FileName, Meaning, NoMeaning, Local, Outer, Library, meaning_of, local_meaning, file_meaning, file_name, with_file_name, library_meaning, library_named, is_library}
use Rattle.c_rules.specs.Known.{Checked, Known, also, give, require, given, given_two, with_known, as_value, value_of_type, OfLibrary, grouped}
use Rattle.c_rules.specs.Operators
use Rattle.c_rules.specs.Expressions.{LengthRole, Required, Adjusted, Length, Missing, Stated, expr, place_of, argument_values, library_called, as_constant, constant_value, type_place, words_type, declared_type, direct_type, suffixes_type, optional_type, type_named, parameter_types, parameter_type, one_parameter, array_type, function_type, length_stated, length_value, positive, role_outside, pointed, is_void_alone, with_name, optional_name, name_place, name_clash}
use Rattle.c_rules.specs.Programs.{declare_outside, joined_name}
use Rattle.c_rules.proofs.Nothing.{both_none, given_part, same_name}
use Rattle.c_rules.proofs.Outside.{Good, Declared, type_in, entered_itself, entered_other, joined_bytes}
use Rattle.c_rules.proofs.Parameters.{NamesAlike}
use Rattle.c_rules.proofs.SameRules.{given_stays, two_stays, three_stays, value_stays, integer_stays, condition_stays, operand_stays, behind, name_same, words_same, indexed_same, object_member_same, pointer_member_same, stepped_same, combined_same, cast_same, object_stays, assigned_stays, prefixed_stays}

-- a name that had no meaning is one outside functions now; each other means what it meant
abbrev pub MeansAlike : Scope → Scope → Type 0
MeansAlike scope later = (name : List ℕ) → ((meaning_of scope name ≡ NoMeaning) × ((c_type : Option CType) × (meaning_of later name ≡ Outer c_type))) ⊎ (meaning_of later name ≡ meaning_of scope name)

abbrev library_by : ℕ → Checked Known → Meaning → Checked Known
library_by groups otherwise (Library function c_type) = give (record (value_of_type c_type typed.NullPointer) { typed = OfLibrary function groups })
library_by groups otherwise _ = otherwise

abbrev Stays : {A : Type 0} → Checked A → Checked A → Type 0
Stays part part' = part.found ≡ [] → part' ≡ part

module _ (scope : Scope) (file : List FileName) (alike : MeansAlike scope (behind scope file)) where
  abbrev later : Scope
  later = behind scope file

  named_stays : (name : NameTree) → Stays (Operators.named scope name) (Operators.named later name)
  named_stays name none = by (alike name.bytes)
    where
      by : ((meaning_of scope name.bytes ≡ NoMeaning) × ((c_type : Option CType) × (meaning_of later name.bytes ≡ Outer c_type))) ⊎ (meaning_of later name.bytes ≡ meaning_of scope name.bytes)
          → Operators.named later name ≡ Operators.named scope name
      by (inl new) = absurd (refused (sym (ap (λ m. (Operators.name_as scope name m).found) new.0) ∙ none))
        where
          refused : (Operators.name_as scope name NoMeaning).found ≡ [] → ⊥
          refused h = cc
      by (inr same) = ap (Operators.name_as later name) same ∙ name_same scope file name (meaning_of scope name.bytes)

  library_stays : (groups : ℕ) (e : ExprTree) (otherwise otherwise' : Checked Known) → Stays otherwise otherwise' → Stays (library_called scope groups e otherwise) (library_called later groups e otherwise')
  library_stays groups (Trees.Named name) otherwise otherwise' stays none = by (alike name.bytes)
    where
      kept : (m : Meaning) → (library_by groups otherwise m).found ≡ [] → library_by groups otherwise' m ≡ library_by groups otherwise m
      kept NoMeaning h = stays h
      kept (Local number c_type) h = stays h
      kept (Outer c_type) h = stays h
      kept (Library function c_type) h = refl

      by : ((meaning_of scope name.bytes ≡ NoMeaning) × ((c_type : Option CType) × (meaning_of later name.bytes ≡ Outer c_type))) ⊎ (meaning_of later name.bytes ≡ meaning_of scope name.bytes)
          → library_by groups otherwise' (meaning_of later name.bytes) ≡ library_by groups otherwise (meaning_of scope name.bytes)
      by (inl new) = ap (library_by groups otherwise') new.1.1 ∙ stays (sym (ap (λ m. (library_by groups otherwise m).found) new.0) ∙ none) ∙ sym (ap (library_by groups otherwise) new.0)
      by (inr same) = ap (library_by groups otherwise') same ∙ kept (meaning_of scope name.bytes) none
  library_stays groups (Trees.Parenthesized place inner) otherwise otherwise' stays none = library_stays (suc groups) inner otherwise otherwise' stays none
  library_stays groups (Trees.Integer value int_type place) otherwise otherwise' stays none = stays none
  library_stays groups (Trees.Character byte place) otherwise otherwise' stays none = stays none
  library_stays groups (Trees.Literal bytes place) otherwise otherwise' stays none = stays none
  library_stays groups (Trees.Null place) otherwise otherwise' stays none = stays none
  library_stays groups (Trees.EndOfFile place) otherwise otherwise' stays none = stays none
  library_stays groups (Trees.Index array index) otherwise otherwise' stays none = stays none
  library_stays groups (Trees.Call function open_place _) otherwise otherwise' stays none = stays none
  library_stays groups (Trees.Member object member) otherwise otherwise' stays none = stays none
  library_stays groups (Trees.PointerMember pointer member) otherwise otherwise' stays none = stays none
  library_stays groups (Trees.PostIncrement operand) otherwise otherwise' stays none = stays none
  library_stays groups (Trees.PostDecrement operand) otherwise otherwise' stays none = stays none
  library_stays groups (Trees.Prefix operator place operand) otherwise otherwise' stays none = stays none
  library_stays groups (Trees.SizeofExpr place operand) otherwise otherwise' stays none = stays none
  library_stays groups (Trees.SizeofType place type_name) otherwise otherwise' stays none = stays none
  library_stays groups (Trees.Cast place type_name operand) otherwise otherwise' stays none = stays none
  library_stays groups (Trees.Binary operator left right) otherwise otherwise' stays none = stays none
  library_stays groups (Trees.Conditional condition taken or_else) otherwise otherwise' stays none = stays none
  library_stays groups (Trees.Assign operator object value) otherwise otherwise' stays none = stays none

  call_stays : (whole : Pos) (function function' : Checked Known) (arguments arguments' : Operators.Arguments) → Stays function function' → (arguments.found ≡ [] → arguments' ≡ arguments)
      → Stays (Operators.call whole function arguments) (Operators.call whole function' arguments')
  call_stays whole function function' arguments arguments' first second none =
      let rule : Operators.Arguments → Known → Checked Known = λ (list : Operators.Arguments) (known : Known). Operators.call_rule whole known list.values in
      let parts = both_none arguments.found (given function (rule arguments)).found none in
      let is = second parts.0 in
      let is' = first (given_part function (rule arguments) parts.1) in
      λ i. Operators.call whole (is' i) (is i)

  argument_stays : (place : Pos) (first first' : Checked Known) (others others' : Operators.Arguments) → Stays first first' → (others.found ≡ [] → others' ≡ others)
      → (Operators.with_argument place first others).found ≡ [] → Operators.with_argument place first' others' ≡ Operators.with_argument place first others
  argument_stays place first first' others others' one rest none =
      let parts = both_none first.found others.found none in
      let is = one parts.0 in
      let is' = rest parts.1 in
      λ i. Operators.with_argument place (is i) (is' i)

  constant_stays : (place : Pos) (part part' : Checked Known) → Stays part part' → Stays (as_constant place part) (as_constant place part')
  constant_stays place part part' stays none =
      given_stays (Operators.as_integer place part) (Operators.as_integer place part') (λ value. constant_value place value.constness) (λ value. constant_value place value.constness) (integer_stays place part part' stays) refl none

  abbrev LengthStays : Length → Length → Type 0
  LengthStays Missing Missing = Unit {0}
  LengthStays (Stated value) (Stated value') = Stays value value'
  LengthStays _ _ = ⊥

  stated_stays : (here : Pos) (role : LengthRole) (element : Option CType) (length length' : Length) → LengthStays length length' → Stays (length_value here role element length) (length_value here role element length')
  stated_stays here role element Missing Missing stays none = refl
  stated_stays here role element Missing (Stated value') stays none = absurd stays
  stated_stays here role element (Stated value) Missing stays none = absurd stays
  stated_stays here role element (Stated value) (Stated value') stays none = given_stays value value' (positive here) (positive here) stays refl none

  array_stays : (here : Pos) (role : LengthRole) (length length' : Length) (element element' : Checked CType) → LengthStays length length' → Stays element element'
      → Stays (array_type scope here role length element) (array_type later here role length' element')
  array_stays here role length length' element element' stated stays none =
      let rule : CType → Checked CType = λ (c_type : CType). require (is_complete scope.structs c_type) T.T05 here (give c_type) in
      let front = both_none (given element rule).found (length_value here role element.known length).found
      (both_none ((given element rule).found ++ (length_value here role element.known length).found) (with_known (given element rule).known (λ a. with_known (length_value here role element.known length).known (λ n. give (Array a n)))).found none).0 in
      let same = stays (given_part element rule front.0) in
      let sized = stated_stays here role element.known length length' stated front.1 in
      (λ i. given_two (given (same i) rule) (length_value here role (same i).known length') (λ a n. give (Array a n))) ∙ (λ i. given_two (given element rule) (sized i) (λ a n. give (Array a n)))

  function_stays : (here : Pos) (parameters parameters' : Checked CTypes) (result result' : Checked CType) → Stays parameters parameters' → Stays result result' → Stays (function_type here parameters result) (function_type here parameters' result')
  function_stays here parameters parameters' result result' first second none =
      let rule : CType → Checked CType = λ (c_type : CType). require (not (is_array c_type || is_function c_type)) T.T05 here (require (not (is_struct c_type)) T.T19 here (give c_type)) in
      two_stays (given result rule) (given result' rule) parameters parameters' (λ c_type types. give (Function c_type types)) (λ c_type types. give (Function c_type types)) (given_stays result result' rule rule second refl) first refl none

  one_stays : (names : List (List ℕ)) (words : WordsTree) (declarator : OptionalTree) (named named' : Checked CType) → Stays named named' → Stays (one_parameter scope names words declarator named) (one_parameter later names words declarator named')
  one_stays names words declarator named named' stays none =
      let place = name_place (optional_name declarator) words.place in
      let clash : List Violation = name_clash names (optional_name declarator) in
      let is = given_stays named named' (parameter_type scope place) (parameter_type later place) stays refl (both_none clash (given named (parameter_type scope place)).found none).1 in
      ap (also clash) is

  mutual
    expr_stays : (e : ExprTree) → Stays (expr scope e) (expr later e)
    expr_stays (Trees.Named name) none = named_stays name none
    expr_stays (Trees.Integer value int_type place) none = refl
    expr_stays (Trees.Character byte place) none = refl
    expr_stays (Trees.Literal bytes place) none = refl
    expr_stays (Trees.Null place) none = refl
    expr_stays (Trees.EndOfFile place) none = refl
    expr_stays (Trees.Parenthesized place inner) none =
        given_stays (expr scope inner) (expr later inner) (λ known. give (record known { typed = grouped (place_of inner) known.typed })) (λ known. give (record known { typed = grouped (place_of inner) known.typed })) (expr_stays inner) refl none
    expr_stays (Trees.Index array index) none =
        two_stays (as_value (place_of array) (expr scope array)) (as_value (place_of array) (expr later array)) (as_value (place_of index) (expr scope index)) (as_value (place_of index) (expr later index))
        (Operators.indexed scope (place_of array) (place_of index)) (Operators.indexed later (place_of array) (place_of index))
        (value_stays (place_of array) (expr scope array) (expr later array) (expr_stays array)) (value_stays (place_of index) (expr scope index) (expr later index) (expr_stays index))
        (λ i a b. indexed_same scope file (place_of array) (place_of index) a b i) none
    expr_stays (Trees.Call function open_place arguments) none =
        call_stays (place_of function) (library_called scope 0 function (expr scope function)) (library_called later 0 function (expr later function)) (argument_values scope arguments) (argument_values later arguments)
        (library_stays 0 function (expr scope function) (expr later function) (expr_stays function)) (arguments_stay arguments) none
    expr_stays (Trees.Member object member) none =
        given_stays (expr scope object) (expr later object) (Operators.object_member scope (place_of object) member) (Operators.object_member later (place_of object) member) (expr_stays object)
        (λ i known. object_member_same scope file (place_of object) member known i) none
    expr_stays (Trees.PointerMember pointer member) none =
        given_stays (as_value (place_of pointer) (expr scope pointer)) (as_value (place_of pointer) (expr later pointer)) (Operators.pointer_member scope (place_of pointer) member) (Operators.pointer_member later (place_of pointer) member)
        (value_stays (place_of pointer) (expr scope pointer) (expr later pointer) (expr_stays pointer)) (λ i known. pointer_member_same scope file (place_of pointer) member known i) none
    expr_stays (Trees.PostIncrement operand) none =
        given_stays (expr scope operand) (expr later operand) (Operators.stepped scope S.PostIncrement (place_of operand) (place_of operand)) (Operators.stepped later S.PostIncrement (place_of operand) (place_of operand)) (expr_stays operand)
        (λ i known. stepped_same scope file S.PostIncrement (place_of operand) (place_of operand) known i) none
    expr_stays (Trees.PostDecrement operand) none =
        given_stays (expr scope operand) (expr later operand) (Operators.stepped scope S.PostDecrement (place_of operand) (place_of operand)) (Operators.stepped later S.PostDecrement (place_of operand) (place_of operand)) (expr_stays operand)
        (λ i known. stepped_same scope file S.PostDecrement (place_of operand) (place_of operand) known i) none
    expr_stays (Trees.Prefix operator place operand) none = prefixed_stays scope file operator place (place_of operand) (expr scope operand) (expr later operand) (expr_stays operand) none
    expr_stays (Trees.SizeofExpr place operand) none =
        given_stays (expr scope operand) (expr later operand) (λ known. Operators.size_of scope place known.c_type) (λ known. Operators.size_of later place known.c_type) (expr_stays operand) refl none
    expr_stays (Trees.SizeofType place type_name) none =
        given_stays (type_named scope type_name) (type_named later type_name) (Operators.size_of scope (type_place type_name)) (Operators.size_of later (type_place type_name)) (type_stays type_name) refl none
    expr_stays (Trees.Cast place type_name operand) none =
        two_stays (type_named scope type_name) (type_named later type_name) (as_value (place_of operand) (expr scope operand)) (as_value (place_of operand) (expr later operand)) (Operators.cast_to scope place) (Operators.cast_to later place)
        (type_stays type_name) (value_stays (place_of operand) (expr scope operand) (expr later operand) (expr_stays operand)) (λ i c_type known. cast_same scope file place c_type known i) none
    expr_stays (Trees.Binary operator left right) none =
        two_stays (Operators.operand (Operators.operand_kind operator) (place_of left) (expr scope left)) (Operators.operand (Operators.operand_kind operator) (place_of left) (expr later left))
        (Operators.operand (Operators.operand_kind operator) (place_of right) (expr scope right)) (Operators.operand (Operators.operand_kind operator) (place_of right) (expr later right))
        (Operators.combined scope operator (place_of left) (place_of right)) (Operators.combined later operator (place_of left) (place_of right))
        (operand_stays (Operators.operand_kind operator) (place_of left) (expr scope left) (expr later left) (expr_stays left))
        (operand_stays (Operators.operand_kind operator) (place_of right) (expr scope right) (expr later right) (expr_stays right))
        (λ i a b. combined_same scope file operator (place_of left) (place_of right) a b i) none
    expr_stays (Trees.Conditional condition taken otherwise) none =
        three_stays (Operators.as_condition (place_of condition) (expr scope condition)) (Operators.as_condition (place_of condition) (expr later condition))
        (as_value (place_of taken) (expr scope taken)) (as_value (place_of taken) (expr later taken)) (as_value (place_of otherwise) (expr scope otherwise)) (as_value (place_of otherwise) (expr later otherwise))
        (Operators.choice (place_of condition))
        (condition_stays (place_of condition) (expr scope condition) (expr later condition) (expr_stays condition))
        (value_stays (place_of taken) (expr scope taken) (expr later taken) (expr_stays taken)) (value_stays (place_of otherwise) (expr scope otherwise) (expr later otherwise) (expr_stays otherwise)) none
    expr_stays (Trees.Assign operator object value) none =
        two_stays (Operators.assigned_object scope (Operators.operator_of operator) (place_of object) (expr scope object)) (Operators.assigned_object later (Operators.operator_of operator) (place_of object) (expr later object))
        (Operators.assigned_value (Operators.operator_of operator) (place_of value) (expr scope value)) (Operators.assigned_value (Operators.operator_of operator) (place_of value) (expr later value))
        (Operators.assignment (Operators.operator_of operator) (place_of object) (place_of value)) (Operators.assignment (Operators.operator_of operator) (place_of object) (place_of value))
        (object_stays scope file (Operators.operator_of operator) (place_of object) (expr scope object) (expr later object) (expr_stays object))
        (assigned_stays scope file (Operators.operator_of operator) (place_of value) (expr scope value) (expr later value) (expr_stays value)) refl none

    arguments_stay : (list : ArgumentsTree) → (argument_values scope list).found ≡ [] → argument_values later list ≡ argument_values scope list
    arguments_stay Trees.NoArguments none = refl
    arguments_stay (Trees.Argument value others) none =
        argument_stays (place_of value) (as_value (place_of value) (expr scope value)) (as_value (place_of value) (expr later value)) (argument_values scope others) (argument_values later others)
        (value_stays (place_of value) (expr scope value) (expr later value) (expr_stays value)) (arguments_stay others) none

    type_stays : (type_name : TypeTree) → Stays (type_named scope type_name) (type_named later type_name)
    type_stays (Trees.TypeName words declarator) none =
        ap (λ base. optional_type later words.place Required base declarator) (words_same scope file words.words) ∙ optional_stays words.place Required (words_type scope words) declarator none

    optional_stays : (here : Pos) (role : LengthRole) (base : Checked CType) (tree : OptionalTree) → Stays (optional_type scope here role base tree) (optional_type later here role base tree)
    optional_stays here role base Trees.NoDeclarator none = refl
    optional_stays here role base (Trees.Declared declarator) none = ap (also base.found) (declared_stays here role base.known declarator (both_none base.found (declared_type scope here role base.known declarator).found none).1)

    declared_stays : (here : Pos) (role : LengthRole) (base : Option CType) (tree : DeclaratorTree) → Stays (declared_type scope here role base tree) (declared_type later here role base tree)
    declared_stays here role base (Trees.Declarator stars direct suffixes) none =
        direct_stays here role (suffixes_type scope here (role_outside direct role) (pointed stars base) suffixes) (suffixes_type later here (role_outside direct role) (pointed stars base) suffixes)
        (suffixes_stay here (role_outside direct role) (pointed stars base) suffixes) direct none

    direct_stays : (here : Pos) (role : LengthRole) (outer outer' : Checked CType) → Stays outer outer' → (tree : DirectTree) → Stays (direct_type scope here role outer tree) (direct_type later here role outer' tree)
    direct_stays here role outer outer' stays (Trees.DeclaredName name) none = stays none
    direct_stays here role outer outer' stays Trees.NoName none = stays none
    direct_stays here role outer outer' stays (Trees.Nested declarator) none =
        let parts = both_none outer.found (declared_type scope here role outer.known declarator).found none in
        let same = stays parts.0 in
        (λ i. also (same i).found (declared_type later here role (same i).known declarator)) ∙ ap (also outer.found) (declared_stays here role outer.known declarator parts.1)

    suffixes_stay : (here : Pos) (role : LengthRole) (base : Option CType) (tree : SuffixesTree) → Stays (suffixes_type scope here role base tree) (suffixes_type later here role base tree)
    suffixes_stay here role base Trees.NoSuffixes none = refl
    suffixes_stay here role base (Trees.ArraySuffix size others) none =
        array_stays here role (length_stated scope size) (length_stated later size) (suffixes_type scope here Required base others) (suffixes_type later here Required base others) (length_stays size) (suffixes_stay here Required base others) none
    suffixes_stay here role base (Trees.FunctionSuffix list others) none =
        function_stays here (cond (is_void_alone list) (give NoTypes) (parameter_types scope [] list)) (cond (is_void_alone list) (give NoTypes) (parameter_types later [] list))
        (suffixes_type scope here Required base others) (suffixes_type later here Required base others) (void_or (is_void_alone list) (parameters_stay [] list)) (suffixes_stay here Required base others) none
      where
        void_or : (b : Bool) → Stays (parameter_types scope [] list) (parameter_types later [] list) → Stays (cond b (give NoTypes) (parameter_types scope [] list)) (cond b (give NoTypes) (parameter_types later [] list))
        void_or true stays h = refl
        void_or false stays h = stays h

    length_stays : (tree : LengthTree) → LengthStays (length_stated scope tree) (length_stated later tree)
    length_stays Trees.NoLength = tt
    length_stays (Trees.ArrayLength value) = λ none. constant_stays (place_of value) (expr scope value) (expr later value) (expr_stays value) none

    parameters_stay : (names : List (List ℕ)) (tree : ParametersTree) → Stays (parameter_types scope names tree) (parameter_types later names tree)
    parameters_stay names Trees.NoParameters none = refl
    parameters_stay names (Trees.Parameter words declarator others) none =
        let here = name_place (optional_name declarator) words.place in
        let base = words_type scope words in
        two_stays (one_parameter scope names words declarator (optional_type scope here Adjusted base declarator)) (one_parameter later names words declarator (optional_type later here Adjusted (words_type later words) declarator))
        (parameter_types scope (with_name (optional_name declarator) names) others) (parameter_types later (with_name (optional_name declarator) names) others)
        (λ first types. give (MoreTypes first types)) (λ first types. give (MoreTypes first types))
        (one_stays names words declarator (optional_type scope here Adjusted base declarator) (optional_type later here Adjusted (words_type later words) declarator)
        (λ h. ap (λ b. optional_type later here Adjusted b declarator) (words_same scope file words.words) ∙ optional_stays here Adjusted base declarator h))
        (parameters_stay (with_name (optional_name declarator) names) others) refl none

  named_there : NamesAlike scope later
  named_there here words declarator none =
      ap (λ base. optional_type later here Adjusted base declarator) (words_same scope file words.words) ∙ optional_stays here Adjusted (words_type scope words) declarator none

-- ---- behind a declaration

library_none : (name : List ℕ) → is_library name ≡ false → library_named name ≡ None
library_none name e = by (library_named name) e
  where
    has : Option LibraryFunction → Bool
    has (Some function) = true
    has None = false

    by : (o : Option LibraryFunction) → has o ≡ false → o ≡ None
    by None h = refl
    by (Some function) h = absurd (true≢false h)

pub named_alike : (scope : Scope) → Good scope → (name : NameTree) (known : Option CType) (has_init has_body : Bool) (c_type : CType) → Declared scope (declare_outside name known has_init has_body scope) name known c_type
    → NamesAlike scope (declare_outside name known has_init has_body scope).scope
named_alike scope good name known has_init has_body c_type done = named_there scope newer alike
  where
    entry : FileName
    entry = record { name = name.bytes; c_type = known; has_init = has_init; has_body = has_body }

    joined : FileName
    joined = joined_name (file_name scope.file name.bytes) entry

    newer : List FileName
    newer = with_file_name joined scope.file

    -- there are no locals
    only : (place : Scope) → Rattle.c_rules.specs.Names.locals_in place ≡ [] → (other : List ℕ) → meaning_of place other ≡ file_meaning (file_name place.file other) other
    only place none other = ap (λ l. local_meaning l other (file_meaning (file_name place.file other) other)) none

    alike : MeansAlike scope (behind scope newer)
    alike other = by (bytes_eq joined.name other) refl
      where
        by : (b : Bool) → bytes_eq joined.name other ≡ b
            → ((meaning_of scope other ≡ NoMeaning) × ((t : Option CType) × (meaning_of (behind scope newer) other ≡ Outer t))) ⊎ (meaning_of (behind scope newer) other ≡ meaning_of scope other)
        by false apart =
            inr (only (behind scope newer) good.locals other ∙ ap (λ o. file_meaning o other) (entered_other joined scope.file other apart) ∙ sym (only scope good.locals other))
        by true is = inner (file_name scope.file other) refl
          where
            now : meaning_of (behind scope newer) other ≡ Outer joined.c_type
            now = only (behind scope newer) good.locals other ∙ ap (λ o. file_meaning o other) (entered_itself joined scope.file other is)

            named : other ≡ name.bytes
            named = sym (same_name joined.name other is) ∙ joined_bytes (file_name scope.file name.bytes) entry

            inner : (o : Option FileName) → file_name scope.file other ≡ o
                → ((meaning_of scope other ≡ NoMeaning) × ((t : Option CType) × (meaning_of (behind scope newer) other ≡ Outer t))) ⊎ (meaning_of (behind scope newer) other ≡ meaning_of scope other)
            inner None at =
                let found = done.good.file name.bytes joined (entered_itself joined scope.file name.bytes (sym (ap (bytes_eq joined.name) named) ∙ is)) in
                let none : library_named other ≡ None = ap library_named named ∙ library_none name.bytes found.apart in
                inl (only scope good.locals other ∙ ap (λ o. file_meaning o other) at ∙ ap library_meaning none, (joined.c_type, now))
            inner (Some old) at =
                let fit = good.file other old at in
                let after = done.later.file other fit.c_type (ap type_in at ∙ fit.is) in
                let same : joined.c_type ≡ Some fit.c_type = sym (ap type_in (entered_itself joined scope.file other is)) ∙ after in
                inr (now ∙ ap Outer (same ∙ sym fit.is) ∙ sym (only scope good.locals other ∙ ap (λ o. file_meaning o other) at))
