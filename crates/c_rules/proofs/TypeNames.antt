-- Types that are named without a violation are proper. Of an expression in a length something is known then, where each name and each
-- member has a type.
use Rattle.std.proofs.Common.{◌≡◌, zero, suc, true, cond, not, ◌||◌, ◌&&◌, List, [], ◌∷◌, ◌++◌, length, Option, Some, None, pos, negsuc, ℕ, ℤ, bytes_eq, is_some, refl, sym, subst}
use Rattle.std.proofs.lemmas.Bool.{false≢true, and_from, and_parts}
use Rattle.run_theory.specs.declared.place.Pos.{Pos}
use Rattle.c_syntax.specs.Trees
use Rattle.c_syntax.specs.Trees.{ExprTree, ArgumentsTree, TypeTree, OptionalTree, DeclaratorTree, DirectTree, SuffixesTree, LengthTree, ParametersTree, SimpleTree, WordsTree}
use Rattle.c_typed.specs.Types.{CType, CTypes, Void, Integer, Pointer, Array, Struct, Function, NoTypes, MoreTypes, is_array, is_struct, is_function, is_void, decayed}
use Rattle.c_typed.specs.Layouts.{StructDef, is_complete}
use Rattle.c_typed.specs.declared.typed.LibraryFunction.{LibraryFunction}
use Rattle.c_rules.specs.declared.rule.TypeRule.TheVariants as T
use Rattle.c_rules.specs.Names as names
use Rattle.c_rules.specs.Names.{Scope, Meaning, LocalName, FileName, local_meaning, file_meaning, library_meaning, library_named, file_name, locals_in}
use Rattle.c_rules.specs.Known.{Checked, give, require, given, given_two, as_value}
use Rattle.c_rules.specs.Expressions.{expr, argument_values, library_called, as_constant, type_place, words_type, simple_type, pointers, declared_type, direct_type, suffixes_type, optional_type, type_named, parameter_types, parameter_type, one_parameter, array_type, function_type, length_stated, length_value, positive, role_outside, is_void_alone, with_name, optional_name, name_place, name_clash, place_of, LengthRole, Required, Adjusted, Initialized, Length, Missing}
use Rattle.c_rules.specs.Statements.{object_type}
use Rattle.c_typed.specs.Context.{Context}
use Rattle.c_typed.specs.Expressions.{is_scalar}
use Rattle.c_rules.specs.Proper.{is_proper, are_proper}
use Rattle.c_rules.specs.Fitting.{Yields, LocalsFit, Fits}
use Rattle.c_rules.proofs.Yielding.{none_left, none_right, either_case, give_yields, also_yields, require_yields, given_yields, given_two_yields}
use Rattle.c_rules.proofs.Answering.{Anything, Answers, HaveTypes, has_type, AreKnown}
use Rattle.c_rules.proofs.Answering as answering

-- ---- names have types where they fit

local-typed : (structs : List StructDef) (locals : List LocalName) (types : List CType) → LocalsFit structs locals types → (name : List ℕ) (outside : Meaning) → has_type outside ≡ true
    → has_type (local_meaning locals name outside) ≡ true
local-typed structs [] [] fits name outside h = h
local-typed structs [] (c_type ∷ types) fits name outside h = absurd fits
local-typed structs (newest ∷ others) [] fits name outside h = absurd fits
local-typed structs (newest ∷ others) (c_type ∷ types) fits name outside h =
    either_case (λ meaning. has_type meaning ≡ true) (bytes_eq newest.name name) _ _
    (λ _. subst (λ t. has_type (names.Local (length others) t) ≡ true) (sym fits.0) refl) (λ _. local-typed structs others types fits.3 name outside h)

library-typed : (function : Option LibraryFunction) → has_type (library_meaning function) ≡ true
library-typed None = refl
library-typed (Some function) = refl

outer-typed : (c_type : Option CType) → is_some c_type ≡ true → has_type (names.Outer c_type) ≡ true
outer-typed None h = absurd (false≢true h)
outer-typed (Some c_type) h = refl

file-typed : (entry : Option FileName) (name : List ℕ) → ((e : FileName) → entry ≡ Some e → is_some e.c_type ≡ true) → has_type (file_meaning entry name) ≡ true
file-typed None name known = library-typed (library_named name)
file-typed (Some entry) name known = outer-typed entry.c_type (known entry refl)

pub have_types : (scope : Scope) (around : Context) → Fits scope around → HaveTypes scope
have_types scope around fits =
    record {
      names = λ name. local-typed around.program.structs (locals_in scope) around.locals fits.locals name _ (file-typed (file_name scope.file name) name (fits.known name));
      members = fits.typed_members;
    }

-- ---- words

abbrev IsProper : CType → Type 0
IsProper c_type = is_proper c_type ≡ true

simple-yields : (scope : Scope) (words : SimpleTree) → Yields IsProper (simple_type scope words)
simple-yields scope Trees.VoidWord = give_yields IsProper Void refl
simple-yields scope (Trees.IntegerWords int_type) = give_yields IsProper (Integer int_type) refl
simple-yields scope (Trees.StructTag tag) = require_yields IsProper _ T.T03 tag.place (give (Struct tag.bytes)) (λ _. give_yields IsProper (Struct tag.bytes) refl)

pub words_yield : (scope : Scope) (words : WordsTree) → Yields (λ t. is_proper t ≡ true) (words_type scope words)
words_yield scope words = simple-yields scope words.words

-- ---- what declarators make

pub pointers-proper : (stars : ℕ) (c_type : CType) → is_proper c_type ≡ true → is_proper (pointers stars c_type) ≡ true
pointers-proper zero c_type proper = proper
pointers-proper (suc n) c_type proper = pointers-proper n c_type proper

element-proper : (structs : List StructDef) (element : CType) → is_complete structs element ≡ true → is_proper element ≡ true → not (is_function element) && is_proper element ≡ true
element-proper structs Void complete proper = absurd (false≢true complete)
element-proper structs (Integer int_type) complete proper = refl
element-proper structs (Pointer target) complete proper = proper
element-proper structs (Array element n) complete proper = proper
element-proper structs (Struct tag) complete proper = refl
element-proper structs (Function result parameters) complete proper = absurd (false≢true complete)

-- a result is a scalar or nothing
result-kind : (c_type : CType) → not (is_array c_type || is_function c_type) ≡ true → not (is_struct c_type) ≡ true → (is_scalar c_type || is_void c_type) ≡ true
result-kind Void h k = refl
result-kind (Integer int_type) h k = refl
result-kind (Pointer target) h k = refl
result-kind (Array element n) h k = absurd (false≢true h)
result-kind (Struct tag) h k = absurd (false≢true k)
result-kind (Function result parameters) h k = absurd (false≢true h)

abbrev IsParameter : CType → Type 0
IsParameter c_type = (is_scalar c_type ≡ true) × (is_proper c_type ≡ true)

parameter-kind : (structs : List StructDef) (c_type : CType) → is_complete structs (decayed c_type) ≡ true → not (is_struct (decayed c_type)) ≡ true → is_proper c_type ≡ true → IsParameter (decayed c_type)
parameter-kind structs Void h k proper = absurd (false≢true h)
parameter-kind structs (Integer int_type) h k proper = (refl, refl)
parameter-kind structs (Pointer target) h k proper = (refl, proper)
parameter-kind structs (Array element n) h k proper = (refl, (and_parts (not (is_function element)) (is_proper element) proper).1)
parameter-kind structs (Struct tag) h k proper = absurd (false≢true k)
parameter-kind structs (Function result parameters) h k proper = (refl, proper)

parameter-yields : (scope : Scope) (here : Pos) (c_type : CType) → is_proper c_type ≡ true → Yields IsParameter (parameter_type scope here c_type)
parameter-yields scope here c_type proper =
    require_yields IsParameter _ T.T05 here (require (not (is_struct (decayed c_type))) T.T19 here (give (decayed c_type))) (λ complete.
    require_yields IsParameter _ T.T19 here (give (decayed c_type)) (λ no_struct.
    give_yields IsParameter (decayed c_type) (parameter-kind scope.structs c_type complete no_struct proper)))

abbrev AreProper : CTypes → Type 0
AreProper types = are_proper types ≡ true

abbrev IsElement : List StructDef → CType → Type 0
IsElement structs c_type = (is_complete structs c_type ≡ true) × (is_proper c_type ≡ true)

-- an object's type is complete
pub object_yields : (scope : Scope) (here : Pos) (part : Checked CType) → Yields (λ t. is_proper t ≡ true) part
    → Yields (λ t. (is_complete scope.structs t ≡ true) × (is_proper t ≡ true)) (object_type scope here part)
object_yields scope here part yields =
    given_yields IsProper (IsElement scope.structs) part (λ c_type. require (is_complete scope.structs c_type) T.T05 here (give c_type)) yields (λ c_type proper.
    require_yields (IsElement scope.structs) _ T.T05 here (give c_type) (λ complete. give_yields (IsElement scope.structs) c_type (complete, proper)))

array-yields : (scope : Scope) (here : Pos) (role : LengthRole) (stated : Length) (element : Checked CType) → Yields IsProper element → ((c_type : CType) → Answers (length_value here role (Some c_type) stated))
    → Yields IsProper (array_type scope here role stated element)
array-yields scope here role stated element yields lengths none =
    let own = given element (λ c_type. require (is_complete scope.structs c_type) T.T05 here (give c_type)) in
    let found = yields (none_left element.found _ (none_left own.found _ (none_left (own.found ++ (length_value here role element.known stated).found) _ none))) in
    subst (λ known. Yields IsProper (given_two own (length_value here role known stated) (λ c_type n. give (Array c_type n)))) (sym found.1)
    (given_two_yields (IsElement scope.structs) Anything IsProper own (length_value here role (Some found.0) stated) (λ c_type n. give (Array c_type n))
    (object_yields scope here element yields) (lengths found.0).yields
    (λ c_type n is_element _. give_yields IsProper (Array c_type n) (element-proper scope.structs c_type is_element.0 is_element.1)))
    none

abbrev IsResult : CType → Type 0
IsResult c_type = ((is_scalar c_type || is_void c_type) ≡ true) × (is_proper c_type ≡ true)

function-yields : (here : Pos) (parameters : Checked CTypes) (result : Checked CType) → Yields AreProper parameters → Yields IsProper result → Yields IsProper (function_type here parameters result)
function-yields here parameters result types yields =
    let inner = λ (c_type : CType). require (not (is_struct c_type)) T.T19 here (give c_type) in
    let rule = λ (c_type : CType). require (not (is_array c_type || is_function c_type)) T.T05 here (inner c_type) in
    given_two_yields IsResult AreProper IsProper (given result rule) parameters (λ c_type types. give (Function c_type types))
    (given_yields IsProper IsResult result rule yields (λ c_type proper.
    require_yields IsResult _ T.T05 here (inner c_type) (λ no_array. require_yields IsResult _ T.T19 here (give c_type) (λ no_struct. give_yields IsResult c_type (result-kind c_type no_array no_struct, proper)))))
    types
    (λ c_type types is_result proper. give_yields IsProper (Function c_type types)
    (and_from ((is_scalar c_type || is_void c_type) && is_proper c_type) (are_proper types) (and_from (is_scalar c_type || is_void c_type) (is_proper c_type) is_result.0 is_result.1) proper))

positive-answers : (here : Pos) (z : ℤ) → Answers (positive here z)
positive-answers here (pos zero) = answering.refused _ _
positive-answers here (pos (suc n)) = answering.given-answer _
positive-answers here (negsuc n) = answering.refused _ _

missing-answers : (here : Pos) (role : LengthRole) (c_type : CType) → Answers (length_value here role (Some c_type) Missing)
missing-answers here Required c_type = answering.refused _ _
missing-answers here Adjusted c_type = answering.given-answer _
missing-answers here (Initialized length_for) c_type = answering.given-answer _

one-yields : (scope : Scope) (names : List (List ℕ)) (words : WordsTree) (declarator : OptionalTree) (named : Checked CType) → Yields IsProper named → Yields IsParameter (one_parameter scope names words declarator named)
one-yields scope names words declarator named yields =
    let rule = parameter_type scope (name_place (optional_name declarator) words.place) in
    also_yields IsParameter (name_clash names (optional_name declarator)) (given named rule)
    (given_yields IsProper IsParameter named rule yields (λ c_type proper. parameter-yields scope (name_place (optional_name declarator) words.place) c_type proper))

answered : (checked : Checked CType) → Yields IsProper checked → Answers checked
answered checked yields = record { yields = λ none. let found = yields none in (found.0, found.1, tt) }

-- ---- declarators, and the expressions in them

module _ (scope : Scope) (types : HaveTypes scope) where
  mutual
    pub expr_answers : (e : ExprTree) → Answers (expr scope e)
    expr_answers (Trees.Named name) = answering.named-answers scope types name
    expr_answers (Trees.Integer value int_type place) = answering.given-answer _
    expr_answers (Trees.Character byte place) = answering.given-answer _
    expr_answers (Trees.Literal bytes place) = answering.given-answer _
    expr_answers (Trees.Null place) = answering.given-answer _
    expr_answers (Trees.EndOfFile place) = answering.given-answer _
    expr_answers (Trees.Parenthesized place inner) = answering.then (expr scope inner) _ (expr_answers inner) (λ known. answering.given-answer _)
    expr_answers (Trees.Index array index) =
        answering.then_two (as_value (place_of array) (expr scope array)) (as_value (place_of index) (expr scope index)) _
        (answering.value-answers (place_of array) (expr scope array) (expr_answers array)) (answering.value-answers (place_of index) (expr scope index) (expr_answers index))
        (answering.indexed-answers scope (place_of array) (place_of index))
    expr_answers (Trees.Call function open_place given_values) =
        answering.call-answers (place_of function) (library_called scope 0 function (expr scope function)) (argument_values scope given_values)
        (answering.library_called-answers scope 0 function (expr scope function) (expr_answers function)) (arguments_known given_values)
    expr_answers (Trees.Member object member) = answering.then (expr scope object) _ (expr_answers object) (answering.object_member-answers scope types (place_of object) member)
    expr_answers (Trees.PointerMember pointer member) =
        answering.then (as_value (place_of pointer) (expr scope pointer)) _ (answering.value-answers (place_of pointer) (expr scope pointer) (expr_answers pointer))
        (answering.pointer_member-answers scope types (place_of pointer) member)
    expr_answers (Trees.PostIncrement operand) = answering.then (expr scope operand) _ (expr_answers operand) (answering.stepped-answers scope _ (place_of operand) (place_of operand))
    expr_answers (Trees.PostDecrement operand) = answering.then (expr scope operand) _ (expr_answers operand) (answering.stepped-answers scope _ (place_of operand) (place_of operand))
    expr_answers (Trees.Prefix operator place operand) = answering.prefixed-answers scope operator place (place_of operand) (expr scope operand) (expr_answers operand)
    expr_answers (Trees.SizeofExpr place operand) = answering.then (expr scope operand) _ (expr_answers operand) (λ known. answering.size-answers scope place known.c_type)
    expr_answers (Trees.SizeofType place type_name) = answering.then (type_named scope type_name) _ (type_answers type_name) (answering.size-answers scope (type_place type_name))
    expr_answers (Trees.Cast place type_name operand) =
        answering.then_two (type_named scope type_name) (as_value (place_of operand) (expr scope operand)) _
        (type_answers type_name) (answering.value-answers (place_of operand) (expr scope operand) (expr_answers operand)) (answering.cast-answers scope place)
    expr_answers (Trees.Binary operator left right) =
        answering.binary-answers scope operator (place_of left) (place_of right) (expr scope left) (expr scope right) (expr_answers left) (expr_answers right)
    expr_answers (Trees.Conditional condition taken otherwise) =
        answering.conditional-answers (place_of condition) (place_of taken) (place_of otherwise) (expr scope condition) (expr scope taken) (expr scope otherwise)
        (expr_answers condition) (expr_answers taken) (expr_answers otherwise)
    expr_answers (Trees.Assign operator object value) =
        answering.assigned-answers scope operator (place_of object) (place_of value) (expr scope object) (expr scope value) (expr_answers object) (expr_answers value)

    arguments_known : (tree : ArgumentsTree) → (argument_values scope tree).found ≡ [] → AreKnown (argument_values scope tree).values
    arguments_known Trees.NoArguments none = tt
    arguments_known (Trees.Argument value others) none =
        let first = as_value (place_of value) (expr scope value) in
        let known = (answering.value-answers (place_of value) (expr scope value) (expr_answers value)).yields (none_left first.found _ none) in
        ((known.0, known.1), arguments_known others (none_right first.found _ none))

    type_answers : (tree : TypeTree) → Answers (type_named scope tree)
    type_answers (Trees.TypeName words declarator) = answered (optional_type scope words.place Required (words_type scope words) declarator) (optional_yields words.place Required (words_type scope words) (words_yield scope words) declarator)

    pub type_yields : (tree : TypeTree) → Yields (λ t. is_proper t ≡ true) (type_named scope tree)
    type_yields (Trees.TypeName words declarator) = optional_yields words.place Required (words_type scope words) (words_yield scope words) declarator

    pub optional_yields : (here : Pos) (role : LengthRole) (base : Checked CType) → Yields (λ t. is_proper t ≡ true) base → (tree : OptionalTree) → Yields (λ t. is_proper t ≡ true) (optional_type scope here role base tree)
    optional_yields here role base yields Trees.NoDeclarator none = yields none
    optional_yields here role base yields (Trees.Declared declarator) none =
        let found = yields (none_left base.found _ none) in
        subst (λ known. Yields IsProper (declared_type scope here role known declarator)) (sym found.1) (declared_yields here role found.0 declarator found.2) (none_right base.found _ none)

    pub declared_yields : (here : Pos) (role : LengthRole) (base : CType) (tree : DeclaratorTree) → is_proper base ≡ true → Yields (λ t. is_proper t ≡ true) (declared_type scope here role (Some base) tree)
    declared_yields here role base (Trees.Declarator stars direct suffixes) proper =
        direct_yields here role (suffixes_type scope here (role_outside direct role) (Some (pointers stars base)) suffixes)
        (suffixes_yields here (role_outside direct role) (pointers stars base) (pointers-proper stars base proper) suffixes) direct

    direct_yields : (here : Pos) (role : LengthRole) (outer : Checked CType) → Yields IsProper outer → (tree : DirectTree) → Yields IsProper (direct_type scope here role outer tree)
    direct_yields here role outer yields (Trees.DeclaredName name) none = yields none
    direct_yields here role outer yields Trees.NoName none = yields none
    direct_yields here role outer yields (Trees.Nested declarator) none =
        let found = yields (none_left outer.found _ none) in
        subst (λ known. Yields IsProper (declared_type scope here role known declarator)) (sym found.1) (declared_yields here role found.0 declarator found.2) (none_right outer.found _ none)

    suffixes_yields : (here : Pos) (role : LengthRole) (base : CType) → is_proper base ≡ true → (tree : SuffixesTree) → Yields IsProper (suffixes_type scope here role (Some base) tree)
    suffixes_yields here role base proper Trees.NoSuffixes = give_yields IsProper base proper
    suffixes_yields here role base proper (Trees.ArraySuffix size others) =
        array-yields scope here role (length_stated scope size) (suffixes_type scope here Required (Some base) others) (suffixes_yields here Required base proper others) (length_answers here role size)
    suffixes_yields here role base proper (Trees.FunctionSuffix parameters others) =
        function-yields here (cond (is_void_alone parameters) (give NoTypes) (parameter_types scope [] parameters)) (suffixes_type scope here Required (Some base) others)
        (either_case (Yields AreProper) (is_void_alone parameters) (give NoTypes) (parameter_types scope [] parameters) (λ _. give_yields AreProper NoTypes refl) (λ _. parameters_yield [] parameters))
        (suffixes_yields here Required base proper others)

    length_answers : (here : Pos) (role : LengthRole) (tree : LengthTree) (c_type : CType) → Answers (length_value here role (Some c_type) (length_stated scope tree))
    length_answers here role Trees.NoLength c_type = missing-answers here role c_type
    length_answers here role (Trees.ArrayLength value) c_type =
        answering.then (as_constant (place_of value) (expr scope value)) (positive here) (answering.as_constant-answers (place_of value) (expr scope value) (expr_answers value)) (positive-answers here)

    pub parameters_yield : (names : List (List ℕ)) (tree : ParametersTree) → Yields (λ types. are_proper types ≡ true) (parameter_types scope names tree)
    parameters_yield names Trees.NoParameters = give_yields AreProper NoTypes refl
    parameters_yield names (Trees.Parameter words declarator others) =
        let here = name_place (optional_name declarator) words.place in
        let named = optional_type scope here Adjusted (words_type scope words) declarator in
        given_two_yields IsParameter AreProper AreProper (one_parameter scope names words declarator named) (parameter_types scope (with_name (optional_name declarator) names) others) (λ first types. give (MoreTypes first types))
        (one-yields scope names words declarator named (optional_yields here Adjusted (words_type scope words) (words_yield scope words) declarator))
        (parameters_yield (with_name (optional_name declarator) names) others)
        (λ first types is_parameter proper. give_yields AreProper (MoreTypes first types)
        (and_from (is_scalar first && is_proper first) (are_proper types) (and_from (is_scalar first) (is_proper first) is_parameter.0 is_parameter.1) proper))
