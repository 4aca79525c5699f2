-- The parameters of a function's own list are those of its type, and its first locals.
use Rattle.std.proofs.Common.{◌≡◌, ℕ, zero, suc, Bool, true, false, not, ◌&&◌, ◌||◌, cond, List, [], ◌∷◌, Option, Some, None, refl, sym, ap, ◌∙◌}
use Rattle.std.proofs.lemmas.Bool.{true≢false, false≢true, and_parts}
use Rattle.std.proofs.lemmas.Option.{none-some, same_Some}
use Rattle.run_theory.specs.declared.place.Pos.{Pos}
use Rattle.c_syntax.specs.Trees
use Rattle.c_syntax.specs.Trees.{NameTree, WordsTree, OptionalTree, DeclaratorTree, DirectTree, SuffixesTree, ParametersTree}
use Rattle.c_typed.specs.Types.{CType, CTypes, Void, Integer, Pointer, Array, Struct, Function, NoTypes, MoreTypes, is_array, is_function, is_struct}
use Rattle.c_rules.specs.declared.rule.TypeRule.TheVariants as T
use Rattle.c_typed.specs.Layouts.{StructDef, is_complete}
use Rattle.c_rules.specs.declared.violation.Violation.{Violation}
use Rattle.c_rules.specs.Names.{Scope, LocalName, locals_in}
use Rattle.c_rules.specs.Known.{Checked, give, given, with_known, require, known_already}
use Rattle.c_rules.specs.Expressions.{LengthRole, Required, Adjusted, words_type, pointed, declared_type, direct_type, suffixes_type, length_stated, length_value, optional_type, optional_name, name_place, name_clash, with_name, one_parameter, parameter_type, parameter_types, is_void_alone, role_outside, adds, direct_adds}
use Rattle.c_rules.specs.Programs.{first_parameters, own_parameters, parameter_local, unnamed, enter_parameters}
use Rattle.c_rules.specs.Elaborated.{types_in}
use Rattle.c_typed.specs.Expressions.{is_scalar}
use Rattle.c_typed.specs.Programs.{with_parameters}
use Rattle.c_rules.specs.Proper.{is_proper, are_proper}
use Rattle.c_rules.specs.Fitting.{LocalsFit}
use Rattle.c_rules.proofs.Nothing.{both_none, TwoKnown, both_known}
use Rattle.c_rules.proofs.Around.{SameOutside}

-- ---- what a function's type takes

abbrev pub list_types : Scope → ParametersTree → Checked CTypes
list_types scope parameters = cond (is_void_alone parameters) (give NoTypes) (parameter_types scope [] parameters)

-- the list names these types
pub record Takes (scope : Scope) (parameters : ParametersTree) (types : CTypes) : Type 0 where
  pub none : (list_types scope parameters).found ≡ []
  pub known : (list_types scope parameters).known ≡ Some types

abbrev types_of : CType → CTypes
types_of (Function result types) = types
types_of _ = NoTypes

-- a declarator of a name with nothing more
abbrev is_plain : ℕ → SuffixesTree → Bool
is_plain zero Trees.NoSuffixes = true
is_plain _ _ = false

first_takes : (scope : Scope) (here : Pos) (role : LengthRole) (base : Option CType) (stars : ℕ) (suffixes : SuffixesTree) (result : CType) (types : CTypes) → is_plain stars suffixes ≡ false
    → (suffixes_type scope here role (pointed stars base) suffixes).found ≡ [] → (suffixes_type scope here role (pointed stars base) suffixes).known ≡ Some (Function result types)
    → Takes scope (first_parameters suffixes) types
first_takes scope here role base zero Trees.NoSuffixes result types more e is = absurd (true≢false more)
first_takes scope here role None (suc n) Trees.NoSuffixes result types more e is = absurd (none-some (Function result types) is)
first_takes scope here role (Some base) (suc n) Trees.NoSuffixes result types more e is = cc
first_takes scope here role base stars (Trees.ArraySuffix size others) result types more e is =
    let outer : Checked CType = suffixes_type scope here Required (pointed stars base) others in
    let one : Checked CType = given outer (λ c_type. require (is_complete scope.structs c_type) T.T05 here (give c_type)) in
    let two : Checked ℕ = length_value here role outer.known (length_stated scope size) in
    let known = both_known one two (λ c_type n. give (Array c_type n)) (Function result types) e is in
    absurd (array_never known.first known.second known.gives)
  where
    array_never : (c_type : CType) (n : ℕ) → (give (Array c_type n)).known ≡ Some (Function result types) → ⊥
    array_never c_type n h = cc
first_takes scope here role base stars (Trees.FunctionSuffix list others) result types more e is =
    let outer : Checked CType = suffixes_type scope here Required (pointed stars base) others in
    let one : Checked CType = given outer (λ c_type. require (not (is_array c_type || is_function c_type)) T.T05 here (require (not (is_struct c_type)) T.T19 here (give c_type))) in
    let known = both_known one (list_types scope list) (λ c_type ts. give (Function c_type ts)) (Function result types) e is in
    record { none = known.two_none; known = known.two_known ∙ ap Some (by known.first known.second known.gives) }
  where
    by : (c_type : CType) (ts : CTypes) → (give (Function c_type ts)).known ≡ Some (Function result types) → ts ≡ types
    by c_type ts h = ap types_of (same_Some (Function c_type ts) (Function result types) h)

pointed_none : (base : Option CType) → pointed 0 base ≡ base
pointed_none None = refl
pointed_none (Some base) = refl

-- one that adds nothing says what is said in front of it
mutual
  pub adds_nothing : (scope : Scope) (here : Pos) (role : LengthRole) (base : Option CType) (declarator : DeclaratorTree) → adds declarator ≡ false → declared_type scope here role base declarator ≡ known_already base
  adds_nothing scope here role base (Trees.Declarator zero direct Trees.NoSuffixes) e = ap (λ k. direct_type scope here role (known_already k) direct) (pointed_none base) ∙ direct_nothing scope here role base direct e
  adds_nothing scope here role base (Trees.Declarator (suc n) direct Trees.NoSuffixes) e = absurd (true≢false e)
  adds_nothing scope here role base (Trees.Declarator zero direct (Trees.ArraySuffix size others)) e = absurd (true≢false e)
  adds_nothing scope here role base (Trees.Declarator (suc n) direct (Trees.ArraySuffix size others)) e = absurd (true≢false e)
  adds_nothing scope here role base (Trees.Declarator zero direct (Trees.FunctionSuffix list others)) e = absurd (true≢false e)
  adds_nothing scope here role base (Trees.Declarator (suc n) direct (Trees.FunctionSuffix list others)) e = absurd (true≢false e)

  direct_nothing : (scope : Scope) (here : Pos) (role : LengthRole) (base : Option CType) (direct : DirectTree) → direct_adds direct ≡ false → direct_type scope here role (known_already base) direct ≡ known_already base
  direct_nothing scope here role base (Trees.DeclaredName name) e = refl
  direct_nothing scope here role base (Trees.Nested declarator) e = adds_nothing scope here role base declarator e
  direct_nothing scope here role base Trees.NoName e = refl

plain_adds : (stars : ℕ) (direct : DirectTree) (suffixes : SuffixesTree) → direct_adds direct ≡ false → adds (Trees.Declarator stars direct suffixes) ≡ true → is_plain stars suffixes ≡ false
plain_adds zero direct Trees.NoSuffixes none e = absurd (true≢false (sym e ∙ none))
plain_adds (suc n) direct Trees.NoSuffixes none e = refl
plain_adds zero direct (Trees.ArraySuffix size others) none e = refl
plain_adds (suc n) direct (Trees.ArraySuffix size others) none e = refl
plain_adds zero direct (Trees.FunctionSuffix list others) none e = refl
plain_adds (suc n) direct (Trees.FunctionSuffix list others) none e = refl

pub own_takes : (scope : Scope) (here : Pos) (role : LengthRole) (base : Option CType) (declarator : DeclaratorTree) (result : CType) (types : CTypes) → adds declarator ≡ true
    → (declared_type scope here role base declarator).found ≡ [] → (declared_type scope here role base declarator).known ≡ Some (Function result types) → Takes scope (own_parameters declarator) types
own_takes scope here role base (Trees.Declarator stars (Trees.DeclaredName name) suffixes) result types more e is =
    first_takes scope here role base stars suffixes result types (plain_adds stars (Trees.DeclaredName name) suffixes refl more) e is
own_takes scope here role base (Trees.Declarator stars Trees.NoName suffixes) result types more e is =
    first_takes scope here role base stars suffixes result types (plain_adds stars Trees.NoName suffixes refl more) e is
own_takes scope here role base (Trees.Declarator stars (Trees.Nested declarator) suffixes) result types more e is =
    by (adds declarator) refl (λ inner_adds. own_takes scope here role outer.known declarator result types inner_adds parts.1 is)
  where
    outer : Checked CType
    outer = suffixes_type scope here (role_outside (Trees.Nested declarator) role) (pointed stars base) suffixes

    parts : (outer.found ≡ []) × ((declared_type scope here role outer.known declarator).found ≡ [])
    parts = both_none outer.found (declared_type scope here role outer.known declarator).found e

    by : (b : Bool) → adds declarator ≡ b → (adds declarator ≡ true → Takes scope (own_parameters declarator) types) → Takes scope (cond b (own_parameters declarator) (first_parameters suffixes)) types
    by true inner rest = rest inner
    by false inner rest =
        first_takes scope here (role_outside (Trees.Nested declarator) role) base stars suffixes result types (plain_adds stars (Trees.Nested declarator) suffixes inner more) parts.0
        (sym (ap (λ c. c.known) (adds_nothing scope here role outer.known declarator inner)) ∙ is)

-- ---- parameters as locals

scalar_complete : (structs : List StructDef) (c_type : CType) → is_scalar c_type ≡ true → is_complete structs c_type ≡ true
scalar_complete structs Void e = absurd (false≢true e)
scalar_complete structs (Integer int_type) e = refl
scalar_complete structs (Pointer target) e = refl
scalar_complete structs (Array element n) e = refl
scalar_complete structs (Struct tag) e = absurd (false≢true e)
scalar_complete structs (Function result parameters) e = absurd (false≢true e)

-- types are named alike at both places
abbrev pub NamesAlike : Scope → Scope → Type 0
NamesAlike scope outside = (here : Pos) (words : WordsTree) (named : OptionalTree) → (optional_type scope here Adjusted (words_type scope words) named).found ≡ []
    → optional_type outside here Adjusted (words_type outside words) named ≡ optional_type scope here Adjusted (words_type scope words) named

pub entered_same : (outside : Scope) (parameters : ParametersTree) (now : Scope) → SameOutside now (enter_parameters outside parameters now).scope
entered_same outside Trees.NoParameters now = record { structs = refl; file = refl; completed = refl; defined = refl }
entered_same outside (Trees.Parameter words declarator others) now =
    let behind = parameter_local outside words declarator (optional_name declarator) now in
    let one = local_same (optional_name declarator) in
    let rest = entered_same outside others behind in
    record { structs = one.structs ∙ rest.structs; file = one.file ∙ rest.file; completed = one.completed ∙ rest.completed; defined = one.defined ∙ rest.defined }
  where
    local_same : (name : Option NameTree) → SameOutside now (parameter_local outside words declarator name now)
    local_same None = record { structs = refl; file = refl; completed = refl; defined = refl }
    local_same (Some name) = record { structs = refl; file = refl; completed = refl; defined = refl }

local_fits : (structs : List StructDef) (c_type : CType) (known : Option CType) (locals : List LocalName) (types : List CType) (name : List ℕ) → known ≡ Some c_type → is_scalar c_type ≡ true → is_proper c_type ≡ true
    → LocalsFit structs locals types → LocalsFit structs (record { name = name; c_type = known } ∷ locals) (c_type ∷ types)
local_fits structs c_type known locals types name is scalar proper fits = (is, scalar_complete structs c_type scalar, proper, fits)

-- they are the types that the function takes, the newest first
pub entered_fits : (structs : List StructDef) (scope outside : Scope) → NamesAlike scope outside → ((here : Pos) (c_type : CType) → parameter_type outside here c_type ≡ parameter_type scope here c_type)
    → (names : List (List ℕ)) (parameters : ParametersTree) (types : CTypes) → are_proper types ≡ true → (parameter_types scope names parameters).found ≡ [] → (parameter_types scope names parameters).known ≡ Some types
    → (now : Scope) (locals : List CType) → (enter_parameters outside parameters now).found ≡ [] → LocalsFit structs (locals_in now) locals
    → LocalsFit structs (locals_in (enter_parameters outside parameters now).scope) (with_parameters (types_in types) locals)
entered_fits structs scope outside alike adjusts names Trees.NoParameters NoTypes proper e is now locals entered fits = fits
entered_fits structs scope outside alike adjusts names Trees.NoParameters (MoreTypes first rest) proper e is now locals entered fits = cc
entered_fits structs scope outside alike adjusts names (Trees.Parameter words declarator others) NoTypes proper e is now locals entered fits =
    let named : Checked CType = optional_type scope (name_place (optional_name declarator) words.place) Adjusted (words_type scope words) declarator in
    let two = both_known (one_parameter scope names words declarator named) (parameter_types scope (with_name (optional_name declarator) names) others) (λ c_type types. give (MoreTypes c_type types)) NoTypes e is in
    absurd (more_never two.first two.second two.gives)
  where
    more_never : (c_type : CType) (ts : CTypes) → (give (MoreTypes c_type ts)).known ≡ Some NoTypes → ⊥
    more_never c_type ts h = cc
entered_fits structs scope outside alike adjusts names (Trees.Parameter words declarator others) (MoreTypes first rest) proper e is now locals entered fits =
    entered_fits structs scope outside alike adjusts (with_name (optional_name declarator) names) others rest proper_parts.1 two.two_none (two.two_known ∙ ap Some second_is) behind (first ∷ locals) entered_parts.1
    (by (optional_name declarator) entered_parts.0 (both_none clash (given named (parameter_type scope (name_place (optional_name declarator) words.place))).found two.one_none).1 (two.one_known ∙ ap Some first_is))
  where
    named : Checked CType
    named = optional_type scope (name_place (optional_name declarator) words.place) Adjusted (words_type scope words) declarator

    clash : List Violation
    clash = name_clash names (optional_name declarator)

    two : TwoKnown (one_parameter scope names words declarator named) (parameter_types scope (with_name (optional_name declarator) names) others) (λ c_type types. give (MoreTypes c_type types)) (MoreTypes first rest)
    two = both_known (one_parameter scope names words declarator named) (parameter_types scope (with_name (optional_name declarator) names) others) (λ c_type types. give (MoreTypes c_type types)) (MoreTypes first rest) e is

    first_of : CTypes → CType
    first_of (MoreTypes c_type types) = c_type
    first_of NoTypes = Void

    others_of : CTypes → CTypes
    others_of (MoreTypes c_type types) = types
    others_of NoTypes = NoTypes

    whole : MoreTypes two.first two.second ≡ MoreTypes first rest
    whole = same_Some (MoreTypes two.first two.second) (MoreTypes first rest) two.gives

    first_is : two.first ≡ first
    first_is = ap first_of whole

    second_is : two.second ≡ rest
    second_is = ap others_of whole

    proper_parts : ((is_scalar first && is_proper first) ≡ true) × (are_proper rest ≡ true)
    proper_parts = and_parts (is_scalar first && is_proper first) (are_proper rest) proper

    scalar_parts : (is_scalar first ≡ true) × (is_proper first ≡ true)
    scalar_parts = and_parts (is_scalar first) (is_proper first) proper_parts.0

    behind : Scope
    behind = parameter_local outside words declarator (optional_name declarator) now

    entered_parts : (unnamed (optional_name declarator) words.place ≡ []) × ((enter_parameters outside others behind).found ≡ [])
    entered_parts = both_none (unnamed (optional_name declarator) words.place) (enter_parameters outside others behind).found entered

    by : (name : Option NameTree) → unnamed name words.place ≡ []
        → (given (optional_type scope (name_place name words.place) Adjusted (words_type scope words) declarator) (parameter_type scope (name_place name words.place))).found ≡ []
        → (given (optional_type scope (name_place name words.place) Adjusted (words_type scope words) declarator) (parameter_type scope (name_place name words.place))).known ≡ Some first
        → LocalsFit structs (locals_in (parameter_local outside words declarator name now)) (first ∷ locals)
    by None none one_none one_is = cc
    by (Some name) none one_none one_is =
        let inner = optional_type scope name.place Adjusted (words_type scope words) declarator in
        let same = alike name.place words declarator (both_none inner.found (with_known inner.known (parameter_type scope name.place)).found one_none).0 in
        let rule_same : parameter_type outside name.place ≡ parameter_type scope name.place = λ i c_type. adjusts name.place c_type i in
        local_fits structs first (given (optional_type outside name.place Adjusted (words_type outside words) declarator) (parameter_type outside name.place)).known (locals_in now) locals name.bytes
        ((λ i. (given (same i) (rule_same i)).known) ∙ one_is) scalar_parts.0 scalar_parts.1 fits
