-- Calls fit.
use Rattle.std.proofs.Common.{◌≡◌, ℕ, Bool, true, false, not, ◌&&◌, ◌||◌, if◌then◌else◌, length, List, [], ◌∷◌, Option, Some, None, bytes_eq, ◌⊎◌, refl, ap, sym, ◌∙◌}
use Rattle.std.proofs.lemmas.Bool.{false≢true, and_parts, and_from}
use Rattle.run_theory.specs.declared.place.Pos.{Pos}
use Rattle.c_rules.specs.declared.rule.TypeRule.TheVariants as T
use Rattle.c_typed.specs.declared.typed.LibraryFunction.{LibraryFunction}
use Rattle.c_typed.specs.Types.{CType, CTypes, Pointer, Function, NoTypes, MoreTypes, same_type, same_types, is_void, is_struct, is_array, is_function, decayed}
use Rattle.c_typed.specs.Typed as typed
use Rattle.c_typed.specs.Typed.{Value, Values}
use Rattle.c_typed.proofs.Same.{same_type-refl}
use Rattle.c_rules.specs.Names.{Scope, FileName, LocalName, Meaning, Local, Library, library_type, library_named, library_meaning, file_name, file_meaning, local_meaning, locals_in, meaning_of}
use Rattle.c_rules.specs.Known.{Known, TypedExpr, OfValue, OfObject, OfFunction, OfLibrary, give, with_known, value_of_type, value_from}
use Rattle.c_rules.specs.Operators.{fits, converted, ArgumentValue, as_many, passed_rule, passed, unconverted, is_free, call_of, call_value, called_as}
use Rattle.c_typed.specs.Context.{Context}
use Rattle.c_typed.specs.Expressions as well
use Rattle.c_typed.specs.Expressions.{where_holds, is_scalar, is_conversion, all_scalar, result_of, pointed_function, type_of, types_of, type_of_designator}
use Rattle.c_rules.specs.Proper.{is_proper, are_proper}
use Rattle.c_rules.specs.Fitting.{Yields, TypedFits, KnownFits, ValueFits}
use Rattle.c_rules.proofs.Yielding.{known_yields, give_yields, refuse_yields, require_yields, given_yields, given_two_yields}
use Rattle.c_rules.proofs.TypeSteps.{given_is, given_two_is, holds_is}
use Rattle.c_rules.proofs.ConversionsFit.{read_typed, converted_fits}
use Rattle.c_rules.proofs.Results.{value_result}

-- ---- arguments

-- the values of arguments are known, and fit
abbrev pub ArgumentsFit : Context → List ArgumentValue → Type 0
ArgumentsFit around [] = Unit {0}
ArgumentsFit around (argument ∷ arguments) = ((known : Known) × (argument.value ≡ Some known) × ValueFits around known) × ArgumentsFit around arguments

-- they fit the parameters, too
abbrev pub ArgumentsPass : Context → CTypes → List ArgumentValue → Type 0
ArgumentsPass around NoTypes [] = Unit {0}
ArgumentsPass around (MoreTypes first others) (argument ∷ arguments) =
    ((known : Known) × (argument.value ≡ Some known) × ValueFits around known × (fits first known ≡ true)) × ArgumentsPass around others arguments
ArgumentsPass around _ _ = ⊥

abbrev pub ValuesPass : Context → CTypes → List ArgumentValue → Values → Type 0
ValuesPass around parameters arguments values = (types_of around values ≡ Some parameters) × ArgumentsPass around parameters arguments

pub types_more : (around : Context) (value : Value) (values : Values) (t : CType) (others : CTypes) → type_of around value ≡ Some t → types_of around values ≡ Some others → types_of around (typed.MoreValues value values) ≡ Some (MoreTypes t others)
types_more around value values t others one rest = given_two_is (type_of around value) t (types_of around values) others (λ a types. Some (MoreTypes a types)) (MoreTypes t others) one rest refl

pub passed_yields : (around : Context) (whole : Pos) (parameters : CTypes) (arguments : List ArgumentValue) → as_many parameters arguments ≡ true → ArgumentsFit around arguments → Yields (ValuesPass around parameters arguments) (passed whole parameters arguments)
passed_yields around whole NoTypes [] many fit = give_yields (ValuesPass around NoTypes []) typed.NoValues (refl, tt)
passed_yields around whole (MoreTypes first others) (argument ∷ arguments) many fit =
    given_two_yields (λ value. (type_of around value ≡ Some first) × ((known : Known) × (argument.value ≡ Some known) × ValueFits around known × (fits first known ≡ true))) (ValuesPass around others arguments) (ValuesPass around (MoreTypes first others) (argument ∷ arguments))
    (with_known argument.value (passed_rule whole argument.place first)) (passed whole others arguments) (λ value values. give (typed.MoreValues value values))
    (known_yields (λ value. (type_of around value ≡ Some first) × ((known : Known) × (argument.value ≡ Some known) × ValueFits around known × (fits first known ≡ true))) argument.value known (passed_rule whole argument.place first) fit.0.1
    (require_yields (λ value. (type_of around value ≡ Some first) × ((known : Known) × (argument.value ≡ Some known) × ValueFits around known × (fits first known ≡ true))) (fits first known) T.T10 argument.place (give (converted whole first known))
    (λ holds none. (converted whole first known, refl, (converted_fits around whole first known fit.0.2 holds, (known, fit.0.1, fit.0.2, holds))))))
    (passed_yields around whole others arguments many fit.1)
    (λ value values one rest. give_yields (ValuesPass around (MoreTypes first others) (argument ∷ arguments)) (typed.MoreValues value values) (types_more around value values first others one.0 rest.0, (one.1, rest.1)))
  where
    known : Known
    known = fit.0.0
passed_yields around whole parameters arguments many fit = absurd (false≢true many)

-- ---- functions of the program

same_types-refl : (types : CTypes) → same_types types types ≡ true
same_types-refl NoTypes = refl
same_types-refl (MoreTypes first others) = and_from (same_type first first) (same_types others others) (same_type-refl first) (same_types-refl others)

call_type : (around : Context) (whole : Pos) (function : typed.Designator) (result : CType) (parameters : CTypes) (values : Values) → type_of_designator around function ≡ Some (Function result parameters) → types_of around values ≡ Some parameters
    → all_scalar parameters ≡ true → (is_scalar result || is_void result) ≡ true → type_of around (typed.Call true whole function (Function result parameters) values) ≡ Some result
call_type around whole function result parameters values one other scalars kind =
    given_two_is (type_of_designator around function) (Function result parameters) (types_of around values) parameters (λ t types. well.given (result_of types t) (λ r. where_holds (same_type t (Function result parameters)) r)) result one other
    (given_is (result_of parameters (Function result parameters)) result (λ r. where_holds (same_type (Function result parameters) (Function result parameters)) r) result
    (holds_is (all_scalar parameters && same_types parameters parameters && (is_scalar result || is_void result)) result
    (and_from (all_scalar parameters && same_types parameters parameters) (is_scalar result || is_void result) (and_from (all_scalar parameters) (same_types parameters parameters) scalars (same_types-refl parameters)) kind))
    (holds_is (same_type (Function result parameters) (Function result parameters)) result (same_type-refl (Function result parameters))))

-- a value that is called is a pointer to the function, and no conversion
through_type : (around : Context) (whole : Pos) (value : Value) (t : CType) (result : CType) (parameters : CTypes) → type_of around value ≡ Some t → is_conversion value ≡ false → t ≡ Pointer (Function result parameters)
    → type_of_designator around (typed.ThroughPointer whole value) ≡ Some (Function result parameters)
through_type around whole value t result parameters is none same =
    ap {B = Option CType} (λ (b : Bool). if b then None else well.given (type_of around value) pointed_function) none
    ∙ given_is (type_of around value) (Pointer (Function result parameters)) pointed_function (Function result parameters) (is ∙ ap Some same) refl

-- the type of a function that a function's name stands for
function_is : (t result : CType) (parameters : CTypes) → is_function t ≡ true → decayed t ≡ Pointer (Function result parameters) → t ≡ Function result parameters
function_is (Function own types) result parameters is same = cc
function_is t result parameters is same = absurd (false≢true is)

call_fits : (around : Context) (whole : Pos) (known : Known) (expression : TypedExpr) (result : CType) (parameters : CTypes) (arguments : List ArgumentValue) (passing : Values) → TypedFits around known.c_type expression → not (is_struct known.c_type) ≡ true
    → is_proper known.c_type ≡ true → decayed known.c_type ≡ Pointer (Function result parameters) → types_of around passing ≡ Some parameters → all_scalar parameters ≡ true → (is_scalar result || is_void result) ≡ true
    → (type_of around (call_of whole (is_array known.c_type) expression (Function result parameters) (if is_free expression then unconverted arguments else passing)) ≡ Some result)
    × (is_conversion (call_of whole (is_array known.c_type) expression (Function result parameters) (if is_free expression then unconverted arguments else passing)) ≡ false)
call_fits around whole known (OfFunction function) result parameters arguments passing fit plain proper same given_types scalars kind =
    (call_type around whole function result parameters passing (fit.0 ∙ ap Some (function_is known.c_type result parameters fit.1 same)) given_types scalars kind, refl)
call_fits around whole known (OfValue value) result parameters arguments passing fit plain proper same given_types scalars kind =
    let read = read_typed around whole known.c_type (OfValue value) fit plain proper in
    (call_type around whole (typed.ThroughPointer whole (value_from whole known.c_type (OfValue value))) result parameters passing (through_type around whole (value_from whole known.c_type (OfValue value)) (decayed known.c_type) result parameters read.0 read.1 same) given_types scalars kind, refl)
call_fits around whole known (OfObject object) result parameters arguments passing fit plain proper same given_types scalars kind =
    let read = read_typed around whole known.c_type (OfObject object) fit plain proper in
    (call_type around whole (typed.ThroughPointer whole (value_from whole known.c_type (OfObject object))) result parameters passing (through_type around whole (value_from whole known.c_type (OfObject object)) (decayed known.c_type) result parameters read.0 read.1 same) given_types scalars kind, refl)
call_fits around whole known (OfLibrary function groups) result parameters arguments passing fit plain proper same given_types scalars kind = absurd fit

proper_scalars : (types : CTypes) → are_proper types ≡ true → all_scalar types ≡ true
proper_scalars NoTypes proper = refl
proper_scalars (MoreTypes first others) proper =
    let outer = and_parts (is_scalar first && is_proper first) (are_proper others) proper in
    and_from (is_scalar first) (all_scalar others) (and_parts (is_scalar first) (is_proper first) outer.0).0 (proper_scalars others outer.1)

function_parts : (result : CType) (parameters : CTypes) → is_proper (Function result parameters) ≡ true
    → ((is_scalar result || is_void result) ≡ true) × (is_proper result ≡ true) × (all_scalar parameters ≡ true)
function_parts result parameters proper =
    let outer = and_parts ((is_scalar result || is_void result) && is_proper result) (are_proper parameters) proper in
    let inner = and_parts (is_scalar result || is_void result) (is_proper result) outer.0 in
    (inner.0, inner.1, proper_scalars parameters outer.1)

pub called_yields : (around : Context) (whole : Pos) (known : Known) (arguments : List ArgumentValue) → KnownFits around known → not (is_struct known.c_type) ≡ true → ArgumentsFit around arguments
    → (t : CType) → decayed known.c_type ≡ t → is_proper t ≡ true → Yields (KnownFits around) (called_as whole known t arguments)
called_yields around whole known arguments fit plain all (Pointer (Function result parameters)) same proper =
    require_yields (KnownFits around) (as_many parameters arguments) T.T13 whole _
    (λ many. given_yields (ValuesPass around parameters arguments) (KnownFits around) (passed whole parameters arguments) _ (passed_yields around whole parameters arguments many all)
    (λ values pass. let parts = function_parts result parameters proper in
    let call = call_fits around whole known known.typed result parameters arguments values fit.typed plain fit.proper same pass.0 parts.2 parts.0 in
    give_yields (KnownFits around) _ (value_result around result (call_value whole known (Function result parameters) arguments values) call.0 call.1 parts.0 parts.1)))
called_yields around whole known arguments fit plain all (Pointer t) same proper = refuse_yields (KnownFits around) T.T12 whole
called_yields around whole known arguments fit plain all t same proper = refuse_yields (KnownFits around) T.T12 whole

-- ---- library functions

abbrev pub library_known : LibraryFunction → ℕ → Known
library_known function groups = record (value_of_type (library_type function) typed.NullPointer) { typed = OfLibrary function groups }

abbrev pub IsLibrary : Known → Type 0
IsLibrary known = (function : LibraryFunction) × (groups : ℕ) × (known ≡ library_known function groups)

-- what is called: an expression that fits, or a library function
abbrev pub CalleeFits : Context → Known → Type 0
CalleeFits around known = KnownFits around known ⊎ IsLibrary known

meaning_local : (names : List LocalName) (name : List ℕ) (outside : Meaning) (function : LibraryFunction) (t : CType) → local_meaning names name outside ≡ Library function t → outside ≡ Library function t
meaning_local [] name outside function t is = is
meaning_local (newest ∷ names) name outside function t is = by (bytes_eq newest.name name) is (meaning_local names name outside function t)
  where
    by : (b : Bool) → ◌≡◌ {A = Meaning} (if b then Local (length names) newest.c_type else local_meaning names name outside) (Library function t) → (local_meaning names name outside ≡ Library function t → outside ≡ Library function t) → outside ≡ Library function t
    by true h rest = cc
    by false h rest = rest h

meaning_outside : (entry : Option FileName) (name : List ℕ) (function : LibraryFunction) (t : CType) → file_meaning entry name ≡ Library function t → t ≡ library_type function
meaning_outside (Some entry) name function t is = cc
meaning_outside None name function t is = by (library_named name) is
  where
    by : (option : Option LibraryFunction) → library_meaning option ≡ Library function t → t ≡ library_type function
    by (Some found) h = let same : found ≡ function = cc in let typed_as : library_type found ≡ t = cc in sym typed_as ∙ ap library_type same
    by None h = cc

pub meaning_type : (scope : Scope) (name : List ℕ) (function : LibraryFunction) (t : CType) → meaning_of scope name ≡ Library function t → t ≡ library_type function
meaning_type scope name function t is = meaning_outside (file_name scope.file name) name function t (meaning_local (locals_in scope) name (file_meaning (file_name scope.file name) name) function t is)
