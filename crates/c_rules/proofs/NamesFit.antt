-- Names and literals fit.
use Rattle.std.proofs.Common.{◌≡◌, ℕ, ◌<◌, Bool, true, false, ◌==◌, cond, List, [], ◌∷◌, length, Option, Some, None, is_some, bytes_eq, refl, ap, sym, ◌∙◌, subst, arith}
use Rattle.std.proofs.lemmas.Bool.{false≢true, eqb-true, eq-eqb}
use Rattle.std.proofs.lemmas.Slice.Eq.{bytes_eq-Decides}
use Rattle.run_theory.specs.declared.place.Pos.{Pos}
use Rattle.c_syntax.specs.Trees.{NameTree}
use Rattle.c_rules.specs.declared.rule.TypeRule.TheVariants as T
use Rattle.c_typed.specs.Names.{contains}
use Rattle.c_typed.specs.Types.{CType, Void, Integer, Pointer, Array, Struct, Function, literal_type}
use Rattle.c_typed.specs.Layouts.{StructDef, is_complete}
use Rattle.c_typed.specs.Values.{StaticVariable, StaticLiteral}
use Rattle.c_typed.specs.Typed as typed
use Rattle.c_rules.specs.Names.{Scope, FileName, LocalName, Meaning, file_name, file_meaning, library_meaning, library_named, local_meaning, locals_in}
use Rattle.c_rules.specs.Known.{Element, NoAddress, give, object_at}
use Rattle.c_rules.specs.Operators.{of_type, outer_name, name_as, named}
use Rattle.c_typed.specs.Context.{Context, local_type, global_type, literal_bytes}
use Rattle.c_typed.specs.Expressions.{given, where_holds}
use Rattle.c_typed.specs.Programs.{one_of, row_at}
use Rattle.c_rules.specs.Proper.{is_proper}
use Rattle.c_rules.specs.Fitting.{Fits, LocalsFit, OuterFits, Yields, KnownFits}
use Rattle.c_rules.proofs.Yielding.{either_case, give_yields, refuse_yields, unless_yields}
use Rattle.c_rules.proofs.TypeSteps.{given_is, holds_is}
use Rattle.c_rules.proofs.Results.{object_result}

-- ---- locals

same_length : (structs : List StructDef) (names : List LocalName) (types : List CType) → LocalsFit structs names types → length names ≡ length types
same_length structs [] [] fit = refl
same_length structs (name ∷ names) (t ∷ types) fit = let others = same_length structs names types fit.3 in omega arith
same_length structs [] (t ∷ types) fit = absurd fit
same_length structs (name ∷ names) [] fit = absurd fit

local_below : (types : List CType) (number : ℕ) (t : CType) → local_type types number ≡ Some t → number < length types
local_below [] number t is = cc
local_below (newest ∷ others) number t is = by (length others == number) refl is (local_below others number t)
  where
    by : (b : Bool) → (length others == number) ≡ b → cond b (Some newest) (local_type others number) ≡ Some t → (local_type others number ≡ Some t → number < length others) → number < length (newest ∷ others)
    by true same h below = let e : length others ≡ number = eqb-true (length others) number same in omega arith
    by false differs h below = let under = below h in omega arith

-- an older local keeps its number
local_more : (newest : CType) (others : List CType) (number : ℕ) (t : CType) → local_type others number ≡ Some t → local_type (newest ∷ others) number ≡ Some t
local_more newest others number t is = by (length others == number) refl
  where
    by : (b : Bool) → (length others == number) ≡ b → cond b (Some newest) (local_type others number) ≡ Some t
    by true same = let e : length others ≡ number = eqb-true (length others) number same in let below = local_below others number t is in absurd (omega arith)
    by false differs = is

local_newest : (newest : CType) (others : List CType) (number : ℕ) → number ≡ length others → local_type (newest ∷ others) number ≡ Some newest
local_newest newest others number is = let same : (length others == number) ≡ true = eq-eqb (length others) number (sym is) in rw same refl

locals_yield : (scope : Scope) (around : Context) (structs : List StructDef) (names : List LocalName) (types : List CType) (name : NameTree) (outside : Meaning) → LocalsFit structs names types
    → ((number : ℕ) (t : CType) → local_type types number ≡ Some t → is_complete structs t ≡ true → is_proper t ≡ true → KnownFits around (object_at t (typed.Local number) NoAddress))
    → Yields (KnownFits around) (name_as scope name outside) → Yields (KnownFits around) (name_as scope name (local_meaning names name.bytes outside))
locals_yield scope around structs [] types name outside fit found otherwise = otherwise
locals_yield scope around structs (newest ∷ names) (t ∷ types) name outside fit found otherwise =
    either_case (λ (meaning : Meaning). Yields (KnownFits around) (name_as scope name meaning)) (bytes_eq newest.name name.bytes) _ _
    (λ here. subst (λ option. Yields (KnownFits around) (of_type option (λ known. give (object_at known (typed.Local (length names)) NoAddress)))) (sym fit.0)
    (give_yields (KnownFits around) _ (found (length names) t (local_newest t types (length names) (same_length structs names types fit.3)) fit.1 fit.2)))
    (λ other. locals_yield scope around structs names types name outside fit.3 (λ number older is. found number older (local_more t types number older is)) otherwise)
locals_yield scope around structs (newest ∷ names) [] name outside fit found otherwise = absurd fit

-- ---- names outside functions

outer_object : (around : Context) (name : NameTree) (t : CType) → global_type around.program.globals name.bytes ≡ Some t → is_complete around.program.structs t ≡ true → is_proper t ≡ true
    → Yields (KnownFits around) (give (object_at t (typed.Global name.bytes) (Element (StaticVariable name.bytes) [] t 1 0)))
outer_object around name t is complete proper =
    give_yields (KnownFits around) _ (object_result around t (typed.Global name.bytes) (Element (StaticVariable name.bytes) [] t 1 0) is complete proper
    (record { row = ap (λ o. given o (λ c_type. row_at around.program.structs (one_of c_type) [])) is; within = omega arith }, refl))

outer_yields : (scope : Scope) (around : Context) (name : NameTree) (t : CType) → OuterFits scope.defined around.program name.bytes t → is_proper t ≡ true → Yields (KnownFits around) (outer_name scope name t)
outer_yields scope around name (Function result parameters) fit proper =
    unless_yields (KnownFits around) (contains scope.defined name.bytes) T.T23 name.place _
    (λ defined. give_yields (KnownFits around) _ (record { typed = (fit defined, refl); proper = proper; null = λ null. absurd (false≢true null); address = (ap is_some (fit defined), refl, tt) }))
outer_yields scope around name Void fit proper = outer_object around name Void fit.0 fit.1 proper
outer_yields scope around name (Integer n) fit proper = outer_object around name (Integer n) fit.0 fit.1 proper
outer_yields scope around name (Pointer target) fit proper = outer_object around name (Pointer target) fit.0 fit.1 proper
outer_yields scope around name (Array element n) fit proper = outer_object around name (Array element n) fit.0 fit.1 proper
outer_yields scope around name (Struct tag) fit proper = outer_object around name (Struct tag) fit.0 fit.1 proper

file_yields : (scope : Scope) (around : Context) → Fits scope around → (name : NameTree) (option : Option FileName) → file_name scope.file name.bytes ≡ option → Yields (KnownFits around) (name_as scope name (file_meaning option name.bytes))
file_yields scope around fits name (Some entry) is = by entry.c_type refl
  where
    by : (option : Option CType) → entry.c_type ≡ option → Yields (KnownFits around) (of_type option (outer_name scope name))
    by (Some t) has = let fit = fits.outer name.bytes entry t is has in outer_yields scope around name t fit.0 fit.1
    by None has = absurd (false≢true (sym (ap is_some has) ∙ fits.known name.bytes entry is))
file_yields scope around fits name None is = by (library_named name.bytes)
  where
    by : (option : Option _) → Yields (KnownFits around) (name_as scope name (library_meaning option))
    by (Some function) = refuse_yields (KnownFits around) T.T23 name.place
    by None = refuse_yields (KnownFits around) T.T03 name.place

pub named_yields : (scope : Scope) (around : Context) → Fits scope around → (name : NameTree) → Yields (KnownFits around) (named scope name)
named_yields scope around fits name =
    locals_yield scope around around.program.structs (locals_in scope) around.locals name (file_meaning (file_name scope.file name.bytes) name.bytes) fits.locals
    (λ number t is complete proper. object_result around t (typed.Local number) NoAddress is complete proper tt)
    (file_yields scope around fits name (file_name scope.file name.bytes) refl)

-- ---- literals

pub literal_fits : (around : Context) (place : Pos) (bytes : List ℕ) → literal_bytes around.program.literals place ≡ Some bytes
    → KnownFits around (object_at (literal_type bytes) (typed.Literal place bytes) (Element (StaticLiteral place) [] (literal_type bytes) 1 0))
literal_fits around place bytes is =
    object_result around (literal_type bytes) (typed.Literal place bytes) (Element (StaticLiteral place) [] (literal_type bytes) 1 0)
    (given_is (literal_bytes around.program.literals place) bytes (λ listed. where_holds (bytes_eq listed bytes) (literal_type bytes)) (literal_type bytes) is (holds_is (bytes_eq bytes bytes) (literal_type bytes) ((bytes_eq-Decides bytes bytes).1 refl)))
    refl refl
    (record { row = ap (λ o. given (given o (λ listed. Some (literal_type listed))) (λ c_type. row_at around.program.structs (one_of c_type) [])) is; within = omega arith }, refl)
