-- Calls of library functions fit, and calls of whatever is called.
use Rattle.std.proofs.Common.{◌≡◌, ℕ, suc, Bool, true, false, not, ◌||◌, List, [], ◌∷◌, Some, inl, inr, refl, ap, sym, ◌∙◌, subst}
use Rattle.std.proofs.lemmas.Bool.{false≢true}
use Rattle.run_theory.specs.declared.place.Pos.{Pos}
use Rattle.c_num.specs.declared.IntType.TheVariants as I
use Rattle.c_syntax.specs.Trees
use Rattle.c_syntax.specs.Trees.{ExprTree}
use Rattle.c_rules.specs.declared.rule.TypeRule.TheVariants as T
use Rattle.c_typed.specs.declared.typed.LibraryFunction.{LibraryFunction}
use Rattle.c_typed.specs.declared.typed.LibraryFunction.TheVariants as L
use Rattle.c_typed.specs.Types.{CType, CTypes, Void, Integer, Pointer, Function, NoTypes, MoreTypes, int, is_struct, is_void, is_object_pointer, decayed}
use Rattle.c_typed.specs.Typed as typed
use Rattle.c_rules.specs.Names.{Scope, Meaning, NoMeaning, Local, Outer, Library, library_type, meaning_of}
use Rattle.c_rules.specs.Known.{Checked, Known, given, give, require, value_of_type}
use Rattle.c_rules.specs.Operators.{pointer_fits, ArgumentValue, Arguments, as_many, passed, unconverted, unconverted_argument, called_as, call_rule, call}
use Rattle.c_rules.specs.Expressions.{library_called}
use Rattle.c_typed.specs.Context.{Context}
use Rattle.c_typed.specs.Expressions.{is_scalar, library_result, type_of, types_of}
use Rattle.c_rules.specs.Proper.{is_proper}
use Rattle.c_rules.specs.Fitting.{Yields, KnownFits}
use Rattle.c_rules.proofs.Yielding.{none_left, none_right, give_yields, unless_yields, require_yields, given_yields}
use Rattle.c_rules.proofs.TypeSteps.{given_is, holds_is}
use Rattle.c_rules.proofs.ConversionsFit.{read_proper}
use Rattle.c_rules.proofs.Results.{value_result}
use Rattle.c_rules.proofs.AgreementsFit.{unconverted_as, unconverted_type}
use Rattle.c_rules.proofs.CallsFit.{ArgumentsFit, ArgumentsPass, ValuesPass, passed_yields, called_yields, types_more, library_known, CalleeFits, meaning_type}

-- ---- library functions

plain_library : (around : Context) (whole : Pos) (function : LibraryFunction) (groups : ℕ) (arguments : List ArgumentValue) (result : CType) (parameters : CTypes) → library_result function parameters ≡ Some result
    → (is_scalar result || is_void result) ≡ true → is_proper result ≡ true → ArgumentsFit around arguments
    → Yields (KnownFits around) (require (as_many parameters arguments) T.T13 whole (given (passed whole parameters arguments) (λ values. give (value_of_type result (typed.LibraryCall function groups whole values)))))
plain_library around whole function groups arguments result parameters is kind proper all =
    require_yields (KnownFits around) (as_many parameters arguments) T.T13 whole _
    (λ many. given_yields (ValuesPass around parameters arguments) (KnownFits around) (passed whole parameters arguments) _ (passed_yields around whole parameters arguments many all)
    (λ values pass. give_yields (KnownFits around) _ (value_result around result (typed.LibraryCall function groups whole values)
    (given_is (types_of around values) parameters (library_result function) result pass.0 is) refl kind proper)))

object_of_void : (t : CType) → pointer_fits (Pointer Void) t ≡ true → is_object_pointer t ≡ true
object_of_void (Pointer (Function result parameters)) holds = absurd (false≢true holds)
object_of_void (Pointer t) holds = refl
object_of_void t holds = absurd (false≢true holds)

free_object : (t : CType) (n : Bool) → (n || pointer_fits (Pointer Void) t) ≡ true → is_object_pointer (unconverted_as Void t n) ≡ true
free_object t true holds = refl
free_object t false holds = object_of_void t holds

-- the types of what `free` is given
free_types : (around : Context) (arguments : List ArgumentValue) → ArgumentsPass around (MoreTypes (Pointer Void) NoTypes) arguments
    → (t : CType) × (types_of around (unconverted arguments) ≡ Some (MoreTypes t NoTypes)) × (is_object_pointer t ≡ true)
free_types around (argument ∷ []) pass = (t, types_more around (unconverted_argument argument.value) typed.NoValues t NoTypes own refl, free_object known.c_type known.is_null pass.0.3)
  where
    known : Known
    known = pass.0.0

    t : CType
    t = unconverted_as Void known.c_type known.is_null

    own : type_of around (unconverted_argument argument.value) ≡ Some t
    own = ap (λ o. type_of around (unconverted_argument o)) pass.0.1 ∙ unconverted_type around Void known pass.0.2
free_types around (argument ∷ other ∷ arguments) pass = absurd pass.1
free_types around [] pass = absurd pass

free_yields : (around : Context) (whole : Pos) (groups : ℕ) (arguments : List ArgumentValue) → ArgumentsFit around arguments → Yields (KnownFits around) (call_rule whole (library_known L.Free groups) arguments)
free_yields around whole groups arguments all =
    require_yields (KnownFits around) (as_many (MoreTypes (Pointer Void) NoTypes) arguments) T.T13 whole _
    (λ many. given_yields (ValuesPass around (MoreTypes (Pointer Void) NoTypes) arguments) (KnownFits around) (passed whole (MoreTypes (Pointer Void) NoTypes) arguments) _ (passed_yields around whole (MoreTypes (Pointer Void) NoTypes) arguments many all)
    (λ values pass. let types = free_types around arguments pass.1 in
    give_yields (KnownFits around) _ (value_result around Void (typed.LibraryCall L.Free groups whole (unconverted arguments))
    (given_is (types_of around (unconverted arguments)) (MoreTypes types.0 NoTypes) (library_result L.Free) Void types.1 (holds_is (is_object_pointer types.0) Void types.2)) refl refl refl)))

library_yields : (around : Context) (whole : Pos) (function : LibraryFunction) (groups : ℕ) (arguments : List ArgumentValue) → ArgumentsFit around arguments → Yields (KnownFits around) (call_rule whole (library_known function groups) arguments)
library_yields around whole L.Malloc groups arguments all = plain_library around whole L.Malloc groups arguments (Pointer Void) (MoreTypes (Integer I.ULong) NoTypes) refl refl refl all
library_yields around whole L.Free groups arguments all = free_yields around whole groups arguments all
library_yields around whole L.GetChar groups arguments all = plain_library around whole L.GetChar groups arguments int NoTypes refl refl refl all
library_yields around whole L.PutChar groups arguments all = plain_library around whole L.PutChar groups arguments int (MoreTypes int NoTypes) refl refl refl all
library_yields around whole L.Exit groups arguments all = plain_library around whole L.Exit groups arguments Void (MoreTypes int NoTypes) refl refl refl all

-- ---- what is called

as_callee : (around : Context) (checked : Checked Known) → Yields (KnownFits around) checked → Yields (CalleeFits around) checked
as_callee around checked yields none = let known = yields none in (known.0, known.1, inl known.2)

library_known_yields : (around : Context) (function : LibraryFunction) (groups : ℕ) (t : CType) → t ≡ library_type function → Yields (CalleeFits around) (give (record (library_known function groups) { c_type = t }))
library_known_yields around function groups t is none = (record (library_known function groups) { c_type = t }, refl, inr (function, groups, λ i. record (library_known function groups) { c_type = is i }))

pub library_called_yields : (scope : Scope) (around : Context) (groups : ℕ) (e : ExprTree) (otherwise : Checked Known) → Yields (KnownFits around) otherwise → Yields (CalleeFits around) (library_called scope groups e otherwise)
library_called_yields scope around groups (Trees.Named name) otherwise yields = by (meaning_of scope name.bytes) refl
  where
    by : (meaning : Meaning) → meaning_of scope name.bytes ≡ meaning → Yields (CalleeFits around) (library_called scope groups (Trees.Named name) otherwise)
    by (Library function t) is = rw is (library_known_yields around function groups t (meaning_type scope name.bytes function t is))
    by (Local number t) is = rw is (as_callee around otherwise yields)
    by (Outer t) is = rw is (as_callee around otherwise yields)
    by NoMeaning is = rw is (as_callee around otherwise yields)
library_called_yields scope around groups (Trees.Parenthesized place inner) otherwise yields = library_called_yields scope around (suc groups) inner otherwise yields
library_called_yields scope around groups e otherwise yields = as_callee around otherwise yields

pub call_yields : (around : Context) (whole : Pos) (function : Checked Known) (arguments : Arguments) → Yields (CalleeFits around) function → (arguments.found ≡ [] → ArgumentsFit around arguments.values)
    → Yields (KnownFits around) (call whole function arguments)
call_yields around whole function arguments callee all none =
    given_yields (CalleeFits around) (KnownFits around) function (λ known. call_rule whole known arguments.values) callee by (none_right arguments.found _ none)
  where
    fit : ArgumentsFit around arguments.values
    fit = all (none_left arguments.found _ none)

    by : (known : Known) → CalleeFits around known → Yields (KnownFits around) (call_rule whole known arguments.values)
    by known (inl own) =
        unless_yields (KnownFits around) (not (is_struct known.c_type)) T.T19 whole (called_as whole known (decayed known.c_type) arguments.values)
        (λ plain. called_yields around whole known arguments.values own plain fit (decayed known.c_type) refl (read_proper known.c_type own.proper))
    by known (inr (function, groups, is)) = subst (λ k. Yields (KnownFits around) (call_rule whole k arguments.values)) (sym is) (library_yields around whole function groups arguments.values fit)
