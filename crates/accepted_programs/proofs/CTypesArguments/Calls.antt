-- Calls have few arguments where types are narrow.
use Rattle.std.proofs.Common.{arith, ◌≤◌, ◌≡◌, ℕ, suc, Bool, cond, List, [], ◌∷◌, Option, Some, None, refl}
use Rattle.run_theory.specs.declared.place.Pos.{Pos}
use Rattle.c_syntax.specs.Trees
use Rattle.c_syntax.specs.Trees.{ExprTree}
use Rattle.c_rules.specs.declared.rule.TypeRule.TheVariants as T
use Rattle.c_typed.specs.Types.{CType, CTypes, Pointer, Function, NoTypes, MoreTypes, is_array, decayed}
use Rattle.c_typed.specs.Typed as typed
use Rattle.c_typed.specs.Typed.{Values}
use Rattle.c_typed.specs.TypedArguments.{count_values, greatest_arguments, ValueFew, ValuesFew}
use Rattle.c_rules.specs.Names.{Scope, Meaning, NoMeaning, Local, Outer, Library, meaning_of}
use Rattle.c_rules.specs.Known.{Checked, Known, TypedExpr, OfValue, OfObject, OfFunction, OfLibrary, with_known, give}
use Rattle.c_rules.specs.Operators.{ArgumentValue, Arguments, converted, fits, as_many, passed_rule, passed, unconverted_argument, unconverted, is_free, call_of, called_as, call_rule, call}
use Rattle.c_rules.specs.Expressions.{library_called}
use Rattle.accepted_programs.specs.Small.{IfKnown, Knows, Every}
use Rattle.accepted_programs.specs.Narrow.{IsNarrow, AreNarrow, NarrowNames, MeaningNarrow, TypedFew, KnownNarrow, ArgumentNarrow}
use Rattle.accepted_programs.proofs.CTypesSizes.Holding.{by_test, gives, refuses, beside, required, of_known, of_part, of_two}
use Rattle.c_types.specs.Limits.{count_types}
use Rattle.accepted_programs.proofs.CTypesArguments.Types.{decayed_narrow}
use Rattle.accepted_programs.proofs.CTypesArguments.Operands.{value_narrow, converted_narrow, unconverted_narrow, meaning_narrow}

-- few arguments, no more than the parameters of these types
abbrev PassedFew : CTypes → Values → Type 0
PassedFew parameters values = ValuesFew values × (count_values values ≤ count_types parameters)

-- ---- arguments

passed_narrow : (whole : Pos) (parameters : CTypes) → AreNarrow parameters → count_types parameters ≤ 64 → (arguments : List ArgumentValue) → Every ArgumentNarrow arguments → Knows (PassedFew parameters) (passed whole parameters arguments)
passed_narrow whole NoTypes narrow few arguments all = gives typed.NoValues (tt, omega arith)
passed_narrow whole (MoreTypes first others) narrow few [] all = gives typed.NoValues (tt, omega arith)
passed_narrow whole (MoreTypes first others) narrow few (argument ∷ arguments) all =
    of_two ValueFew (PassedFew others) (PassedFew (MoreTypes first others)) (with_known argument.value (passed_rule whole argument.place first)) (passed whole others arguments)
    (λ value values. give (typed.MoreValues value values))
    (of_known KnownNarrow ValueFew argument.value (passed_rule whole argument.place first) all.0
    (λ known is. required (fits first known) T.T10 argument.place (give (converted whole first known)) (gives (converted whole first known) (converted_narrow whole first known narrow.0 is))))
    (passed_narrow whole others narrow.1 (omega (arith, few)) arguments all.1)
    (λ value values one rest. let low = rest.1 in gives (typed.MoreValues value values) ((one, rest.0), omega (arith, few, low)))

one_unconverted : (known : Option Known) → IfKnown KnownNarrow known → ValueFew (unconverted_argument known)
one_unconverted None narrow = tt
one_unconverted (Some known) narrow = unconverted_narrow _ known narrow

all_unconverted : (arguments : List ArgumentValue) → Every ArgumentNarrow arguments → ValuesFew (unconverted arguments)
all_unconverted [] all = tt
all_unconverted (argument ∷ arguments) all = (one_unconverted argument.value all.0, all_unconverted arguments all.1)

-- ---- what is called

call_of_narrow : (whole : Pos) (is_array : Bool) (expression : TypedExpr) (t : CType) (arguments : List ArgumentValue) (values : Values) → TypedFew expression → Every ArgumentNarrow arguments → ValuesFew values
    → count_values values ≤ greatest_arguments → ValueFew (call_of whole is_array expression t (cond (is_free expression) (unconverted arguments) values))
call_of_narrow whole b (OfLibrary function groups) t arguments values narrow all pass few =
    by_test ValuesFew (is_free (OfLibrary function groups)) (unconverted arguments) values (all_unconverted arguments all) pass
call_of_narrow whole b (OfFunction function) t arguments values narrow all pass few = ((narrow, pass), few)
call_of_narrow whole b (OfValue value) t arguments values narrow all pass few = ((value_narrow whole b (OfValue value) narrow, pass), few)
call_of_narrow whole b (OfObject object) t arguments values narrow all pass few = ((value_narrow whole b (OfObject object) narrow, pass), few)

called_narrow : (whole : Pos) (function : Known) → KnownNarrow function → (t : CType) → IsNarrow t → (arguments : List ArgumentValue) → Every ArgumentNarrow arguments
    → Knows KnownNarrow (called_as whole function t arguments)
called_narrow whole function is (Pointer (Function result parameters)) narrow arguments all =
    let few = narrow.1 in
    required (as_many parameters arguments) T.T13 whole _
    (of_part (PassedFew parameters) KnownNarrow (passed whole parameters arguments) _ (passed_narrow whole parameters narrow.0.1 few arguments all)
    (λ values pass. let low = pass.1 in
    gives _ (narrow.0.0, call_of_narrow whole (is_array function.c_type) function.typed (Function result parameters) arguments values is.1 all pass.0 (omega (arith, few, low)))))
called_narrow whole function is (Pointer t) narrow arguments all = refuses T.T12 whole
called_narrow whole function is t narrow arguments all = refuses T.T12 whole

pub call_narrow : (whole : Pos) (function : Checked Known) (arguments : Arguments) → Knows KnownNarrow function → Every ArgumentNarrow arguments.values → Knows KnownNarrow (call whole function arguments)
call_narrow whole function arguments narrow all =
    beside arguments.found _ (of_part KnownNarrow KnownNarrow function (λ known. call_rule whole known arguments.values) narrow
    (λ known is. beside _ (called_as whole known (decayed known.c_type) arguments.values) (called_narrow whole known is (decayed known.c_type) (decayed_narrow known.c_type is.0) arguments.values all)))

pub library_called_narrow : (scope : Scope) → NarrowNames scope → (groups : ℕ) (e : ExprTree) (otherwise : Checked Known) → Knows KnownNarrow otherwise → Knows KnownNarrow (library_called scope groups e otherwise)
library_called_narrow scope names groups (Trees.Named name) otherwise narrow = by (meaning_of scope name.bytes) refl (meaning_narrow scope names name.bytes)
  where
    by : (meaning : Meaning) → meaning_of scope name.bytes ≡ meaning → MeaningNarrow meaning → Knows KnownNarrow (library_called scope groups (Trees.Named name) otherwise)
    by (Library function t) is of_it = rw is (gives _ (of_it, tt))
    by (Local number t) is of_it = rw is narrow
    by (Outer t) is of_it = rw is narrow
    by NoMeaning is of_it = rw is narrow
library_called_narrow scope names groups (Trees.Parenthesized place inner) otherwise narrow = library_called_narrow scope names (suc groups) inner otherwise narrow
library_called_narrow scope names groups e otherwise narrow = narrow
