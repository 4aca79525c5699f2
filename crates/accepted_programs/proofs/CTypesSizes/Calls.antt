-- Calls have small types.
use Rattle.std.proofs.Common.{◌≡◌, ℕ, suc, Bool, true, ◌&&◌, cond, List, [], ◌∷◌, Option, Some, None, refl}
use Rattle.std.proofs.lemmas.Bool.{and_parts, and_from}
use Rattle.run_theory.specs.declared.place.Pos.{Pos}
use Rattle.c_syntax.specs.Trees
use Rattle.c_syntax.specs.Trees.{ExprTree}
use Rattle.c_rules.specs.declared.rule.TypeRule.TheVariants as T
use Rattle.c_typed.specs.Types.{CType, CTypes, Pointer, Function, NoTypes, MoreTypes, is_array, decayed}
use Rattle.c_typed.specs.Layouts.{StructDef}
use Rattle.c_typed.specs.Typed as typed
use Rattle.c_typed.specs.Typed.{Value, Values}
use Rattle.c_typed.specs.Sizes.{makes, all_make, designator_makes, is_small}
use Rattle.c_rules.specs.Names.{Scope, Meaning, NoMeaning, Local, Outer, Library, meaning_of}
use Rattle.c_rules.specs.Known.{Checked, Known, TypedExpr, OfValue, OfObject, OfFunction, OfLibrary, with_known, give, value_of_typed}
use Rattle.c_rules.specs.Operators.{ArgumentValue, Arguments, converted, fits, as_many, passed_rule, passed, unconverted_argument, unconverted, is_free, call_of, call_value, called_as, call_rule, call}
use Rattle.c_rules.specs.Expressions.{library_called}
use Rattle.accepted_programs.specs.Small.{IfKnown, Knows, Every, IsSmall, small_type, small_types, SmallNames, MeaningSmall, typed_small, KnownSmall, ArgumentSmall}
use Rattle.accepted_programs.proofs.CTypesSizes.Holding.{by_test, gives, refuses, beside, required, of_known, of_part, of_two}
use Rattle.accepted_programs.proofs.CTypesSizes.Types.{function_small, decayed_small}
use Rattle.accepted_programs.proofs.CTypesSizes.Operands.{value_small, converted_small, unconverted_small, meaning_small}

module _ (structs : List StructDef) where
  abbrev AllSmall : Values → Type 0
  AllSmall values = all_make (is_small structs) values ≡ true

  abbrev OneSmall : Value → Type 0
  OneSmall value = makes (is_small structs) value ≡ true

  -- ---- arguments

  passed_small : (whole : Pos) (parameters : CTypes) → small_types structs parameters ≡ true → (arguments : List ArgumentValue) → Every (ArgumentSmall structs) arguments → Knows AllSmall (passed whole parameters arguments)
  passed_small whole NoTypes small arguments all = gives typed.NoValues refl
  passed_small whole (MoreTypes first others) small [] all = gives typed.NoValues refl
  passed_small whole (MoreTypes first others) small (argument ∷ arguments) all =
      let parts = and_parts (small_type structs first) (small_types structs others) small in
      of_two OneSmall AllSmall AllSmall (with_known argument.value (passed_rule whole argument.place first)) (passed whole others arguments) (λ value values. give (typed.MoreValues value values))
      (of_known (KnownSmall structs) OneSmall argument.value (passed_rule whole argument.place first) all.0
      (λ known is. required (fits first known) T.T10 argument.place (give (converted whole first known)) (gives (converted whole first known) (converted_small structs whole first known parts.0 is))))
      (passed_small whole others parts.1 arguments all.1)
      (λ value values one rest. gives (typed.MoreValues value values) (and_from (makes (is_small structs) value) (all_make (is_small structs) values) one rest))

  one_unconverted : (known : Option Known) → IfKnown (KnownSmall structs) known → makes (is_small structs) (unconverted_argument known) ≡ true
  one_unconverted None small = refl
  one_unconverted (Some known) small = unconverted_small structs _ known small

  all_unconverted : (arguments : List ArgumentValue) → Every (ArgumentSmall structs) arguments → AllSmall (unconverted arguments)
  all_unconverted [] all = refl
  all_unconverted (argument ∷ arguments) all =
      and_from (makes (is_small structs) (unconverted_argument argument.value)) (all_make (is_small structs) (unconverted arguments)) (one_unconverted argument.value all.0) (all_unconverted arguments all.1)

  -- ---- what is called

  through_small : (value : Value) (values : Values) → OneSmall value → AllSmall values → (makes (is_small structs) value && all_make (is_small structs) values) ≡ true
  through_small value values one rest = and_from (makes (is_small structs) value) (all_make (is_small structs) values) one rest

  call_of_small : (whole : Pos) (is_array : Bool) (expression : TypedExpr) (t : CType) (values : Values) → typed_small structs expression ≡ true → AllSmall values → OneSmall (call_of whole is_array expression t values)
  call_of_small whole b (OfLibrary function groups) t _ small all = all
  call_of_small whole b (OfFunction function) t values small all = and_from (designator_makes (is_small structs) function) (all_make (is_small structs) values) small all
  call_of_small whole b (OfValue value) t values small all = through_small (value_of_typed whole b (OfValue value)) values (value_small structs whole b (OfValue value) small) all
  call_of_small whole b (OfObject object) t values small all = through_small (value_of_typed whole b (OfObject object)) values (value_small structs whole b (OfObject object) small) all

  call_value_small : (whole : Pos) (function : Known) (t : CType) (arguments : List ArgumentValue) (values : Values) → KnownSmall structs function → Every (ArgumentSmall structs) arguments → AllSmall values
      → OneSmall (call_value whole function t arguments values)
  call_value_small whole function t arguments values small all pass =
      call_of_small whole (is_array function.c_type) function.typed t (cond (is_free function.typed) (unconverted arguments) values) small.1
      (by_test AllSmall (is_free function.typed) (unconverted arguments) values (all_unconverted arguments all) pass)

  called_small : (whole : Pos) (function : Known) → KnownSmall structs function → (t : CType) → IsSmall structs t → (arguments : List ArgumentValue) → Every (ArgumentSmall structs) arguments
      → Knows (KnownSmall structs) (called_as whole function t arguments)
  called_small whole function is (Pointer (Function result parameters)) small arguments all =
      let parts = function_small structs result parameters small in
      required (as_many parameters arguments) T.T13 whole _
      (of_part AllSmall (KnownSmall structs) (passed whole parameters arguments) _ (passed_small whole parameters parts.1 arguments all)
      (λ values pass. gives _ (parts.0, call_value_small whole function (Function result parameters) arguments values is all pass)))
  called_small whole function is (Pointer t) small arguments all = refuses T.T12 whole
  called_small whole function is t small arguments all = refuses T.T12 whole

  pub call_small : (whole : Pos) (function : Checked Known) (arguments : Arguments) → Knows (KnownSmall structs) function → Every (ArgumentSmall structs) arguments.values → Knows (KnownSmall structs) (call whole function arguments)
  call_small whole function arguments small all =
      beside arguments.found _ (of_part (KnownSmall structs) (KnownSmall structs) function (λ known. call_rule whole known arguments.values) small
      (λ known is. beside _ (called_as whole known (decayed known.c_type) arguments.values) (called_small whole known is (decayed known.c_type) (decayed_small structs known.c_type is.0) arguments.values all)))

  pub library_called_small : (scope : Scope) → SmallNames structs scope → (groups : ℕ) (e : ExprTree) (otherwise : Checked Known) → Knows (KnownSmall structs) otherwise → Knows (KnownSmall structs) (library_called scope groups e otherwise)
  library_called_small scope names groups (Trees.Named name) otherwise small = by (meaning_of scope name.bytes) refl (meaning_small structs scope names name.bytes)
    where
      by : (meaning : Meaning) → meaning_of scope name.bytes ≡ meaning → MeaningSmall structs meaning → Knows (KnownSmall structs) (library_called scope groups (Trees.Named name) otherwise)
      by (Library function t) is of_it = rw is (gives _ (of_it, refl))
      by (Local number t) is of_it = rw is small
      by (Outer t) is of_it = rw is small
      by NoMeaning is of_it = rw is small
  library_called_small scope names groups (Trees.Parenthesized place inner) otherwise small = library_called_small scope names (suc groups) inner otherwise small
  library_called_small scope names groups e otherwise small = small
