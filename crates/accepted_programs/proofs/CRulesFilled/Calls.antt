-- Calls have filled types.
use Rattle.std.proofs.Common.{◌≡◌, ℕ, suc, Bool, true, ◌&&◌, cond, List, [], ◌∷◌, Option, Some, None, refl}
use Rattle.std.proofs.lemmas.Bool.{and_parts, and_from}
use Rattle.run_theory.specs.declared.place.Pos.{Pos}
use Rattle.c_syntax.specs.Trees
use Rattle.c_syntax.specs.Trees.{ExprTree}
use Rattle.c_rules.specs.declared.rule.TypeRule.TheVariants as T
use Rattle.c_typed.specs.Types.{CType, CTypes, Pointer, Function, NoTypes, MoreTypes, is_array, decayed}
use Rattle.c_typed.specs.Layouts.{StructDef}
use Rattle.c_typed.specs.Typed as typed
use Rattle.c_typed.specs.Typed.{Value, Values}
use Rattle.c_typed.specs.Sizes.{makes, all_make, designator_makes, fills}
use Rattle.c_rules.specs.Names.{Scope, Meaning, NoMeaning, Local, Outer, Library, meaning_of}
use Rattle.c_rules.specs.Known.{Checked, Known, TypedExpr, OfValue, OfObject, OfFunction, OfLibrary, with_known, give, value_of_typed}
use Rattle.c_rules.specs.Operators.{ArgumentValue, Arguments, converted, fits, as_many, passed_rule, passed, unconverted_argument, unconverted, is_free, call_of, call_value, called_as, call_rule, call}
use Rattle.c_rules.specs.Expressions.{library_called}
use Rattle.accepted_programs.specs.Knows.{IfKnown, Knows, Every}
use Rattle.accepted_programs.specs.Whole.{IsWhole, is_whole, are_whole, FilledNames, MeaningFilled, typed_filled, KnownFilled, ArgumentFilled}
use Rattle.accepted_programs.proofs.CRulesFilled.Holding.{by_test, gives, refuses, beside, required, of_known, of_part, of_two}
use Rattle.accepted_programs.proofs.CRulesFilled.Types.{function_filled, decayed_filled}
use Rattle.accepted_programs.proofs.CRulesFilled.Operands.{value_filled, converted_filled, unconverted_filled, meaning_filled}

module _ (structs : List StructDef) where
  abbrev AllFilled : Values → Type 0
  AllFilled values = all_make (fills structs) values ≡ true

  abbrev OneFilled : Value → Type 0
  OneFilled value = makes (fills structs) value ≡ true

  -- ---- arguments

  passed_filled : (whole : Pos) (parameters : CTypes) → are_whole structs parameters ≡ true → (arguments : List ArgumentValue) → Every (ArgumentFilled structs) arguments → Knows AllFilled (passed whole parameters arguments)
  passed_filled whole NoTypes filled arguments all = gives typed.NoValues refl
  passed_filled whole (MoreTypes first others) filled [] all = gives typed.NoValues refl
  passed_filled whole (MoreTypes first others) filled (argument ∷ arguments) all =
      let parts = and_parts (is_whole structs first) (are_whole structs others) filled in
      of_two OneFilled AllFilled AllFilled (with_known argument.value (passed_rule whole argument.place first)) (passed whole others arguments) (λ value values. give (typed.MoreValues value values))
      (of_known (KnownFilled structs) OneFilled argument.value (passed_rule whole argument.place first) all.0
      (λ known is. required (fits first known) T.T10 argument.place (give (converted whole first known)) (gives (converted whole first known) (converted_filled structs whole first known parts.0 is))))
      (passed_filled whole others parts.1 arguments all.1)
      (λ value values one rest. gives (typed.MoreValues value values) (and_from (makes (fills structs) value) (all_make (fills structs) values) one rest))

  one_unconverted : (known : Option Known) → IfKnown (KnownFilled structs) known → makes (fills structs) (unconverted_argument known) ≡ true
  one_unconverted None filled = refl
  one_unconverted (Some known) filled = unconverted_filled structs _ known filled

  all_unconverted : (arguments : List ArgumentValue) → Every (ArgumentFilled structs) arguments → AllFilled (unconverted arguments)
  all_unconverted [] all = refl
  all_unconverted (argument ∷ arguments) all =
      and_from (makes (fills structs) (unconverted_argument argument.value)) (all_make (fills structs) (unconverted arguments)) (one_unconverted argument.value all.0) (all_unconverted arguments all.1)

  -- ---- what is called

  through_filled : (value : Value) (values : Values) → OneFilled value → AllFilled values → (makes (fills structs) value && all_make (fills structs) values) ≡ true
  through_filled value values one rest = and_from (makes (fills structs) value) (all_make (fills structs) values) one rest

  call_of_filled : (whole : Pos) (is_array : Bool) (expression : TypedExpr) (t : CType) (values : Values) → typed_filled structs expression ≡ true → AllFilled values → OneFilled (call_of whole is_array expression t values)
  call_of_filled whole b (OfLibrary function groups) t _ filled all = all
  call_of_filled whole b (OfFunction function) t values filled all = and_from (designator_makes (fills structs) function) (all_make (fills structs) values) filled all
  call_of_filled whole b (OfValue value) t values filled all = through_filled (value_of_typed whole b (OfValue value)) values (value_filled structs whole b (OfValue value) filled) all
  call_of_filled whole b (OfObject object) t values filled all = through_filled (value_of_typed whole b (OfObject object)) values (value_filled structs whole b (OfObject object) filled) all

  call_value_filled : (whole : Pos) (function : Known) (t : CType) (arguments : List ArgumentValue) (values : Values) → KnownFilled structs function → Every (ArgumentFilled structs) arguments → AllFilled values
      → OneFilled (call_value whole function t arguments values)
  call_value_filled whole function t arguments values filled all pass =
      call_of_filled whole (is_array function.c_type) function.typed t (cond (is_free function.typed) (unconverted arguments) values) filled.1
      (by_test AllFilled (is_free function.typed) (unconverted arguments) values (all_unconverted arguments all) pass)

  called_filled : (whole : Pos) (function : Known) → KnownFilled structs function → (t : CType) → IsWhole structs t → (arguments : List ArgumentValue) → Every (ArgumentFilled structs) arguments
      → Knows (KnownFilled structs) (called_as whole function t arguments)
  called_filled whole function is (Pointer (Function result parameters)) filled arguments all =
      let parts = function_filled structs result parameters filled in
      required (as_many parameters arguments) T.T13 whole _
      (of_part AllFilled (KnownFilled structs) (passed whole parameters arguments) _ (passed_filled whole parameters parts.1 arguments all)
      (λ values pass. gives _ (parts.0, call_value_filled whole function (Function result parameters) arguments values is all pass)))
  called_filled whole function is (Pointer t) filled arguments all = refuses T.T12 whole
  called_filled whole function is t filled arguments all = refuses T.T12 whole

  pub call_filled : (whole : Pos) (function : Checked Known) (arguments : Arguments) → Knows (KnownFilled structs) function → Every (ArgumentFilled structs) arguments.values → Knows (KnownFilled structs) (call whole function arguments)
  call_filled whole function arguments filled all =
      beside arguments.found _ (of_part (KnownFilled structs) (KnownFilled structs) function (λ known. call_rule whole known arguments.values) filled
      (λ known is. beside _ (called_as whole known (decayed known.c_type) arguments.values) (called_filled whole known is (decayed known.c_type) (decayed_filled structs known.c_type is.0) arguments.values all)))

  pub library_called_filled : (scope : Scope) → FilledNames structs scope → (groups : ℕ) (e : ExprTree) (otherwise : Checked Known) → Knows (KnownFilled structs) otherwise → Knows (KnownFilled structs) (library_called scope groups e otherwise)
  library_called_filled scope names groups (Trees.Named name) otherwise filled = by (meaning_of scope name.bytes) refl (meaning_filled structs scope names name.bytes)
    where
      by : (meaning : Meaning) → meaning_of scope name.bytes ≡ meaning → MeaningFilled structs meaning → Knows (KnownFilled structs) (library_called scope groups (Trees.Named name) otherwise)
      by (Library function t) is of_it = rw is (gives _ (of_it, refl))
      by (Local number t) is of_it = rw is filled
      by (Outer t) is of_it = rw is filled
      by NoMeaning is of_it = rw is filled
  library_called_filled scope names groups (Trees.Parenthesized place inner) otherwise filled = library_called_filled scope names (suc groups) inner otherwise filled
  library_called_filled scope names groups e otherwise filled = filled
