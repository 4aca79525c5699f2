-- Values of expressions, names and conversions have filled types.
use Rattle.std.proofs.Common.{◌≡◌, ℕ, Bool, true, false, length, List, [], ◌∷◌, Option, Some, None, bytes_eq, refl}
use Rattle.std.proofs.lemmas.Bool.{and_from}
use Rattle.run_theory.specs.declared.place.Pos.{Pos}
use Rattle.c_syntax.specs.Trees.{NameTree}
use Rattle.c_rules.specs.declared.rule.TypeRule.TheVariants as T
use Rattle.c_typed.specs.declared.typed.LibraryFunction.{LibraryFunction}
use Rattle.c_typed.specs.Types.{CType, Void, Integer, Pointer, Array, Struct, Function, is_integer, is_array, same_type}
use Rattle.c_typed.specs.Layouts.{StructDef}
use Rattle.c_typed.specs.Typed as typed
use Rattle.c_typed.specs.Typed.{Value}
use Rattle.c_typed.specs.Sizes.{fills, makes, object_makes}
use Rattle.c_rules.specs.Names.{Scope, FileName, LocalName, Meaning, NoMeaning, Local, Outer, Library, library_named, library_meaning, file_name, file_meaning, local_meaning, locals_in, meaning_of}
use Rattle.c_rules.specs.Known.{Checked, Known, TypedExpr, OfValue, OfObject, OfFunction, OfLibrary, give, as_value, value_rule, value_of_typed, value_in, read_value, grouped}
use Rattle.c_rules.specs.Operators.{Condition, OperandKind, AnInteger, AnyValue, AScalar, is_scalar, scalar_rule, as_scalar, condition_of, as_condition, integer_rule, as_integer, operand, converted, unconverted_value, object_in, outer_name, name_as, named}
use Rattle.accepted_programs.specs.Knows.{IfKnown, Knows, Every}
use Rattle.accepted_programs.specs.Whole.{IsWhole, LocalFilled, EntryFilled, FilledNames, MeaningFilled, typed_filled, KnownFilled}
use Rattle.accepted_programs.proofs.CRulesFilled.Holding.{by_test, gives, refuses, beside, required, of_part}
use Rattle.accepted_programs.proofs.CRulesFilled.Types.{filled_itself, decayed_filled, library_filled}

module _ (structs : List StructDef) where
  -- ---- values

  pub value_filled : (place : Pos) (is_array : Bool) (expression : TypedExpr) → typed_filled structs expression ≡ true → makes (fills structs) (value_of_typed place is_array expression) ≡ true
  value_filled place b (OfValue value) filled = filled
  value_filled place true (OfObject object) filled = filled
  value_filled place false (OfObject object) filled = filled
  value_filled place b (OfFunction function) filled = filled
  value_filled place b (OfLibrary function groups) filled = refl

  pub in_filled : (known : Known) → KnownFilled structs known → makes (fills structs) (value_in known) ≡ true
  in_filled known filled = value_filled _ (is_array known.c_type) known.typed filled.1

  pub object_filled : (expression : TypedExpr) → typed_filled structs expression ≡ true → object_makes (fills structs) (object_in expression) ≡ true
  object_filled (OfValue value) filled = refl
  object_filled (OfObject object) filled = filled
  object_filled (OfFunction function) filled = refl
  object_filled (OfLibrary function groups) filled = refl

  pub grouped_filled : (place : Pos) (expression : TypedExpr) → typed_filled structs expression ≡ true → typed_filled structs (grouped place expression) ≡ true
  grouped_filled place (OfValue value) filled = filled
  grouped_filled place (OfObject object) filled = filled
  grouped_filled place (OfFunction function) filled = filled
  grouped_filled place (OfLibrary function groups) filled = refl

  pub read_filled : (place : Pos) (known : Known) → KnownFilled structs known → KnownFilled structs (read_value place known)
  read_filled place known filled = (decayed_filled structs known.c_type filled.0, value_filled place (is_array known.c_type) known.typed filled.1)

  pub as_value_filled : (place : Pos) (part : Checked Known) → Knows (KnownFilled structs) part → Knows (KnownFilled structs) (as_value place part)
  as_value_filled place part filled = of_part (KnownFilled structs) (KnownFilled structs) part (value_rule place) filled (λ known known_filled. beside _ _ (gives (read_value place known) (read_filled place known known_filled)))

  pub as_integer_filled : (place : Pos) (part : Checked Known) → Knows (KnownFilled structs) part → Knows (KnownFilled structs) (as_integer place part)
  as_integer_filled place part filled =
      of_part (KnownFilled structs) (KnownFilled structs) (as_value place part) (integer_rule place) (as_value_filled place part filled)
      (λ known known_filled. required (is_integer known.c_type) T.T07 place (give known) (gives known known_filled))

  pub as_scalar_filled : (place : Pos) (part : Checked Known) → Knows (KnownFilled structs) part → Knows (KnownFilled structs) (as_scalar place part)
  as_scalar_filled place part filled =
      of_part (KnownFilled structs) (KnownFilled structs) (as_value place part) (scalar_rule place) (as_value_filled place part filled)
      (λ known known_filled. required (is_scalar known.c_type) T.T08 place (give known) (gives known known_filled))

  pub operand_filled : (kind : OperandKind) (place : Pos) (part : Checked Known) → Knows (KnownFilled structs) part → Knows (KnownFilled structs) (operand kind place part)
  operand_filled AnInteger place part filled = as_integer_filled place part filled
  operand_filled AnyValue place part filled = as_value_filled place part filled
  operand_filled AScalar place part filled = as_scalar_filled place part filled

  abbrev pub TestFilled : Condition → Type 0
  TestFilled condition = makes (fills structs) condition.test ≡ true

  pub condition_filled : (place : Pos) (known : Known) → KnownFilled structs known → TestFilled (condition_of place known)
  condition_filled place known filled = by_test TestFilled (is_integer known.c_type) _ _ (in_filled known filled) (in_filled known filled)

  pub as_condition_filled : (place : Pos) (part : Checked Known) → Knows (KnownFilled structs) part → Knows TestFilled (as_condition place part)
  as_condition_filled place part filled =
      of_part (KnownFilled structs) TestFilled (as_scalar place part) (λ value. give (condition_of place value)) (as_scalar_filled place part filled) (λ known known_filled. gives (condition_of place known) (condition_filled place known known_filled))

  -- ---- conversions

  abbrev ValueFilled : Value → Type 0
  ValueFilled value = makes (fills structs) value ≡ true

  pub converted_filled : (place : Pos) (t : CType) (known : Known) → IsWhole structs t → KnownFilled structs known → makes (fills structs) (converted place t known) ≡ true
  converted_filled place Void known filled known_filled = in_filled known known_filled
  converted_filled place (Integer n) known filled known_filled = in_filled known known_filled
  converted_filled place (Pointer target) known filled known_filled =
      by_test ValueFilled known.is_null (typed.MadeNull target (value_in known)) _ (in_filled known known_filled)
      (by_test ValueFilled (same_type (Pointer target) known.c_type) (value_in known) (typed.Repointed place target (value_in known)) (in_filled known known_filled)
      (and_from (fills structs target) (makes (fills structs) (value_in known)) (filled_itself structs target filled) (in_filled known known_filled)))
  converted_filled place (Array t n) known filled known_filled = in_filled known known_filled
  converted_filled place (Struct tag) known filled known_filled = in_filled known known_filled
  converted_filled place (Function t ts) known filled known_filled = in_filled known known_filled

  pub unconverted_filled : (target : CType) (known : Known) → KnownFilled structs known → makes (fills structs) (unconverted_value target known) ≡ true
  unconverted_filled target known filled = by_test ValueFilled known.is_null (typed.MadeNull target (value_in known)) (value_in known) (in_filled known filled) (in_filled known filled)

  -- ---- names

  local_filled : (names : List LocalName) → Every (LocalFilled structs) names → (name : List ℕ) (outside : Meaning) → MeaningFilled structs outside → MeaningFilled structs (local_meaning names name outside)
  local_filled [] filled name outside behind = behind
  local_filled (newest ∷ others) filled name outside behind =
      by_test (MeaningFilled structs) (bytes_eq newest.name name) (Local (length others) newest.c_type) (local_meaning others name outside) filled.0 (local_filled others filled.1 name outside behind)

  pub entry_filled : (file : List FileName) → Every (EntryFilled structs) file → (name : List ℕ) → IfKnown (EntryFilled structs) (file_name file name)
  entry_filled [] filled name = tt
  entry_filled (first ∷ others) filled name = by_test (IfKnown (EntryFilled structs)) (bytes_eq first.name name) (Some first) (file_name others name) filled.0 (entry_filled others filled.1 name)

  called_library : (function : Option LibraryFunction) → MeaningFilled structs (library_meaning function)
  called_library None = tt
  called_library (Some function) = library_filled structs function

  file_filled : (entry : Option FileName) (name : List ℕ) → IfKnown (EntryFilled structs) entry → MeaningFilled structs (file_meaning entry name)
  file_filled (Some entry) name filled = filled
  file_filled None name filled = called_library (library_named name)

  pub meaning_filled : (scope : Scope) → FilledNames structs scope → (name : List ℕ) → MeaningFilled structs (meaning_of scope name)
  meaning_filled scope names name =
      local_filled (locals_in scope) names.locals name (file_meaning (file_name scope.file name) name) (file_filled (file_name scope.file name) name (entry_filled scope.file names.file name))

  outer_filled : (scope : Scope) (name : NameTree) (t : CType) → IsWhole structs t → Knows (KnownFilled structs) (outer_name scope name t)
  outer_filled scope name Void filled = gives _ (filled, refl)
  outer_filled scope name (Integer n) filled = gives _ (filled, refl)
  outer_filled scope name (Pointer target) filled = gives _ (filled, refl)
  outer_filled scope name (Array element n) filled = gives _ (filled, refl)
  outer_filled scope name (Struct tag) filled = gives _ (filled, refl)
  outer_filled scope name (Function result parameters) filled = beside _ _ (gives _ (filled, refl))

  as_filled : (scope : Scope) (name : NameTree) (meaning : Meaning) → MeaningFilled structs meaning → Knows (KnownFilled structs) (name_as scope name meaning)
  as_filled scope name NoMeaning filled = refuses _ _
  as_filled scope name (Local number None) filled = record { holds = tt }
  as_filled scope name (Local number (Some t)) filled = gives _ (filled, refl)
  as_filled scope name (Outer None) filled = record { holds = tt }
  as_filled scope name (Outer (Some t)) filled = outer_filled scope name t filled
  as_filled scope name (Library function t) filled = refuses _ _

  pub named_filled : (scope : Scope) → FilledNames structs scope → (name : NameTree) → Knows (KnownFilled structs) (named scope name)
  named_filled scope names name = as_filled scope name (meaning_of scope name.bytes) (meaning_filled scope names name.bytes)
