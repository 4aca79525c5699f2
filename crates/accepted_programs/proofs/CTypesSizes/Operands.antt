-- Values of expressions, names and conversions have small types.
use Rattle.std.proofs.Common.{◌≡◌, ℕ, Bool, true, false, length, List, [], ◌∷◌, Option, Some, None, bytes_eq, refl}
use Rattle.std.proofs.lemmas.Bool.{and_from}
use Rattle.run_theory.specs.declared.place.Pos.{Pos}
use Rattle.c_syntax.specs.Trees.{NameTree}
use Rattle.c_rules.specs.declared.rule.TypeRule.TheVariants as T
use Rattle.c_typed.specs.declared.typed.LibraryFunction.{LibraryFunction}
use Rattle.c_typed.specs.Types.{CType, Void, Integer, Pointer, Array, Struct, Function, is_integer, is_array, same_type}
use Rattle.c_typed.specs.Layouts.{StructDef}
use Rattle.c_typed.specs.Typed as typed
use Rattle.c_typed.specs.Typed.{Value}
use Rattle.c_typed.specs.Sizes.{is_small, makes, object_makes}
use Rattle.c_rules.specs.Names.{Scope, FileName, LocalName, Meaning, NoMeaning, Local, Outer, Library, library_named, library_meaning, file_name, file_meaning, local_meaning, locals_in, meaning_of}
use Rattle.c_rules.specs.Known.{Checked, Known, TypedExpr, OfValue, OfObject, OfFunction, OfLibrary, give, as_value, value_rule, value_of_typed, value_in, read_value, grouped}
use Rattle.c_rules.specs.Operators.{Condition, OperandKind, AnInteger, AnyValue, AScalar, is_scalar, scalar_rule, as_scalar, condition_of, as_condition, integer_rule, as_integer, operand, converted, unconverted_value, object_in, outer_name, name_as, named}
use Rattle.accepted_programs.specs.Small.{IfKnown, Knows, Every, IsSmall, LocalSmall, EntrySmall, SmallNames, MeaningSmall, typed_small, KnownSmall}
use Rattle.accepted_programs.proofs.CTypesSizes.Holding.{by_test, gives, refuses, beside, required, of_part}
use Rattle.accepted_programs.proofs.CTypesSizes.Types.{small_itself, decayed_small, library_small}

module _ (structs : List StructDef) where
  -- ---- values

  pub value_small : (place : Pos) (is_array : Bool) (expression : TypedExpr) → typed_small structs expression ≡ true → makes (is_small structs) (value_of_typed place is_array expression) ≡ true
  value_small place b (OfValue value) small = small
  value_small place true (OfObject object) small = small
  value_small place false (OfObject object) small = small
  value_small place b (OfFunction function) small = small
  value_small place b (OfLibrary function groups) small = refl

  pub in_small : (known : Known) → KnownSmall structs known → makes (is_small structs) (value_in known) ≡ true
  in_small known small = value_small _ (is_array known.c_type) known.typed small.1

  pub object_small : (expression : TypedExpr) → typed_small structs expression ≡ true → object_makes (is_small structs) (object_in expression) ≡ true
  object_small (OfValue value) small = refl
  object_small (OfObject object) small = small
  object_small (OfFunction function) small = refl
  object_small (OfLibrary function groups) small = refl

  pub grouped_small : (place : Pos) (expression : TypedExpr) → typed_small structs expression ≡ true → typed_small structs (grouped place expression) ≡ true
  grouped_small place (OfValue value) small = small
  grouped_small place (OfObject object) small = small
  grouped_small place (OfFunction function) small = small
  grouped_small place (OfLibrary function groups) small = refl

  pub read_small : (place : Pos) (known : Known) → KnownSmall structs known → KnownSmall structs (read_value place known)
  read_small place known small = (decayed_small structs known.c_type small.0, value_small place (is_array known.c_type) known.typed small.1)

  pub as_value_small : (place : Pos) (part : Checked Known) → Knows (KnownSmall structs) part → Knows (KnownSmall structs) (as_value place part)
  as_value_small place part small = of_part (KnownSmall structs) (KnownSmall structs) part (value_rule place) small (λ known known_small. beside _ _ (gives (read_value place known) (read_small place known known_small)))

  pub as_integer_small : (place : Pos) (part : Checked Known) → Knows (KnownSmall structs) part → Knows (KnownSmall structs) (as_integer place part)
  as_integer_small place part small =
      of_part (KnownSmall structs) (KnownSmall structs) (as_value place part) (integer_rule place) (as_value_small place part small)
      (λ known known_small. required (is_integer known.c_type) T.T07 place (give known) (gives known known_small))

  pub as_scalar_small : (place : Pos) (part : Checked Known) → Knows (KnownSmall structs) part → Knows (KnownSmall structs) (as_scalar place part)
  as_scalar_small place part small =
      of_part (KnownSmall structs) (KnownSmall structs) (as_value place part) (scalar_rule place) (as_value_small place part small)
      (λ known known_small. required (is_scalar known.c_type) T.T08 place (give known) (gives known known_small))

  pub operand_small : (kind : OperandKind) (place : Pos) (part : Checked Known) → Knows (KnownSmall structs) part → Knows (KnownSmall structs) (operand kind place part)
  operand_small AnInteger place part small = as_integer_small place part small
  operand_small AnyValue place part small = as_value_small place part small
  operand_small AScalar place part small = as_scalar_small place part small

  abbrev pub TestSmall : Condition → Type 0
  TestSmall condition = makes (is_small structs) condition.test ≡ true

  pub condition_small : (place : Pos) (known : Known) → KnownSmall structs known → TestSmall (condition_of place known)
  condition_small place known small = by_test TestSmall (is_integer known.c_type) _ _ (in_small known small) (in_small known small)

  pub as_condition_small : (place : Pos) (part : Checked Known) → Knows (KnownSmall structs) part → Knows TestSmall (as_condition place part)
  as_condition_small place part small =
      of_part (KnownSmall structs) TestSmall (as_scalar place part) (λ value. give (condition_of place value)) (as_scalar_small place part small) (λ known known_small. gives (condition_of place known) (condition_small place known known_small))

  -- ---- conversions

  abbrev ValueSmall : Value → Type 0
  ValueSmall value = makes (is_small structs) value ≡ true

  pub converted_small : (place : Pos) (t : CType) (known : Known) → IsSmall structs t → KnownSmall structs known → makes (is_small structs) (converted place t known) ≡ true
  converted_small place Void known small known_small = in_small known known_small
  converted_small place (Integer n) known small known_small = in_small known known_small
  converted_small place (Pointer target) known small known_small =
      by_test ValueSmall known.is_null (typed.MadeNull target (value_in known)) _ (in_small known known_small)
      (by_test ValueSmall (same_type (Pointer target) known.c_type) (value_in known) (typed.Repointed place target (value_in known)) (in_small known known_small)
      (and_from (is_small structs target) (makes (is_small structs) (value_in known)) (small_itself structs target small) (in_small known known_small)))
  converted_small place (Array t n) known small known_small = in_small known known_small
  converted_small place (Struct tag) known small known_small = in_small known known_small
  converted_small place (Function t ts) known small known_small = in_small known known_small

  pub unconverted_small : (target : CType) (known : Known) → KnownSmall structs known → makes (is_small structs) (unconverted_value target known) ≡ true
  unconverted_small target known small = by_test ValueSmall known.is_null (typed.MadeNull target (value_in known)) (value_in known) (in_small known small) (in_small known small)

  -- ---- names

  local_small : (names : List LocalName) → Every (LocalSmall structs) names → (name : List ℕ) (outside : Meaning) → MeaningSmall structs outside → MeaningSmall structs (local_meaning names name outside)
  local_small [] small name outside behind = behind
  local_small (newest ∷ others) small name outside behind =
      by_test (MeaningSmall structs) (bytes_eq newest.name name) (Local (length others) newest.c_type) (local_meaning others name outside) small.0 (local_small others small.1 name outside behind)

  pub entry_small : (file : List FileName) → Every (EntrySmall structs) file → (name : List ℕ) → IfKnown (EntrySmall structs) (file_name file name)
  entry_small [] small name = tt
  entry_small (first ∷ others) small name = by_test (IfKnown (EntrySmall structs)) (bytes_eq first.name name) (Some first) (file_name others name) small.0 (entry_small others small.1 name)

  called_library : (function : Option LibraryFunction) → MeaningSmall structs (library_meaning function)
  called_library None = tt
  called_library (Some function) = library_small structs function

  file_small : (entry : Option FileName) (name : List ℕ) → IfKnown (EntrySmall structs) entry → MeaningSmall structs (file_meaning entry name)
  file_small (Some entry) name small = small
  file_small None name small = called_library (library_named name)

  pub meaning_small : (scope : Scope) → SmallNames structs scope → (name : List ℕ) → MeaningSmall structs (meaning_of scope name)
  meaning_small scope names name =
      local_small (locals_in scope) names.locals name (file_meaning (file_name scope.file name) name) (file_small (file_name scope.file name) name (entry_small scope.file names.file name))

  outer_small : (scope : Scope) (name : NameTree) (t : CType) → IsSmall structs t → Knows (KnownSmall structs) (outer_name scope name t)
  outer_small scope name Void small = gives _ (small, refl)
  outer_small scope name (Integer n) small = gives _ (small, refl)
  outer_small scope name (Pointer target) small = gives _ (small, refl)
  outer_small scope name (Array element n) small = gives _ (small, refl)
  outer_small scope name (Struct tag) small = gives _ (small, refl)
  outer_small scope name (Function result parameters) small = beside _ _ (gives _ (small, refl))

  as_small : (scope : Scope) (name : NameTree) (meaning : Meaning) → MeaningSmall structs meaning → Knows (KnownSmall structs) (name_as scope name meaning)
  as_small scope name NoMeaning small = refuses _ _
  as_small scope name (Local number None) small = record { holds = tt }
  as_small scope name (Local number (Some t)) small = gives _ (small, refl)
  as_small scope name (Outer None) small = record { holds = tt }
  as_small scope name (Outer (Some t)) small = outer_small scope name t small
  as_small scope name (Library function t) small = refuses _ _

  pub named_small : (scope : Scope) → SmallNames structs scope → (name : NameTree) → Knows (KnownSmall structs) (named scope name)
  named_small scope names name = as_small scope name (meaning_of scope name.bytes) (meaning_small scope names name.bytes)
