-- Values of expressions, names and conversions have narrow types, and calls of few arguments.
use Rattle.std.proofs.Common.{ℕ, Bool, true, false, length, List, [], ◌∷◌, Option, Some, None, bytes_eq}
use Rattle.run_theory.specs.declared.place.Pos.{Pos}
use Rattle.c_syntax.specs.Trees.{NameTree}
use Rattle.c_rules.specs.declared.rule.TypeRule.TheVariants as T
use Rattle.c_typed.specs.declared.typed.LibraryFunction.{LibraryFunction}
use Rattle.c_typed.specs.Types.{CType, Void, Integer, Pointer, Array, Struct, Function, is_integer, is_array, same_type}
use Rattle.c_typed.specs.Typed as typed
use Rattle.c_typed.specs.TypedArguments.{ValueFew, ObjectFew}
use Rattle.c_rules.specs.Names.{Scope, FileName, LocalName, Meaning, NoMeaning, Local, Outer, Library, library_named, library_meaning, file_name, file_meaning, local_meaning, locals_in, meaning_of}
use Rattle.c_rules.specs.Known.{Checked, Known, TypedExpr, OfValue, OfObject, OfFunction, OfLibrary, give, as_value, value_rule, value_of_typed, value_in, read_value, grouped}
use Rattle.c_rules.specs.Operators.{Condition, OperandKind, AnInteger, AnyValue, AScalar, is_scalar, scalar_rule, as_scalar, condition_of, as_condition, integer_rule, as_integer, operand, converted, unconverted_value, object_in, outer_name, name_as, named}
use Rattle.accepted_programs.specs.Small.{IfKnown, Knows, Every}
use Rattle.accepted_programs.specs.Narrow.{IsNarrow, LocalNarrow, EntryNarrow, NarrowNames, MeaningNarrow, TypedFew, KnownNarrow}
use Rattle.accepted_programs.proofs.CTypesSizes.Holding.{by_test, gives, refuses, beside, required, of_part}
use Rattle.accepted_programs.proofs.CTypesArguments.Types.{decayed_narrow, library_narrow}

-- ---- values

pub value_narrow : (place : Pos) (is_array : Bool) (expression : TypedExpr) → TypedFew expression → ValueFew (value_of_typed place is_array expression)
value_narrow place b (OfValue value) narrow = narrow
value_narrow place true (OfObject object) narrow = narrow
value_narrow place false (OfObject object) narrow = narrow
value_narrow place b (OfFunction function) narrow = narrow
value_narrow place b (OfLibrary function groups) narrow = tt

pub in_narrow : (known : Known) → KnownNarrow known → ValueFew (value_in known)
in_narrow known narrow = value_narrow _ (is_array known.c_type) known.typed narrow.1

pub object_narrow : (expression : TypedExpr) → TypedFew expression → ObjectFew (object_in expression)
object_narrow (OfValue value) narrow = tt
object_narrow (OfObject object) narrow = narrow
object_narrow (OfFunction function) narrow = tt
object_narrow (OfLibrary function groups) narrow = tt

pub grouped_narrow : (place : Pos) (expression : TypedExpr) → TypedFew expression → TypedFew (grouped place expression)
grouped_narrow place (OfValue value) narrow = narrow
grouped_narrow place (OfObject object) narrow = narrow
grouped_narrow place (OfFunction function) narrow = narrow
grouped_narrow place (OfLibrary function groups) narrow = tt

pub read_narrow : (place : Pos) (known : Known) → KnownNarrow known → KnownNarrow (read_value place known)
read_narrow place known narrow = (decayed_narrow known.c_type narrow.0, value_narrow place (is_array known.c_type) known.typed narrow.1)

pub as_value_narrow : (place : Pos) (part : Checked Known) → Knows KnownNarrow part → Knows KnownNarrow (as_value place part)
as_value_narrow place part narrow = of_part KnownNarrow KnownNarrow part (value_rule place) narrow (λ known known_narrow. beside _ _ (gives (read_value place known) (read_narrow place known known_narrow)))

pub as_integer_narrow : (place : Pos) (part : Checked Known) → Knows KnownNarrow part → Knows KnownNarrow (as_integer place part)
as_integer_narrow place part narrow =
    of_part KnownNarrow KnownNarrow (as_value place part) (integer_rule place) (as_value_narrow place part narrow)
    (λ known known_narrow. required (is_integer known.c_type) T.T07 place (give known) (gives known known_narrow))

pub as_scalar_narrow : (place : Pos) (part : Checked Known) → Knows KnownNarrow part → Knows KnownNarrow (as_scalar place part)
as_scalar_narrow place part narrow =
    of_part KnownNarrow KnownNarrow (as_value place part) (scalar_rule place) (as_value_narrow place part narrow)
    (λ known known_narrow. required (is_scalar known.c_type) T.T08 place (give known) (gives known known_narrow))

pub operand_narrow : (kind : OperandKind) (place : Pos) (part : Checked Known) → Knows KnownNarrow part → Knows KnownNarrow (operand kind place part)
operand_narrow AnInteger place part narrow = as_integer_narrow place part narrow
operand_narrow AnyValue place part narrow = as_value_narrow place part narrow
operand_narrow AScalar place part narrow = as_scalar_narrow place part narrow

abbrev pub TestNarrow : Condition → Type 0
TestNarrow condition = ValueFew condition.test

pub condition_narrow : (place : Pos) (known : Known) → KnownNarrow known → TestNarrow (condition_of place known)
condition_narrow place known narrow = by_test TestNarrow (is_integer known.c_type) _ _ (in_narrow known narrow) (in_narrow known narrow)

pub as_condition_narrow : (place : Pos) (part : Checked Known) → Knows KnownNarrow part → Knows TestNarrow (as_condition place part)
as_condition_narrow place part narrow =
    of_part KnownNarrow TestNarrow (as_scalar place part) (λ value. give (condition_of place value)) (as_scalar_narrow place part narrow) (λ known known_narrow. gives (condition_of place known) (condition_narrow place known known_narrow))

-- ---- conversions

pub converted_narrow : (place : Pos) (t : CType) (known : Known) → IsNarrow t → KnownNarrow known → ValueFew (converted place t known)
converted_narrow place Void known narrow known_narrow = in_narrow known known_narrow
converted_narrow place (Integer n) known narrow known_narrow = in_narrow known known_narrow
converted_narrow place (Pointer target) known narrow known_narrow =
    by_test ValueFew known.is_null (typed.MadeNull target (value_in known)) _ (in_narrow known known_narrow)
    (by_test ValueFew (same_type (Pointer target) known.c_type) (value_in known) (typed.Repointed place target (value_in known)) (in_narrow known known_narrow)
    (in_narrow known known_narrow))
converted_narrow place (Array t n) known narrow known_narrow = in_narrow known known_narrow
converted_narrow place (Struct tag) known narrow known_narrow = in_narrow known known_narrow
converted_narrow place (Function t ts) known narrow known_narrow = in_narrow known known_narrow

pub unconverted_narrow : (target : CType) (known : Known) → KnownNarrow known → ValueFew (unconverted_value target known)
unconverted_narrow target known narrow = by_test ValueFew known.is_null (typed.MadeNull target (value_in known)) (value_in known) (in_narrow known narrow) (in_narrow known narrow)

-- ---- names

local_narrow : (names : List LocalName) → Every LocalNarrow names → (name : List ℕ) (outside : Meaning) → MeaningNarrow outside → MeaningNarrow (local_meaning names name outside)
local_narrow [] narrow name outside behind = behind
local_narrow (newest ∷ others) narrow name outside behind =
    by_test MeaningNarrow (bytes_eq newest.name name) (Local (length others) newest.c_type) (local_meaning others name outside) narrow.0 (local_narrow others narrow.1 name outside behind)

pub entry_narrow : (file : List FileName) → Every EntryNarrow file → (name : List ℕ) → IfKnown EntryNarrow (file_name file name)
entry_narrow [] narrow name = tt
entry_narrow (first ∷ others) narrow name = by_test (IfKnown EntryNarrow) (bytes_eq first.name name) (Some first) (file_name others name) narrow.0 (entry_narrow others narrow.1 name)

called_library : (function : Option LibraryFunction) → MeaningNarrow (library_meaning function)
called_library None = tt
called_library (Some function) = library_narrow function

file_narrow : (entry : Option FileName) (name : List ℕ) → IfKnown EntryNarrow entry → MeaningNarrow (file_meaning entry name)
file_narrow (Some entry) name narrow = narrow
file_narrow None name narrow = called_library (library_named name)

pub meaning_narrow : (scope : Scope) → NarrowNames scope → (name : List ℕ) → MeaningNarrow (meaning_of scope name)
meaning_narrow scope names name =
    local_narrow (locals_in scope) names.locals name (file_meaning (file_name scope.file name) name) (file_narrow (file_name scope.file name) name (entry_narrow scope.file names.file name))

outer_narrow : (scope : Scope) (name : NameTree) (t : CType) → IsNarrow t → Knows KnownNarrow (outer_name scope name t)
outer_narrow scope name Void narrow = gives _ (narrow, tt)
outer_narrow scope name (Integer n) narrow = gives _ (narrow, tt)
outer_narrow scope name (Pointer target) narrow = gives _ (narrow, tt)
outer_narrow scope name (Array element n) narrow = gives _ (narrow, tt)
outer_narrow scope name (Struct tag) narrow = gives _ (narrow, tt)
outer_narrow scope name (Function result parameters) narrow = beside _ _ (gives _ (narrow, tt))

as_narrow : (scope : Scope) (name : NameTree) (meaning : Meaning) → MeaningNarrow meaning → Knows KnownNarrow (name_as scope name meaning)
as_narrow scope name NoMeaning narrow = refuses _ _
as_narrow scope name (Local number None) narrow = record { holds = tt }
as_narrow scope name (Local number (Some t)) narrow = gives _ (narrow, tt)
as_narrow scope name (Outer None) narrow = record { holds = tt }
as_narrow scope name (Outer (Some t)) narrow = outer_narrow scope name t narrow
as_narrow scope name (Library function t) narrow = refuses _ _

pub named_narrow : (scope : Scope) → NarrowNames scope → (name : NameTree) → Knows KnownNarrow (named scope name)
named_narrow scope names name = as_narrow scope name (meaning_of scope name.bytes) (meaning_narrow scope names name.bytes)
