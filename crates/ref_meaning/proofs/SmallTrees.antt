-- Trees whose objects get types of exact sizes fit.
use Rattle.std.proofs.Common.{◌≡◌, true, false, ◌&&◌, ◌||◌, List, [], ◌∷◌, map, Option, Some, None, refl}
use Rattle.std.proofs.lemmas.Bool.{false≢true, and_parts}
use Rattle.c_num.specs.declared.IntType.{IntType}
use Rattle.c_num.specs.declared.IntType.TheVariants as I
use Rattle.c_typed.specs.declared.c_type.CType as number
use Rattle.c_typed.specs.declared.typed.Value as memory_value
use Rattle.c_typed.specs.declared.typed.Value.TheVariants as V
use Rattle.c_typed.specs.declared.typed.Object as memory_object
use Rattle.c_typed.specs.declared.typed.Object.TheVariants as O
use Rattle.c_typed.specs.declared.typed.Designator as memory_designator
use Rattle.c_typed.specs.declared.typed.Designator.TheVariants as D
use Rattle.c_typed.specs.declared.statement.LocalDef as memory_local
use Rattle.c_typed.specs.declared.statement.ForStart as memory_start
use Rattle.c_typed.specs.declared.statement.ForStart.TheVariants as F
use Rattle.c_typed.specs.declared.statement.Stmt as memory_stmt
use Rattle.c_typed.specs.declared.statement.Stmt.TheVariants as S
use Rattle.c_typed.specs.declared.statement.BlockItem as memory_item
use Rattle.c_typed.specs.declared.statement.BlockItem.TheVariants as B
use Rattle.c_typed.specs.declared.statement.SwitchItem.TheVariants as W
use Rattle.c_typed.specs.declared.definition.FunctionDef as memory_function
use Rattle.c_typed.specs.declared.definition.Program as memory_program
use Rattle.c_typed.specs.Types.{CType, Void, Integer, Pointer, Array, Struct, Function, same_type, is_void}
use Rattle.c_typed.specs.Layouts.{StructDef}
use Rattle.c_typed.specs.Typed.{Program}
use Rattle.c_typed.specs.Table.{Interned, Stands, type_in, structs_in}
use Rattle.c_typed.specs.Views.{value_in, object_in, designator_in, row_in, ValueStands, ObjectStands, DesignatorStands, RowStands}
use Rattle.c_typed.specs.StatementViews.{optional_value_in, local_in, start_in, stmt_in, block_row, switch_row, block_in, OptionalStands, LocalStands, LocalsStand, StartStands, StmtStands, BlockRowStands, SwitchRowStands, BlockStands}
use Rattle.c_typed.specs.DefinitionViews.{program_of, function_in, TypesStand, FunctionsStand, ProgramStands}
use Rattle.c_typed.specs.Expressions.{is_scalar}
use Rattle.c_typed.specs.Statements.{is_block}
use Rattle.c_typed.specs.Programs.{IsWellTyped, are_scalars, are_functions, is_function_def, function_of, with_parameters}
use Rattle.c_typed.specs.Sizes.{HasStorableTypes, is_small, fills, is_storable, makes, all_make, object_makes, designator_makes, any_makes, local_makes, locals_make, start_makes, stmt_makes, block_makes, items_make, functions_make, globals_make, literals_make}
use Rattle.ref_semantics.proofs.WellTyped.{well_structs, well_functions}
use Rattle.ref_meaning.specs.Fitting.{IsObjectType}
use Rattle.ref_meaning.proofs.SmallTypes.{small_object}
use Rattle.ref_meaning.specs.Trees.{ValueFits, ObjectFits, DesignatorFits, RowFits, OptionalFits, LocalFits, LocalsFit, StartFits, StmtFits, BlockRowFits, SwitchRowFits, BlockFits, TypesFit, FunctionsFit, ProgramFits}

module _ (table : Interned) (structs : List StructDef) (small : (t : number.CType) → Stands table t → is_small structs (type_in table t) ≡ true → IsObjectType table t) where
  stored : (t : number.CType) → Stands table t → is_storable structs (type_in table t) ≡ true → IsObjectType table t
  stored t h s = small t h (and_parts (is_small structs (type_in table t)) (fills structs (type_in table t)) s).0

  mutual
    value_fits : (v : memory_value.Value) → ValueStands table v → makes (is_storable structs) (value_in table v) ≡ true → ValueFits table v
    value_fits (V.Constant int_type value) h s = tt
    value_fits V.NullPointer h s = tt
    value_fits (V.Grouped' p inner) h s = value_fits inner h s
    value_fits (V.Read' place p object) h s = object_fits object h s
    value_fits (V.Decay' place p object) h s = object_fits object h s
    value_fits (V.FunctionValue' p function) h s = designator_fits function h s
    value_fits (V.Converted' int_type p value) h s = value_fits value h s
    value_fits (V.Repointed' place target p value) h s =
        let p0 = and_parts (is_storable structs (type_in table target)) (makes (is_storable structs) (value_in table value)) s in
        (stored target h.0 p0.0, value_fits value h.1 p0.1)
    value_fits (V.MadeNull' target p value) h s = (h.0, value_fits value h.1 s)
    value_fits (V.Tested' place p value) h s = value_fits value h s
    value_fits (V.Plus' p operand) h s = value_fits operand h s
    value_fits (V.Minus' place int_type p operand) h s = value_fits operand h s
    value_fits (V.Complement' int_type p operand) h s = value_fits operand h s
    value_fits (V.Not' p operand) h s = value_fits operand h s
    value_fits (V.Arithmetic' op place int_type p left q right) h s =
        let p0 = and_parts (makes (is_storable structs) (value_in table left)) (makes (is_storable structs) (value_in table right)) s in
        (value_fits left h.0 p0.0, value_fits right h.1 p0.1)
    value_fits (V.Compare' relation p left q right) h s =
        let p0 = and_parts (makes (is_storable structs) (value_in table left)) (makes (is_storable structs) (value_in table right)) s in
        (value_fits left h.0 p0.0, value_fits right h.1 p0.1)
    value_fits (V.ComparePointers' relation place p left q right) h s =
        let p0 = and_parts (makes (is_storable structs) (value_in table left)) (makes (is_storable structs) (value_in table right)) s in
        (value_fits left h.0 p0.0, value_fits right h.1 p0.1)
    value_fits (V.PointerPlus' place p pointer q number) h s =
        let p0 = and_parts (makes (is_storable structs) (value_in table pointer)) (makes (is_storable structs) (value_in table number)) s in
        (value_fits pointer h.0 p0.0, value_fits number h.1 p0.1)
    value_fits (V.NumberPlus' place p number q pointer) h s =
        let p0 = and_parts (makes (is_storable structs) (value_in table number)) (makes (is_storable structs) (value_in table pointer)) s in
        (value_fits number h.0 p0.0, value_fits pointer h.1 p0.1)
    value_fits (V.PointerMinus' place p pointer q number) h s =
        let p0 = and_parts (makes (is_storable structs) (value_in table pointer)) (makes (is_storable structs) (value_in table number)) s in
        (value_fits pointer h.0 p0.0, value_fits number h.1 p0.1)
    value_fits (V.PointerDifference' place p left q right) h s =
        let p0 = and_parts (makes (is_storable structs) (value_in table left)) (makes (is_storable structs) (value_in table right)) s in
        (value_fits left h.0 p0.0, value_fits right h.1 p0.1)
    value_fits (V.And' p left q right) h s =
        let p0 = and_parts (makes (is_storable structs) (value_in table left)) (makes (is_storable structs) (value_in table right)) s in
        (value_fits left h.0 p0.0, value_fits right h.1 p0.1)
    value_fits (V.Or' p left q right) h s =
        let p0 = and_parts (makes (is_storable structs) (value_in table left)) (makes (is_storable structs) (value_in table right)) s in
        (value_fits left h.0 p0.0, value_fits right h.1 p0.1)
    value_fits (V.Conditional' p condition q taken r otherwise) h s =
        let p0 = and_parts (makes (is_storable structs) (value_in table condition) && makes (is_storable structs) (value_in table taken)) (makes (is_storable structs) (value_in table otherwise)) s in
        let p1 = and_parts (makes (is_storable structs) (value_in table condition)) (makes (is_storable structs) (value_in table taken)) p0.0 in
        (value_fits condition h.0 p1.0, value_fits taken h.1 p1.1, value_fits otherwise h.2 p0.1)
    value_fits (V.AddressOf' place p object) h s = object_fits object h s
    value_fits (V.AddressOfFunction' p function) h s = designator_fits function h s
    value_fits (V.Cast' p value) h s = value_fits value h s
    value_fits (V.CastVoid' p value) h s = value_fits value h s
    value_fits (V.Assign' place p object q value) h s =
        let p0 = and_parts (object_makes (is_storable structs) (object_in table object)) (makes (is_storable structs) (value_in table value)) s in
        (object_fits object h.0 p0.0, value_fits value h.1 p0.1)
    value_fits (V.AssignArithmetic' op place object_type int_type p object q value) h s =
        let p0 = and_parts (object_makes (is_storable structs) (object_in table object)) (makes (is_storable structs) (value_in table value)) s in
        (object_fits object h.0 p0.0, value_fits value h.1 p0.1)
    value_fits (V.AssignMoved' is_minus place p object q number) h s =
        let p0 = and_parts (object_makes (is_storable structs) (object_in table object)) (makes (is_storable structs) (value_in table number)) s in
        (object_fits object h.0 p0.0, value_fits number h.1 p0.1)
    value_fits (V.StepInteger' stepping place int_type p object) h s = object_fits object h s
    value_fits (V.StepPointer' stepping place p object) h s = object_fits object h s
    value_fits (V.Call' is_used place p function c_type shape arguments) h s =
        let p0 = and_parts (designator_makes (is_storable structs) (designator_in table function)) (all_make (is_storable structs) (row_in table arguments)) s in
        (designator_fits function h.0 p0.0, h.1, row_fits arguments h.2 p0.1)
    value_fits (V.LibraryCall' function groups place shape arguments) h s = row_fits arguments h s

    object_fits : (v : memory_object.Object) → ObjectStands table v → object_makes (is_storable structs) (object_in table v) ≡ true → ObjectFits table v
    object_fits (O.Local number) h s = tt
    object_fits (O.Global name) h s = tt
    object_fits (O.Literal place bytes c_type) h s =
        (h.0, h.1)
    object_fits (O.Grouped' place p inner) h s = object_fits inner h s
    object_fits (O.Pointed' place p pointer) h s = value_fits pointer h s
    object_fits (O.Element' place p pointer q number) h s =
        let p0 = and_parts (makes (is_storable structs) (value_in table pointer)) (makes (is_storable structs) (value_in table number)) s in
        (value_fits pointer h.0 p0.0, value_fits number h.1 p0.1)
    object_fits (O.ElementOf' place p number q pointer) h s =
        let p0 = and_parts (makes (is_storable structs) (value_in table number)) (makes (is_storable structs) (value_in table pointer)) s in
        (value_fits number h.0 p0.0, value_fits pointer h.1 p0.1)
    object_fits (O.MemberOf' place p object number) h s = object_fits object h s
    object_fits (O.PointedMember' place p pointer number) h s = value_fits pointer h s

    designator_fits : (v : memory_designator.Designator) → DesignatorStands table v → designator_makes (is_storable structs) (designator_in table v) ≡ true → DesignatorFits table v
    designator_fits (D.Named name) h s = tt
    designator_fits (D.Grouped' p inner) h s = designator_fits inner h s
    designator_fits (D.Pointed' place p pointer) h s = value_fits pointer h s
    designator_fits (D.ThroughPointer' place p pointer) h s = value_fits pointer h s

    row_fits : {shape : _} (row : memory_value.Row_of-Value shape) → RowStands table row → all_make (is_storable structs) (row_in table row) ≡ true → RowFits table row
    row_fits memory_value.end_of-Value h s = tt
    row_fits (memory_value.more_of-Value first others) h s =
        let p = and_parts (makes (is_storable structs) (value_in table first)) (all_make (is_storable structs) (row_in table others)) s in
        (value_fits first h.0 p.0, row_fits others h.1 p.1)

  optional_fits : (value : Option memory_value.Value) → OptionalStands table value → any_makes (is_storable structs) (optional_value_in table value) ≡ true → OptionalFits table value
  optional_fits None h s = tt
  optional_fits (Some value) h s = value_fits value h s

  local_fits : (local : memory_local.LocalDef) → LocalStands table local → local_makes (is_storable structs) (local_in table local) ≡ true → LocalFits table local
  local_fits local h s =
      let p = and_parts (is_storable structs (type_in table local.c_type)) (any_makes (is_storable structs) (optional_value_in table local.first)) s in
      (stored local.c_type h.0 p.0, optional_fits local.first h.1 p.1)

  locals_fit : (locals : List memory_local.LocalDef) → LocalsStand table locals → locals_make (is_storable structs) (map (local_in table) locals) ≡ true → LocalsFit table locals
  locals_fit [] h s = tt
  locals_fit (first ∷ others) h s =
      let p = and_parts (local_makes (is_storable structs) (local_in table first)) (locals_make (is_storable structs) (map (local_in table) others)) s in
      (local_fits first h.0 p.0, locals_fit others h.1 p.1)

  start_fits : (start : memory_start.ForStart) → StartStands table start → start_makes (is_storable structs) (start_in table start) ≡ true → StartFits table start
  start_fits F.Nothing h s = tt
  start_fits (F.Value value) h s = value_fits value h s
  start_fits (F.Locals locals) h s = locals_fit locals.items h s

  mutual
    stmt_fits : (v : memory_stmt.Stmt) → StmtStands table v → stmt_makes (is_storable structs) (stmt_in table v) ≡ true → StmtFits table v
    stmt_fits (S.Block' shape items) h s = block_row_fits items h s
    stmt_fits S.Empty h s = tt
    stmt_fits (S.Expression value) h s = value_fits value h s
    stmt_fits (S.If' condition p taken) h s =
        let p0 = and_parts (makes (is_storable structs) (value_in table condition)) (stmt_makes (is_storable structs) (stmt_in table taken)) s in
        (value_fits condition h.0 p0.0, stmt_fits taken h.1 p0.1)
    stmt_fits (S.IfElse' condition p taken q otherwise) h s =
        let p0 = and_parts (makes (is_storable structs) (value_in table condition) && stmt_makes (is_storable structs) (stmt_in table taken)) (stmt_makes (is_storable structs) (stmt_in table otherwise)) s in
        let p1 = and_parts (makes (is_storable structs) (value_in table condition)) (stmt_makes (is_storable structs) (stmt_in table taken)) p0.0 in
        (value_fits condition h.0 p1.0, stmt_fits taken h.1 p1.1, stmt_fits otherwise h.2 p0.1)
    stmt_fits (S.While' condition p body) h s =
        let p0 = and_parts (makes (is_storable structs) (value_in table condition)) (stmt_makes (is_storable structs) (stmt_in table body)) s in
        (value_fits condition h.0 p0.0, stmt_fits body h.1 p0.1)
    stmt_fits (S.DoWhile' p body condition) h s =
        let p0 = and_parts (stmt_makes (is_storable structs) (stmt_in table body)) (makes (is_storable structs) (value_in table condition)) s in
        (stmt_fits body h.0 p0.0, value_fits condition h.1 p0.1)
    stmt_fits (S.For' start condition step p body) h s =
        let p0 = and_parts (start_makes (is_storable structs) (start_in table start) && any_makes (is_storable structs) (optional_value_in table condition) && any_makes (is_storable structs) (optional_value_in table step)) (stmt_makes (is_storable structs) (stmt_in table body)) s in
        let p1 = and_parts (start_makes (is_storable structs) (start_in table start) && any_makes (is_storable structs) (optional_value_in table condition)) (any_makes (is_storable structs) (optional_value_in table step)) p0.0 in
        let p2 = and_parts (start_makes (is_storable structs) (start_in table start)) (any_makes (is_storable structs) (optional_value_in table condition)) p1.0 in
        (start_fits start h.0 p2.0, optional_fits condition h.1 p2.1, optional_fits step h.2 p1.1, stmt_fits body h.3 p0.1)
    stmt_fits (S.Switch' value shape items) h s =
        let p0 = and_parts (makes (is_storable structs) (value_in table value)) (items_make (is_storable structs) (switch_row table items)) s in
        (value_fits value h.0 p0.0, switch_row_fits items h.1 p0.1)
    stmt_fits S.Break h s = tt
    stmt_fits S.Continue h s = tt
    stmt_fits (S.Return value) h s = optional_fits value h s

    block_row_fits : {shape : _} (row : memory_stmt.Row_of-BlockItem shape) → BlockRowStands table row → block_makes (is_storable structs) (block_row table row) ≡ true → BlockRowFits table row
    block_row_fits memory_stmt.end_of-BlockItem h s = tt
    block_row_fits (memory_stmt.more_of-BlockItem (B.Local local) others) h s =
        let p = and_parts (local_makes (is_storable structs) (local_in table local)) (block_makes (is_storable structs) (block_row table others)) s in
        (local_fits local h.0 p.0, block_row_fits others h.1 p.1)
    block_row_fits (memory_stmt.more_of-BlockItem (B.Statement stmt) others) h s =
        let p = and_parts (stmt_makes (is_storable structs) (stmt_in table stmt)) (block_makes (is_storable structs) (block_row table others)) s in
        (stmt_fits stmt h.0 p.0, block_row_fits others h.1 p.1)

    switch_row_fits : {shape : _} (row : memory_stmt.Row_of-SwitchItem shape) → SwitchRowStands table row → items_make (is_storable structs) (switch_row table row) ≡ true → SwitchRowFits table row
    switch_row_fits memory_stmt.end_of-SwitchItem h s = tt
    switch_row_fits (memory_stmt.more_of-SwitchItem (W.Case label) others) h s = switch_row_fits others h s
    switch_row_fits (memory_stmt.more_of-SwitchItem W.Default others) h s = switch_row_fits others h s
    switch_row_fits (memory_stmt.more_of-SwitchItem (W.Statement stmt) others) h s =
        let p = and_parts (stmt_makes (is_storable structs) (stmt_in table stmt)) (items_make (is_storable structs) (switch_row table others)) s in
        (stmt_fits stmt h.0 p.0, switch_row_fits others h.1 p.1)

  block_fits : (items : List memory_item.BlockItem) → BlockStands table items → block_makes (is_storable structs) (block_in table items) ≡ true → BlockFits table items
  block_fits [] h s = tt
  block_fits (B.Local local ∷ others) h s =
      let p = and_parts (local_makes (is_storable structs) (local_in table local)) (block_makes (is_storable structs) (block_in table others)) s in
      (local_fits local h.0 p.0, block_fits others h.1 p.1)
  block_fits (B.Statement stmt ∷ others) h s =
      let p = and_parts (stmt_makes (is_storable structs) (stmt_in table stmt)) (block_makes (is_storable structs) (block_in table others)) s in
      (stmt_fits stmt h.0 p.0, block_fits others h.1 p.1)

  -- ---- functions

  scalar_small : (t : CType) → is_scalar t ≡ true → is_small structs t ≡ true
  scalar_small Void h = refl
  scalar_small (Integer int_type) h = by int_type
    where
      by : (int_type : IntType) → is_small structs (Integer int_type) ≡ true
      by I.Char = refl
      by I.UChar = refl
      by I.Short = refl
      by I.UShort = refl
      by I.Int = refl
      by I.UInt = refl
      by I.Long = refl
      by I.ULong = refl
  scalar_small (Pointer target) h = refl
  scalar_small (Array element n) h = absurd (false≢true h)
  scalar_small (Struct tag) h = absurd (false≢true h)
  scalar_small (Function result parameters) h = refl

  types_fit : (types : List number.CType) → TypesStand table types → are_scalars (map (type_in table) types) ≡ true → TypesFit table types
  types_fit [] h s = tt
  types_fit (first ∷ others) h s =
      let p = and_parts (is_scalar (type_in table first)) (are_scalars (map (type_in table) others)) s in
      (small first h.0 (scalar_small (type_in table first) p.0), types_fit others h.1 p.1)

  functions_fit : (program : Program) (functions : List memory_function.FunctionDef) → FunctionsStand table functions → are_functions program (map (function_in table) functions) ≡ true
      → functions_make (is_storable structs) (map (function_in table) functions) ≡ true → FunctionsFit table functions
  functions_fit program [] h typed s = tt
  functions_fit program (first ∷ others) h typed s =
      let function = function_in table first in
      let known = and_parts (is_function_def program function) (are_functions program (map (function_in table) others)) typed in
      let p = and_parts (block_makes (is_storable structs) function.body) (functions_make (is_storable structs) (map (function_in table) others)) s in
      let inside = is_block (record { program = program; locals = with_parameters function.parameters [] }) (record { result = function.result; may_break = false; may_continue = false }) function.body in
      let second = is_scalar function.result || is_void function.result in
      let one = and_parts (same_type function.c_type (function_of function.result function.parameters) && second && are_scalars function.parameters) inside known.0 in
      let two = and_parts (same_type function.c_type (function_of function.result function.parameters) && second) (are_scalars function.parameters) one.0 in
      ((h.0.0, types_fit first.parameters.items h.0.1 two.1, h.0.2, block_fits first.body.items h.0.3 p.0), functions_fit program others h.1 known.1 p.1)

-- the functions of a program
pub program_fits : (program : memory_program.Program) → ProgramStands program → IsWellTyped (program_of program) → HasStorableTypes (program_of program) → ProgramFits program
program_fits program stand well storable =
    let typed = program_of program in
    let structs = structs_in program.types in
    let p = and_parts (globals_make (is_storable typed.structs) typed.globals && literals_make (is_storable typed.structs) typed.literals) (functions_make (is_storable typed.structs) typed.functions) storable.1 in
    record {
      functions = functions_fit program.types structs (λ t stands small. small_object program.types t (well_structs typed well) stands small) typed program.functions.items stand.functions (well_functions typed well) p.1;
    }
