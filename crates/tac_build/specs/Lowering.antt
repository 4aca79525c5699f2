-- What lowering of expressions asks of a tree in its surroundings, and what it promises.
use Rattle.std.specs.Prelude.{◌≡◌, ℕ, ◌+◌, ◌*◌, ◌<◌, Bool, true, false, not, ◌||◌, List, [], ◌∷◌, Some, None, option_map, bytes_eq}
use Rattle.indexmap.specs.IndexMap.{get_by}
use Rattle.run_theory.specs.declared.place.Pos.{Pos}
use Rattle.c_typed.specs.declared.typed.Value as memory_value
use Rattle.c_typed.specs.declared.typed.Value.TheVariants as V
use Rattle.c_typed.specs.declared.typed.Object as memory_object
use Rattle.c_typed.specs.declared.typed.Designator as memory_designator
use Rattle.c_typed.specs.declared.typed.LibraryFunction.{LibraryFunction}
use Rattle.c_typed.specs.Types.{CType, CTypes, is_array, is_struct}
use Rattle.c_typed.specs.Places.{is_same_place}
use Rattle.c_typed.specs.Table.{Interned, Stands, type_in}
use Rattle.c_typed.specs.Typed as T
use Rattle.c_typed.specs.Typed.{Value, Object, Designator, Program}
use Rattle.c_typed.specs.Views.{value_in, object_in, designator_in, values_in, ValueStands, ObjectStands, DesignatorStands, ValuesStand}
use Rattle.c_typed.specs.DefinitionViews.{program_of, ProgramStands}
use Rattle.c_typed.specs.Context.{Context}
use Rattle.c_typed.specs.Expressions.{type_of, types_of, type_of_object, type_of_designator, library_result, given}
use Rattle.c_typed.specs.Programs.{IsWellTyped}
use Rattle.tac_ir.specs.declared.register.Register.{Register}
use Rattle.tac_ir.specs.First.{named_global, placed_literal}
use Rattle.tac_ir.specs.Code.{Through}
use Rattle.tac_ir.specs.Views.{callee_in}
use Rattle.tac_build.specs.declared.builder.Builder.{Builder}
use Rattle.tac_build.specs.declared.names.Source.{Source}
use Rattle.tac_build.specs.declared.homes.Home as memory_home
use Rattle.tac_build.specs.declared.lowered.Lowered as memory_lowered
use Rattle.tac_build.specs.declared.lowered.Lowered.TheVariants as L
use Rattle.tac_build.specs.declared.lowered.Mode as memory_mode
use Rattle.tac_build.specs.declared.objects.Target.{Target}
use Rattle.tac_build.specs.declared.objects.Target.TheVariants as Targets
use Rattle.tac_build.specs.declared.calls.Called.{Called}
use Rattle.tac_build.specs.Homes.{Home, Scope, home_of, register_home, home_behind, names_local, takes, takes_in}
use Rattle.tac_build.specs.Spots.{Mode, AsPointer, is_address}
use Rattle.tac_build.specs.Code.{ValueCode, ObjectCode, DesignatorCode, ArgumentsCode, LibraryCode, function_number}
use Rattle.tac_build.specs.Forms.{context_of}
use Rattle.tac_build.specs.Building.{lowered_in, mode_of, home_in, place_in, scope_in, HomesStand, LeadsIn, LowersIn, names_of}

-- ---- names

-- A node of a tree names fewer than two registers beside those that its parts name.
abbrev pub names_for : ℕ → ℕ
names_for nodes = 2 * nodes

abbrev pub AddsFewer : Builder → Builder → ℕ → Type 0
AddsFewer old new more = names_of new.counts < names_of old.counts + more

-- ---- the program

abbrev pub program_in : Source → Program
program_in source = program_of source.program

abbrev pub types_of_source : Source → Interned
types_of_source source = source.program.types

-- The program is well typed, and the numbers of its names and places are those of the first that have them.
pub record IsSource (source : Source) : Type 0 where
  pub stands : ProgramStands source.program
  pub well : IsWellTyped (program_in source)
  pub functions : (name : List ℕ) → get_by (λ key. bytes_eq name key.items) source.names.functions ≡ function_number 0 (program_in source).functions name
  pub globals : (name : List ℕ) → get_by (λ key. bytes_eq name key.items) source.names.globals ≡ option_map (λ found. found.0) (named_global 0 (program_in source).globals name)
  pub literals : (place : Pos) → get_by (is_same_place place) source.names.literals ≡ option_map (λ found. found.0) (placed_literal 0 (program_in source).literals place)

-- ---- the locals in scope

abbrev pub scope_of : Source → List memory_home.Home → Scope
scope_of source scope = scope_in (types_of_source source) scope

abbrev pub context_in : Source → List memory_home.Home → Context
context_in source scope = context_of (program_in source) (scope_of source scope)

-- their types are in the table, and arrays and structures lie in memory
pub record IsScope (source : Source) (scope : List memory_home.Home) : Type 0 where
  pub stand : HomesStand (types_of_source source) scope
  pub lie : (number : ℕ) (home : Home) → home_of (scope_of source scope) number ≡ Some home → (is_array home.c_type || is_struct home.c_type) ≡ true → home.is_object ≡ true

-- ---- trees

-- a tree that has a type
pub record ValueTyped (source : Source) (scope : List memory_home.Home) (value : memory_value.Value) : Type 0 where
  pub stands : ValueStands (types_of_source source) value
  pub c_type : CType
  pub typed : type_of (context_in source scope) (value_in (types_of_source source) value) ≡ Some c_type

pub record ObjectTyped (source : Source) (scope : List memory_home.Home) (object : memory_object.Object) : Type 0 where
  pub stands : ObjectStands (types_of_source source) object
  pub c_type : CType
  pub typed : type_of_object (context_in source scope) (object_in (types_of_source source) object) ≡ Some c_type

pub record DesignatorTyped (source : Source) (scope : List memory_home.Home) (function : memory_designator.Designator) : Type 0 where
  pub stands : DesignatorStands (types_of_source source) function
  pub c_type : CType
  pub typed : type_of_designator (context_in source scope) (designator_in (types_of_source source) function) ≡ Some c_type

pub record ValuesTyped (source : Source) (scope : List memory_home.Home) (values : List memory_value.Value) : Type 0 where
  pub stand : ValuesStand (types_of_source source) values
  pub c_types : CTypes
  pub typed : types_of (context_in source scope) (values_in (types_of_source source) values) ≡ Some c_types

-- a call of a library function that has a type
pub record LibraryTyped (source : Source) (scope : List memory_home.Home) (function : LibraryFunction) (values : List memory_value.Value) : Type 0 where
  pub stand : ValuesStand (types_of_source source) values
  pub c_type : CType
  pub typed : given (types_of (context_in source scope) (values_in (types_of_source source) values)) (library_result function) ≡ Some c_type

-- ---- locals in registers: none has its address taken

-- each local of which this holds lies in memory
abbrev pub LieInMemory : Scope → (ℕ → Bool) → Type 0
LieInMemory scope is_taken = (number : ℕ) (home : Home) → home_of scope number ≡ Some home → is_taken number ≡ true → home.is_object ≡ true

-- what a value points to isn't in a register, where that is used at once
pub record ValueLives (scope : Scope) (mode : Mode) (value : Value) : Type 0 where
  pub taken : LieInMemory scope (λ number. takes (not (is_address mode)) number value)
  pub behind : is_address mode ≡ false → home_behind scope value ≡ None

-- an object in memory
pub record ObjectLives (scope : Scope) (is_kept : Bool) (object : Object) : Type 0 where
  pub taken : LieInMemory scope (λ number. takes_in number object)
  pub kept : is_kept ≡ true → LieInMemory scope (λ number. names_local number object)
  pub memory : register_home scope object ≡ None

-- ---- what lowering comes to

-- the types in it are in the table
abbrev pub LoweredHolds : Interned → memory_lowered.Lowered → Type 0
LoweredHolds table (L.Integer int_type tree) = Unit {0}
LoweredHolds table (L.Pointer register target) = Stands table target
LoweredHolds table (L.Object path c_type) = Stands table c_type
LoweredHolds table L.Nothing = Unit {0}

-- the points that are added are the code of the tree, and stay so when more follow
abbrev pub ValueLowers : Source → List memory_home.Home → memory_mode.Mode → memory_value.Value → Builder → Builder → memory_lowered.Lowered → Type 0
ValueLowers source scope mode value old new lowered =
    LowersIn (types_of_source source) (λ points. ValueCode (program_in source) points (scope_of source scope) (mode_of mode) (value_in (types_of_source source) value)) old new lowered
    × LoweredHolds (types_of_source source) lowered

abbrev pub ObjectLowers : Source → List memory_home.Home → Bool → Bool → memory_object.Object → Builder → Builder → memory_lowered.Lowered → Type 0
ObjectLowers source scope is_kept is_followed object old new lowered =
    LowersIn (types_of_source source) (λ points. ObjectCode (program_in source) points (scope_of source scope) is_kept is_followed (object_in (types_of_source source) object)) old new lowered
    × LoweredHolds (types_of_source source) lowered

-- a function that is called through a pointer in a register, and the type to which that points
abbrev pub CallsThrough : memory_lowered.Lowered → Called → Type 0
CallsThrough found called = (table : Interned) (register : Register) (target : CType) → lowered_in table found ≡ AsPointer register target
    → (callee_in table called.callee ≡ Through register target) × (type_in table called.c_type ≡ target)

abbrev pub DesignatorLowers : Source → List memory_home.Home → memory_designator.Designator → Builder → Builder → Called → Type 0
DesignatorLowers source scope function old new called =
    LeadsIn (types_of_source source) (λ points from to. DesignatorCode (program_in source) points (scope_of source scope) (designator_in (types_of_source source) function)
    from to (callee_in (types_of_source source) called.callee) (type_in (types_of_source source) called.c_type)) old new
    × Stands (types_of_source source) called.c_type

abbrev pub ArgumentsLower : Source → List memory_home.Home → List memory_value.Value → Builder → Builder → List Register → Type 0
ArgumentsLower source scope values old new registers =
    LeadsIn (types_of_source source) (λ points from to. ArgumentsCode (program_in source) points (scope_of source scope) (values_in (types_of_source source) values) from to registers) old new

abbrev pub LibraryLowers : Source → List memory_home.Home → LibraryFunction → List memory_value.Value → Builder → Builder → memory_lowered.Lowered → Type 0
LibraryLowers source scope function values old new lowered =
    LowersIn (types_of_source source) (λ points. LibraryCode (program_in source) points (scope_of source scope) function (values_in (types_of_source source) values)) old new lowered
    × LoweredHolds (types_of_source source) lowered

-- A local in a register is named by the object, and no point is added; else the points are the code of the object.
abbrev pub TargetLowers : Source → List memory_home.Home → Bool → memory_object.Object → Builder → Builder → Target → Type 0
TargetLowers source scope is_followed object old new (Targets.Register home) =
    (register_home (scope_of source scope) (object_in (types_of_source source) object) ≡ Some (home_in (types_of_source source) home)) × (new ≡ old) × Stands (types_of_source source) home.c_type
TargetLowers source scope is_followed object old new (Targets.Memory place) =
    (register_home (scope_of source scope) (object_in (types_of_source source) object) ≡ None)
    × LeadsIn (types_of_source source) (λ points from to. ObjectCode (program_in source) points (scope_of source scope) false is_followed (object_in (types_of_source source) object)
    from to (place_in (types_of_source source) place)) old new
    × Stands (types_of_source source) place.c_type

-- ---- kinds of expressions

-- what `value` hands on: an operation on integers or pointers, an assignment or a step
abbrev pub IsOperation : memory_value.Value → Type 0
IsOperation (V.Grouped' p inner) = ⊥
IsOperation (V.Read' place p object) = ⊥
IsOperation (V.Decay' place p object) = ⊥
IsOperation (V.AddressOf' place p object) = ⊥
IsOperation (V.FunctionValue' p function) = ⊥
IsOperation (V.AddressOfFunction' p function) = ⊥
IsOperation (V.Cast' p value) = ⊥
IsOperation (V.CastVoid' p value) = ⊥
IsOperation (V.And' p left q right) = ⊥
IsOperation (V.Or' p left q right) = ⊥
IsOperation (V.Conditional' p condition q taken r otherwise) = ⊥
IsOperation (V.Call' is_used place p function c_type shape arguments) = ⊥
IsOperation (V.LibraryCall' function groups place shape arguments) = ⊥
IsOperation _ = Unit {0}

-- what `operation` hands on
abbrev pub IsPointerOperation : memory_value.Value → Type 0
IsPointerOperation V.NullPointer = Unit {0}
IsPointerOperation (V.Repointed' place target p value) = Unit {0}
IsPointerOperation (V.MadeNull' target p value) = Unit {0}
IsPointerOperation (V.Tested' place p value) = Unit {0}
IsPointerOperation (V.ComparePointers' relation place p left q right) = Unit {0}
IsPointerOperation (V.PointerPlus' place p pointer q number) = Unit {0}
IsPointerOperation (V.NumberPlus' place p number q pointer) = Unit {0}
IsPointerOperation (V.PointerMinus' place p pointer q number) = Unit {0}
IsPointerOperation (V.PointerDifference' place p left q right) = Unit {0}
IsPointerOperation (V.Assign' place p object q value) = Unit {0}
IsPointerOperation (V.AssignArithmetic' op place object_type int_type p object q value) = Unit {0}
IsPointerOperation (V.AssignMoved' is_minus place p object q number) = Unit {0}
IsPointerOperation (V.StepInteger' stepping place int_type p object) = Unit {0}
IsPointerOperation (V.StepPointer' stepping place p object) = Unit {0}
IsPointerOperation _ = ⊥

abbrev pub IsAssignment : memory_value.Value → Type 0
IsAssignment (V.Assign' place p object q value) = Unit {0}
IsAssignment (V.AssignArithmetic' op place object_type int_type p object q value) = Unit {0}
IsAssignment (V.AssignMoved' is_minus place p object q number) = Unit {0}
IsAssignment (V.StepInteger' stepping place int_type p object) = Unit {0}
IsAssignment (V.StepPointer' stepping place p object) = Unit {0}
IsAssignment _ = ⊥
