-- What is shown of the code of an expression: along the reference's evaluation it comes to its end with what stands for the value, or both
-- answer alike.
--
-- Each unit of the reference allows so many ticks (Comparing). What the tree or the path that an expression comes to will cost when it is
-- used is laid by, twice over, since a compound assignment uses a path twice; and some ticks are left for what stands around it.
use Rattle.std.specs.Prelude.{◌≡◌, ℕ, ◌+◌, ◌*◌, Bool, true, false, if◌then◌else◌, List, [], ◌∷◌, Option, Some}
use Rattle.c_typed.specs.Types.{CType, CTypes, Void, Integer, Pointer, Array, Struct, Function, NoTypes, MoreTypes}
use Rattle.c_typed.specs.Typed as T
use Rattle.c_typed.specs.Typed.{Value, Object, Designator, Values, Program}
use Rattle.c_typed.specs.Expressions.{is_conversion, type_of, types_of, type_of_object, type_of_designator}
use Rattle.c_typed.specs.Sizes.{makes, all_make, object_makes, designator_makes, is_storable}
use Rattle.ref_semantics.specs.Values as V
use Rattle.ref_semantics.specs.Values.{Place, Scalar}
use Rattle.ref_semantics.specs.Store as S
use Rattle.ref_semantics.specs.Meaning.{Calls, value, values, find, address, designated}
use Rattle.ref_semantics.specs.First.{around_of}
use Rattle.ref_semantics.specs.Sound.{Sound}
use Rattle.tac_ir.specs.declared.register.Register.{Register}
use Rattle.tac_ir.specs.Code.{Op, Callee, Known, Through, Tac, Path}
use Rattle.tac_ir.specs.Trees.{Registers, tree_nodes}
use Rattle.tac_ir.specs.Costs.{path_cost}
use Rattle.tac_ir.specs.States.{State}
use Rattle.tac_build.specs.Homes.{Scope}
use Rattle.tac_build.specs.Spots.{Spot, Lowered, AsInteger, AsPointer, AsObject, AsNothing, Mode, Kept, Dropped, Behind, Row, pointed_mode}
use Rattle.tac_build.specs.Code.{function_number, ValueCode, ArgumentsCode, DesignatorCode, ObjectCode}
use Rattle.tac_build.specs.Forms.{context_of}
use Rattle.tac_simulation.specs.Standing.{Placement, Frame, KeepsBefore, IsAlive, At, HoldsFor, PathStands, LoweredStands}
use Rattle.tac_simulation.proofs.Paths.{Stand, Passage as Passing, Does}

-- ---- units and ticks

-- how many units are spent on an expression at most, without those of the functions that it calls
abbrev mutual
  pub value_units : Value → ℕ
  value_units (T.Constant int_type z) = 1
  value_units T.NullPointer = 1
  value_units (T.Grouped inner) = 1 + value_units inner
  value_units (T.Read place object) = object_units object
  value_units (T.Decay place object) = object_units object
  value_units (T.FunctionValue function) = designator_units function
  value_units (T.Converted int_type value) = value_units value
  value_units (T.Repointed place target value) = value_units value
  value_units (T.MadeNull target value) = value_units value
  value_units (T.Tested place value) = value_units value
  value_units (T.Plus operand) = 1 + value_units operand
  value_units (T.Minus place int_type operand) = 1 + value_units operand
  value_units (T.Complement int_type operand) = 1 + value_units operand
  value_units (T.Not operand) = 1 + value_units operand
  value_units (T.Arithmetic op place int_type left right) = 1 + value_units left + value_units right
  value_units (T.Compare relation left right) = 1 + value_units left + value_units right
  value_units (T.ComparePointers relation place left right) = 1 + value_units left + value_units right
  value_units (T.PointerPlus place pointer number) = 1 + value_units pointer + value_units number
  value_units (T.NumberPlus place number pointer) = 1 + value_units number + value_units pointer
  value_units (T.PointerMinus place pointer number) = 1 + value_units pointer + value_units number
  value_units (T.PointerDifference place left right) = 1 + value_units left + value_units right
  value_units (T.And left right) = 1 + value_units left + value_units right
  value_units (T.Or left right) = 1 + value_units left + value_units right
  value_units (T.Conditional condition taken otherwise) = 1 + value_units condition + value_units taken + value_units otherwise
  value_units (T.AddressOf place object) = 1 + object_units object
  value_units (T.AddressOfFunction function) = 1 + designator_units function
  value_units (T.Cast value) = 1 + value_units value
  value_units (T.CastVoid value) = 1 + value_units value
  value_units (T.Assign place object value) = 1 + object_units object + value_units value
  value_units (T.AssignArithmetic op place object_type int_type object value) = 1 + object_units object + value_units value
  value_units (T.AssignMoved is_minus place object number) = 1 + object_units object + value_units number
  value_units (T.StepInteger stepping place int_type object) = 1 + object_units object
  value_units (T.StepPointer stepping place object) = 1 + object_units object
  value_units (T.Call is_used place function c_type arguments) = 1 + designator_units function + values_units arguments
  value_units (T.LibraryCall function groups place arguments) = 2 + groups + values_units arguments

  pub values_units : Values → ℕ
  values_units T.NoValues = 0
  values_units (T.MoreValues first others) = value_units first + values_units others

  pub object_units : Object → ℕ
  object_units (T.Local number) = 1
  object_units (T.Global name) = 1
  object_units (T.Literal place bytes) = 1
  object_units (T.GroupedObject place inner) = 1 + object_units inner
  object_units (T.Pointed place pointer) = 1 + value_units pointer
  object_units (T.Element place pointer number) = 1 + value_units pointer + value_units number
  object_units (T.ElementOf place number pointer) = 1 + value_units number + value_units pointer
  object_units (T.MemberOf place object number) = 1 + object_units object
  object_units (T.PointedMember place pointer number) = 1 + value_units pointer

  pub designator_units : Designator → ℕ
  designator_units (T.Function name) = 1
  designator_units (T.GroupedFunction inner) = 1 + designator_units inner
  designator_units (T.PointedFunction place pointer) = 1 + value_units pointer
  designator_units (T.ThroughPointer place pointer) = value_units pointer

-- what an argument leaves: a tick for the call, one for a store, and one for the tree of an integer that is stored
abbrev pub passed_ticks : CType → ℕ
passed_ticks (Integer int_type) = 3
passed_ticks Void = 2
passed_ticks (Pointer target) = 2
passed_ticks (Array element count) = 2
passed_ticks (Struct tag) = 2
passed_ticks (Function result parameters) = 2

abbrev pub all_passed_ticks : CTypes → ℕ
all_passed_ticks NoTypes = 0
all_passed_ticks (MoreTypes first others) = passed_ticks first + all_passed_ticks others

-- what is laid by for what an expression comes to
abbrev pub laid_by : Lowered → ℕ
laid_by (AsInteger int_type tree) = 2 * tree_nodes tree
laid_by (AsPointer register target) = 0
laid_by (AsObject path c_type) = 2 * path_cost path
laid_by AsNothing = 0

-- What is left for what stands around an expression. A conversion spends no unit and takes some of it.
abbrev pub left_for : Value → ℕ
left_for value = if is_conversion value then 3 else 6

-- nothing is asked of a value that isn't used
abbrev pub Stood : Mode → Type 0 → Type 0
Stood Dropped A = Unit {0}
Stood mode A = A

pub stood : (mode : Mode) (A : Type 0) → A → Stood mode A
stood Dropped A stands = tt
stood Kept A stands = stands
stood (Behind followed) A stands = stands
stood (Row followed) A stands = stands

-- ---- the code of an expression in a scope, in an activation

module _ (tac : Tac) (program : Program) (calls : Calls) (worth : ℕ) (points : List Op) (placement : Placement) (hidden : ℕ → Option V.Content) (frame : Frame) (scope : Scope) where
  -- the code is at a spot, and the reference's state is sound
  pub record AtSpot (at : ℕ) (s : S.State) (t : State) : Type 0 where
    pub stands : At program placement hidden frame scope at s t
    pub sound : Sound (context_of program scope) s

  -- It has come to a spot from another, with registers that were named before that kept.
  pub record Came (from to : Spot) (before : Registers) (s : S.State) (t : State) : Type 0 where
    pub there : At program placement hidden frame scope to.at s t
    pub kept : KeepsBefore from.counts before t.running.registers

  abbrev pub ComesToValue : Mode → Spot → Spot → Lowered → Registers → Stand Scalar
  ComesToValue mode from to lowered before scalar s t = Came from to before s t × Stood mode (LoweredStands program mode frame placement s.objects t.running.registers lowered scalar)

  abbrev pub ComesToPlace : Spot → Spot → Path → CType → Registers → Stand Place
  ComesToPlace from to path c_type before place s t = Came from to before s t × PathStands program frame placement t.running.registers path c_type place × IsAlive (s.objects place.name)

  abbrev pub CalleeStands : Callee → S.Objects → Registers → Scalar → Type 0
  CalleeStands (Known number) objects registers scalar = (name : List ℕ) × (function_number 0 program.functions name ≡ Some number) × (scalar ≡ V.FunctionValue name)
  CalleeStands (Through register c_type) objects registers scalar = HoldsFor program objects placement scalar (registers register)

  abbrev pub ComesToCallee : Spot → Spot → Callee → Registers → Stand Scalar
  ComesToCallee from to callee before scalar s t = Came from to before s t × CalleeStands callee s.objects t.running.registers scalar

  abbrev pub AllHold : S.Objects → Registers → List Register → List Scalar → Type 0
  AllHold objects registers [] [] = Unit {0}
  AllHold objects registers (register ∷ others) (scalar ∷ scalars) = HoldsFor program objects placement scalar (registers register) × AllHold objects registers others scalars
  AllHold objects registers _ _ = ⊥

  abbrev pub ComesToArguments : Spot → Spot → List Register → Registers → Stand (List Scalar)
  ComesToArguments from to registers before scalars s t = Came from to before s t × AllHold s.objects t.running.registers registers scalars

  -- the statements that hold of each expression
  abbrev pub ValueDoes : Value → Type 0
  ValueDoes tree =
      (mode : Mode) (from to : Spot) (lowered : Lowered) (t : CType) → ValueCode program points scope mode tree from to lowered → type_of (context_of program scope) tree ≡ Some t → makes (is_storable program.structs) tree ≡ true
      → (start : State) (n lag slack : ℕ) (s : S.State) (state : State) → Passing tac worth start state n s.units lag slack → AtSpot from.at s state
      → Does tac worth start n (lag + value_units tree) (slack + (laid_by lowered + left_for tree)) (ComesToValue mode from to lowered state.running.registers) (value (around_of program) calls tree s)

  -- arguments leave ticks for the call and for the stores of parameters that lie in memory
  abbrev pub ArgumentsDo : Values → Type 0
  ArgumentsDo trees =
      (from to : Spot) (registers : List Register) (types : CTypes) → ArgumentsCode program points scope trees from to registers → types_of (context_of program scope) trees ≡ Some types → all_make (is_storable program.structs) trees ≡ true
      → (start : State) (n lag slack : ℕ) (s : S.State) (state : State) → Passing tac worth start state n s.units lag slack → AtSpot from.at s state
      → Does tac worth start n (lag + values_units trees) (slack + all_passed_ticks types) (ComesToArguments from to registers state.running.registers) (values (around_of program) calls trees s)

  abbrev pub FindDoes : Object → Type 0
  FindDoes tree =
      (followed : Bool) (from to : Spot) (path : Path) (c_type : CType) (t : CType) → ObjectCode program points scope false followed tree from to (AsObject path c_type) → type_of_object (context_of program scope) tree ≡ Some t → object_makes (is_storable program.structs) tree ≡ true
      → (start : State) (n lag slack : ℕ) (s : S.State) (state : State) → Passing tac worth start state n s.units lag slack → AtSpot from.at s state
      → Does tac worth start n (lag + object_units tree) (slack + (laid_by (AsObject path c_type) + 10)) (ComesToPlace from to path c_type state.running.registers) (find (around_of program) calls tree s)

  abbrev pub AddressDoes : Object → Type 0
  AddressDoes tree =
      (is_kept followed : Bool) (from to : Spot) (lowered : Lowered) (t : CType) → ObjectCode program points scope is_kept followed tree from to lowered → type_of_object (context_of program scope) tree ≡ Some t → object_makes (is_storable program.structs) tree ≡ true
      → (start : State) (n lag slack : ℕ) (s : S.State) (state : State) → Passing tac worth start state n s.units lag slack → AtSpot from.at s state
      → Does tac worth start n (lag + object_units tree) (slack + (laid_by lowered + 6)) (ComesToValue (pointed_mode is_kept followed) from to lowered state.running.registers) (address (around_of program) calls tree s)

  abbrev pub DesignatorDoes : Designator → Type 0
  DesignatorDoes tree =
      (from to : Spot) (callee : Callee) (c_type t : CType) → DesignatorCode program points scope tree from to callee c_type → type_of_designator (context_of program scope) tree ≡ Some t → designator_makes (is_storable program.structs) tree ≡ true
      → (start : State) (n lag slack : ℕ) (s : S.State) (state : State) → Passing tac worth start state n s.units lag slack → AtSpot from.at s state
      → Does tac worth start n (lag + designator_units tree) (slack + 3) (ComesToCallee from to callee state.running.registers) (designated (around_of program) calls tree s)
