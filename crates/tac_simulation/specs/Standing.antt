-- How a state of three-address code stands for a state of the reference.
--
-- Globals, literals and allocations have the same names on both sides. A local of the reference lives in a register, or in an object of its
-- activation; since the reference makes a local anew at each entry of its block, and an activation has one object for it, only living
-- locals have an object of their own. A pointer into a dead object stands for any address, since nothing but a copy is made of it.
use Rattle.std.specs.Prelude.{◌≡◌, ℕ, ◌<◌, ◌⊎◌, Bool, true, false, List, [], ◌∷◌, Option, Some, None}
use Rattle.c_typed.specs.Types.{CType}
use Rattle.c_typed.specs.Typed.{GlobalDef, LiteralDef, Program}
use Rattle.ref_semantics.specs.Values as V
use Rattle.ref_semantics.specs.Values.{Name, Heap, GlobalObject, LiteralObject, LocalObject, Place, Scalar, IntegerValue, NullValue, FunctionValue, PointerValue, RawPointer}
use Rattle.ref_semantics.specs.Store as S
use Rattle.ref_semantics.specs.Store.{scalar_or, offset_of}
use Rattle.ref_semantics.specs.First.{around_of}
use Rattle.tac_ir.specs.declared.program.Counts.{Counts}
use Rattle.tac_ir.specs.declared.register.Local.{Local}
use Rattle.tac_ir.specs.declared.register.Register.{Register}
use Rattle.tac_ir.specs.declared.register.Register.TheVariants as R
use Rattle.tac_ir.specs.Code.{Path, LocalObject as OwnObject}
use Rattle.tac_ir.specs.Values.{Object, OfHeap, OfGlobal, OfLiteral, OfActivation, Value, Number, NoAddress, Code, Address, Content, Untyped, Typed, Objects}
use Rattle.tac_ir.specs.Events.{seen}
use Rattle.tac_ir.specs.Layouts.{leaf_at, Inner}
use Rattle.tac_ir.specs.Trees.{Registers, computes}
use Rattle.tac_ir.specs.Objects.{Surroundings, leads, own_type}
use Rattle.tac_ir.specs.States.{Owner, Activation, State}
use Rattle.tac_ir.specs.First.{named_global, placed_literal}
use Rattle.tac_build.specs.Homes.{Home, Scope}
use Rattle.tac_build.specs.Forms.{IsBefore}
use Rattle.tac_build.specs.Spots.{Lowered, AsInteger, AsPointer, AsObject, AsNothing, Mode, Behind, Row}
use Rattle.tac_build.specs.Code.{function_number}

-- ---- objects

-- the objects of those locals of the reference, by their numbers, that lie in memory
abbrev pub Placement : Type 0
Placement = ℕ → Option Object

abbrev pub global_object : Option (ℕ × GlobalDef) → Option Object
global_object None = None
global_object (Some found) = Some (OfGlobal found.0)

abbrev pub literal_object : Option (ℕ × LiteralDef) → Option Object
literal_object None = None
literal_object (Some found) = Some (OfLiteral found.0)

abbrev pub IsAlive : V.Content → Type 0
IsAlive V.Dead = ⊥
IsAlive content = Unit {0}

abbrev pub WhereAlive : V.Content → Type 0 → Type 0
WhereAlive V.Dead stands = Unit {0}
WhereAlive (V.Raw size) stands = stands
WhereAlive (V.Elements is_static c_type count held) stands = stands

abbrev pub IsAddress : Value → Type 0
IsAddress (Address object offset) = Unit {0}
IsAddress value = ⊥

abbrev pub IsAmong : ℕ → List ℕ → Type 0
IsAmong number [] = ⊥
IsAmong number (first ∷ others) = (first ≡ number) ⊎ IsAmong number others

-- a local and its number in the reference are none of those that are in scope already
abbrev pub IsApart : Local → ℕ → Scope → List ℕ → Type 0
IsApart local number [] others = Unit {0}
IsApart local number (home ∷ scope) [] = Unit {0}
IsApart local number (home ∷ scope) (older ∷ others) = (local ≡ home.local → ⊥) × (older < number) × IsApart local number scope others

abbrev pub KeepsBefore : Counts → Registers → Registers → Type 0
KeepsBefore counts before after = (register : Register) → IsBefore counts register → after register ≡ before register

-- an activation that runs, its objects, and those that wait for it
pub record Frame : Type 0 where
  pub owner : Owner
  pub number : ℕ
  pub objects : List OwnObject
  pub callers : List (ℕ × Activation)

module _ (program : Program) where
  -- the object that stands for one of the reference
  abbrev pub image : Placement → Name → Option Object
  image placement (Heap number) = Some (OfHeap number)
  image placement (GlobalObject name) = global_object (named_global 0 program.globals name)
  image placement (LiteralObject place) = literal_object (placed_literal 0 program.literals place)
  image placement (LocalObject number) = placement number

  -- ---- values

  -- an object and an offset stand for a place
  abbrev pub PlaceStands : Placement → Place → Object → ℕ → Type 0
  PlaceStands placement place object offset = (image placement place.name ≡ Some object) × (offset ≡ offset_of (around_of program) place)

  -- a pointer into an object stands for an address, and where the object is alive for that of the place
  abbrev pub ScalarStands : S.Objects → Placement → Scalar → Value → Type 0
  ScalarStands objects placement (IntegerValue z) value = value ≡ Number z
  ScalarStands objects placement NullValue value = value ≡ NoAddress
  ScalarStands objects placement (FunctionValue name) value = (number : ℕ) × (function_number 0 program.functions name ≡ Some number) × (value ≡ Code number)
  ScalarStands objects placement (PointerValue place) value =
      IsAddress value × WhereAlive (objects place.name) ((object : Object) × (offset : ℕ) × PlaceStands placement place object offset × (value ≡ Address object offset))
  ScalarStands objects placement (RawPointer number) value = IsAddress value × WhereAlive (objects (Heap number)) (value ≡ Address (OfHeap number) 0)

  -- a value that is held, if one is held, stands for this one
  abbrev pub HoldsFor : S.Objects → Placement → Scalar → Option Value → Type 0
  HoldsFor objects placement scalar held = (value : Value) × (held ≡ Some value) × ScalarStands objects placement scalar value

  -- ---- contents

  abbrev pub ContentStands : S.Objects → Placement → V.Content → Content → Type 0
  ContentStands objects placement V.Dead content = Unit {0}
  ContentStands objects placement (V.Raw size) content = content ≡ Untyped size
  ContentStands objects placement (V.Elements is_static c_type count held) content =
      (held' : ℕ → Option Value) × (content ≡ Typed c_type count held')
      × ((offset : ℕ) (own : CType) (scalar : Scalar) → leaf_at program.structs c_type count offset ≡ Some own → scalar_or (held offset) is_static own ≡ Some scalar → HoldsFor objects placement scalar (held' offset))

  -- Each object has one that stands for it, and living ones have objects of their own.
  pub record MemoryStands (placement : Placement) (objects : S.Objects) (objects' : Objects) : Type 0 where
    pub contents : (name : Name) (object : Object) → image placement name ≡ Some object → ContentStands objects placement (objects name) (objects' object)
    pub apart : (name other : Name) (object : Object) → IsAlive (objects name) → IsAlive (objects other) → image placement name ≡ Some object → image placement other ≡ Some object → name ≡ other

  -- ---- states

  -- What stands for what, but for the running activation. Locals of waiting activations that lie in registers are hidden: no pointer leads to
  -- them, and they hold what they held when the call was made.
  pub record StateStands (placement : Placement) (hidden : ℕ → Option V.Content) (s : S.State) (t : State) : Type 0 where
    pub input : t.input ≡ s.input
    pub heap : t.next_heap ≡ s.next_heap
    pub trace : seen t.trace ≡ s.trace
    pub memory : MemoryStands placement s.objects t.objects
    pub placed : (number : ℕ) (object : Object) → placement number ≡ Some object → (number < s.next_local) × ((activation : ℕ) × (local : _) × (object ≡ OfActivation activation local) × (activation < t.next_activation))
    pub unchanged : (number : ℕ) (content : V.Content) → hidden number ≡ Some content → (number < s.next_local) × (s.objects (LocalObject number) ≡ content) × (placement number ≡ None) × (IsAmong number s.locals → ⊥)

  -- a local in scope, by its number in the reference, has its home in the activation with this number
  abbrev pub HomeStands : Placement → ℕ → S.Objects → Registers → Home → ℕ → Type 0
  HomeStands placement activation objects registers home number = by home.is_object
    where
      by : Bool → Type 0
      by true = placement number ≡ Some (OfActivation activation home.local)
      by false =
          (placement number ≡ None)
          × ((held : ℕ → Option Scalar) × (objects (LocalObject number) ≡ V.Elements false home.c_type 1 held)
          × ((scalar : Scalar) → held 0 ≡ Some scalar → HoldsFor objects placement scalar (registers (R.Local home.local))))

  abbrev pub HomesStand : Placement → ℕ → S.Objects → Registers → Scope → List ℕ → Type 0
  HomesStand placement activation objects registers [] [] = Unit {0}
  HomesStand placement activation objects registers (home ∷ scope) (newest ∷ others) =
      HomeStands placement activation objects registers home newest × HomesStand placement activation objects registers scope others × IsApart home.local newest scope others
  HomesStand placement activation objects registers _ _ = ⊥

  -- the objects of an activation are there; of the locals that live in them, those in scope are alive
  pub record OwnStands (placement : Placement) (frame : Frame) (s : S.State) (t : State) : Type 0 where
    pub there : (local : Local) (inner : Inner) → own_type frame.objects local ≡ Some inner → (held : ℕ → Option Value) × (t.objects (OfActivation frame.number local) ≡ Typed inner.c_type 1 held) × (frame.number < t.next_activation)
    pub in_scope : (number : ℕ) (local : Local) → placement number ≡ Some (OfActivation frame.number local) → IsAlive (s.objects (LocalObject number)) → IsAmong number s.locals × ((inner : Inner) × (own_type frame.objects local ≡ Some inner))

  -- the code is at a point of an activation
  pub record At (placement : Placement) (hidden : ℕ → Option V.Content) (frame : Frame) (scope : Scope) (at : ℕ) (s : S.State) (t : State) : Type 0 where
    pub stands : StateStands placement hidden s t
    pub homes : HomesStand placement frame.number s.objects t.running.registers scope s.locals
    pub own : OwnStands placement frame s t
    pub point : t.running.at ≡ at
    pub owner : t.running.owner ≡ frame.owner
    pub number : t.running.number ≡ frame.number
    pub callers : t.callers ≡ frame.callers
    pub paid : t.paid ≡ 0

  -- ---- what expressions come to

  -- what the code of an activation is run with
  abbrev pub surroundings : Frame → Surroundings
  surroundings frame = record { structs = program.structs; globals = program.globals; literals = program.literals; own = frame.objects; activation = frame.number }

  -- a path leads to a place
  abbrev pub PathStands : Frame → Placement → Registers → Path → CType → Place → Type 0
  PathStands frame placement registers path c_type place =
      (object : Object) × (offset : ℕ) × (leads (surroundings frame) registers path ≡ Some (record { object = object; inner = record { offset = offset; c_type = c_type } })) × PlaceStands placement place object offset

  -- a path leads to what a pointer points to, where that is alive
  abbrev pub PointedStands : Frame → Placement → S.Objects → Registers → Path → CType → Scalar → Type 0
  PointedStands frame placement objects registers path c_type (PointerValue place) = WhereAlive (objects place.name) (PathStands frame placement registers path c_type place)
  PointedStands frame placement objects registers path c_type scalar = Unit {0}

  -- a path leads to an array, and a pointer to its first element
  abbrev pub ArrayStands : Frame → Placement → S.Objects → Registers → Path → CType → Scalar → Type 0
  ArrayStands frame placement objects registers path c_type scalar =
      (row : Place) × (scalar ≡ PointerValue (S.decayed (around_of program) row)) × (row.row.c_type ≡ c_type) × WhereAlive (objects row.name) (PathStands frame placement registers path c_type row)

  -- a path leads to a living object, whose address is kept
  abbrev pub LivingStands : Frame → Placement → S.Objects → Registers → Path → CType → Scalar → Type 0
  LivingStands frame placement objects registers path c_type scalar =
      (place : Place) × (scalar ≡ PointerValue place) × IsAlive (objects place.name) × PathStands frame placement registers path c_type place

  abbrev pub FoundStands : Mode → Frame → Placement → S.Objects → Registers → Path → CType → Scalar → Type 0
  FoundStands (Row followed) frame placement objects registers path c_type scalar = ArrayStands frame placement objects registers path c_type scalar
  FoundStands (Behind followed) frame placement objects registers path c_type scalar = PointedStands frame placement objects registers path c_type scalar
  FoundStands mode frame placement objects registers path c_type scalar = LivingStands frame placement objects registers path c_type scalar

  -- the value is what the code comes to
  abbrev pub LoweredStands : Mode → Frame → Placement → S.Objects → Registers → Lowered → Scalar → Type 0
  LoweredStands mode frame placement objects registers (AsInteger int_type tree) scalar = (z : _) × (scalar ≡ IntegerValue z) × (computes registers tree ≡ Some z)
  LoweredStands mode frame placement objects registers (AsPointer register target) scalar = HoldsFor objects placement scalar (registers register)
  LoweredStands mode frame placement objects registers (AsObject path c_type) scalar = FoundStands mode frame placement objects registers path c_type scalar
  LoweredStands mode frame placement objects registers AsNothing scalar = Unit {0}
