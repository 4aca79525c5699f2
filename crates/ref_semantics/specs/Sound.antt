-- Values of types, and sound states of the reference (C17 6.2.4, 6.2.6, 6.3.2.3, 6.5 paragraph 7).
use Rattle.std.specs.Prelude.{◌≡◌, ℕ, ◌≤◌, ◌<◌, true, false, List, [], ◌∷◌, Option, Some, is_some}
use Rattle.c_num.specs.Types.{is_value}
use Rattle.run_theory.specs.declared.place.Pos.{Pos}
use Rattle.c_typed.specs.Types.{CType, CTypes, Void, Integer, Pointer, NoTypes, MoreTypes, literal_type, is_function, is_like_void}
use Rattle.c_typed.specs.Layouts.{is_complete}
use Rattle.c_typed.specs.Typed.{Program}
use Rattle.c_typed.specs.Sizes.{is_filled}
use Rattle.c_typed.specs.Context.{Context, global_type, function_type, literal_bytes}
use Rattle.ref_semantics.specs.Values.{Name, Heap, GlobalObject, LiteralObject, LocalObject, Place, Scalar, IntegerValue, NullValue, FunctionValue, PointerValue, RawPointer, Content, Dead, Raw, Elements}
use Rattle.ref_semantics.specs.Store.{State}
use Rattle.ref_semantics.specs.Meaning.{Completion, Return}
use Rattle.ref_semantics.specs.Rows.{RowOf, LeafAt, IsSmall}

-- ---- values

-- a name that an object has or had: no other gets it
abbrev pub WasGiven : State → Name → Type 0
WasGiven state (Heap number) = number < state.next_heap
WasGiven state (LocalObject number) = number < state.next_local
WasGiven state name = Unit {0}

-- A place in an object that lives names one of its rows, and an element of that or its end. One in an object that is dead may be any.
abbrev pub StandsIn : Program → Content → Place → Type 0
StandsIn program Dead place = Unit {0}
StandsIn program (Raw size) place = ⊥
StandsIn program (Elements is_static c_type count held) place = RowOf program.structs c_type count place.row × (place.index ≤ place.row.count)

pub record IsPlace (program : Program) (state : State) (place : Place) : Type 0 where
  pub given : WasGiven state place.name
  pub stands : StandsIn program (state.objects place.name) place

-- A value of a scalar type. A pointer to a type that is like void may be one to any object, or to an allocation without a type; a pointer
-- to a function names one of the program.
abbrev pub PointsTo : Program → State → CType → Scalar → Type 0
PointsTo program state target NullValue = Unit {0}
PointsTo program state target (FunctionValue name) = (is_function target ≡ true) × (is_some (function_type program.functions name) ≡ true)
PointsTo program state target (PointerValue place) =
    (is_function target ≡ false) × IsPlace program state place × (is_like_void program.completed target ≡ false → place.row.c_type ≡ target)
PointsTo program state target (RawPointer number) = (is_like_void program.completed target ≡ true) × (number < state.next_heap)
PointsTo program state target (IntegerValue z) = ⊥

abbrev pub HasType : Program → State → CType → Scalar → Type 0
HasType program state (Integer int_type) (IntegerValue z) = is_value int_type z ≡ true
HasType program state (Pointer target) value = PointsTo program state target value
HasType program state Void value = Unit {0}
HasType program state _ value = ⊥

-- arguments of these types
abbrev pub HaveTypes : Program → State → CTypes → List Scalar → Type 0
HaveTypes program state NoTypes [] = Unit {0}
HaveTypes program state (MoreTypes first others) (value ∷ values) = HasType program state first value × HaveTypes program state others values
HaveTypes program state _ _ = ⊥

-- ---- objects

-- What an object holds stands at its leaves, and is of their types. It is of a complete type of an exact size, and has a byte at least.
pub record HoldsTyped (program : Program) (state : State) (c_type : CType) (count : ℕ) (held : ℕ → Option Scalar) : Type 0 where
  pub complete : is_complete program.structs c_type ≡ true
  pub small : IsSmall program.structs c_type
  pub filled : is_filled program.structs c_type ≡ true
  pub some : 1 ≤ count
  pub leaves : (offset : ℕ) (value : Scalar) → held offset ≡ Some value → (own : CType) × LeafAt program.structs c_type count offset own × HasType program state own value

abbrev pub IsSoundContent : Program → State → Content → Type 0
IsSoundContent program state (Elements is_static c_type count held) = HoldsTyped program state c_type count held
IsSoundContent program state (Raw size) = 1 ≤ size
IsSoundContent program state Dead = Unit {0}

-- a local in scope lives and is of its type
abbrev pub AreLocals : State → List ℕ → List CType → Type 0
AreLocals state [] [] = Unit {0}
AreLocals state (newest ∷ others) (c_type ∷ types) =
    (newest < state.next_local) × ((held : ℕ → Option Scalar) × (state.objects (LocalObject newest) ≡ Elements false c_type 1 held)) × AreLocals state others types
AreLocals state _ _ = ⊥

-- an object that lives as long as the program has its type
abbrev pub IsStatic : State → Name → CType → Type 0
IsStatic state name c_type = (held : ℕ → Option Scalar) × (state.objects name ≡ Elements true c_type 1 held)

pub record Sound (around : Context) (state : State) : Type 0 where
  pub contents : (name : Name) → IsSoundContent around.program state (state.objects name)
  -- a name that was not given yet names nothing
  pub fresh : (name : Name) → (WasGiven state name → ⊥) → state.objects name ≡ Dead
  pub locals : AreLocals state state.locals around.locals
  pub globals : (name : List ℕ) (c_type : CType) → global_type around.program.globals name ≡ Some c_type → IsStatic state (GlobalObject name) c_type
  pub literals : (place : Pos) (bytes : List ℕ) → literal_bytes around.program.literals place ≡ Some bytes → IsStatic state (LiteralObject place) (literal_type bytes)

-- ---- what an evaluation leaves

-- An object keeps its type until it is dead, and is dead for good; an allocation may get one.
abbrev pub MayBecome : Content → Content → Type 0
MayBecome Dead after = after ≡ Dead
MayBecome (Raw size) after = Unit {0}
MayBecome (Elements is_static c_type count held) Dead = Unit {0}
MayBecome (Elements is_static c_type count held) (Raw size) = ⊥
MayBecome (Elements is_static c_type count held) (Elements is_static' c_type' count' held') = (is_static ≡ is_static') × (c_type ≡ c_type') × (count ≡ count')

-- an object that is not of the heap lives on
abbrev pub LivesOn : Content → Content → Type 0
LivesOn (Elements is_static c_type count held) after = (held' : ℕ → Option Scalar) × (after ≡ Elements is_static c_type count held')
LivesOn content after = Unit {0}

abbrev pub IsOfHeap : Name → Type 0
IsOfHeap (Heap number) = Unit {0}
IsOfHeap name = ⊥

pub record Later (before after : State) : Type 0 where
  pub next_local : before.next_local ≤ after.next_local
  pub next_heap : before.next_heap ≤ after.next_heap
  pub may : (name : Name) → WasGiven before name → MayBecome (before.objects name) (after.objects name)
  pub lives : (name : Name) → WasGiven before name → (IsOfHeap name → ⊥) → LivesOn (before.objects name) (after.objects name)

-- how a statement ends: a value that is returned is one of the function's result
abbrev pub EndsTyped : Program → State → CType → Completion → Type 0
EndsTyped program state result (Return (Some value)) = HasType program state result value
EndsTyped program state result way = Unit {0}
