-- How a state of code with pools stands for a state of three-address code: registers as words, objects in memory, each allocation where it
-- was placed, whichever pools serve.
use Rattle.std.specs.Prelude.{◌≡◌, ⊤, ℕ, zero, suc, ◌+◌, ◌*◌, ◌^◌, ◌<◌, ◌≤◌, ◌==◌, ◌⊎◌, true, false, if◌then◌else◌, List, [], ◌∷◌, length, map, reverse, slice_get, option_map, unwrap_or, Option, Some, None}
use Rattle.c_typed.specs.Types.{CType, literal_type}
use Rattle.c_typed.specs.Typed.{GlobalDef, LiteralDef}
use Rattle.slab_space.specs.Pool.{Object}
use Rattle.slab_space.specs.Needs.{needs}
use Rattle.tac_ir.specs.declared.register.Local.{Local}
use Rattle.tac_ir.specs.declared.register.Register.{Register}
use Rattle.tac_ir.specs.Values as V
use Rattle.tac_ir.specs.Values.{OfHeap, OfGlobal, OfLiteral, OfActivation, Value, Address, Content, Typed, Objects}
use Rattle.tac_ir.specs.Layouts.{Inner}
use Rattle.tac_ir.specs.Objects.{is_there, extent_of, held_at, own_type}
use Rattle.tac_ir.specs.States as T
use Rattle.tac_ir.specs.States.{Owner, InStart, InFunction}
use Rattle.tac_ir.specs.Code.{Function, Tac}
use Rattle.pool_isa.specs.Machine.{globals_start, number_of}
use Rattle.pool_ir.specs.Code.{FrameLayout}
use Rattle.pool_ir.specs.Frames.{objects_start}
use Rattle.pool_ir.specs.States as P
use Rattle.pool_ir.specs.Memory.{activations_of}
use Rattle.pool_rewrite.specs.Plan.{FunctionPlan, Plan}
use Rattle.pool_rewrite.specs.Placing.{global_offset, literal_offset, statics_size, frame_of, offset_of_local}
use Rattle.pool_rewrite.specs.Rewriting.{slot_of}
use Rattle.pool_rewrite.specs.Standing.{MemoryMap, WordsStand, ContentStands}
use Rattle.pool_simulation.specs.Regions.{Regions, Lives}
use Rattle.pool_simulation.specs.Placed.{AreInside, HoldInside}
use Rattle.pool_simulation.specs.Comparing.{made_in}

-- ---- where objects are

-- the plan of a function; where there is none, it is that of `start`
abbrev pub plan_for : Plan → Owner → FunctionPlan
plan_for plan InStart = plan.start
plan_for plan (InFunction number) = unwrap_or (slice_get plan.functions number) plan.start

-- the frame of a function's activations
abbrev pub frame_for : Tac → Plan → Owner → FrameLayout
frame_for tac plan owner = by (T.function_of tac owner)
  where
    by : Option Function → FrameLayout
    by None = frame_of tac.structs (plan_for plan owner) tac.start
    by (Some function) = frame_of tac.structs (plan_for plan owner) function

-- the activations that run or wait, the innermost first
abbrev pub running_in : T.State → List T.Activation
running_in state = state.running ∷ map (λ (waiting : ℕ × T.Activation). waiting.1) state.callers

-- where a local of an activation lies
abbrev pub local_address : Tac → Plan → List T.Activation → List P.Activation → ℕ → Local → Option ℕ
local_address tac plan (first ∷ others) (own ∷ more) activation local =
    if first.number == activation then Some (own.start + offset_of_local (frame_for tac plan first.owner).objects local) else local_address tac plan others more activation local
local_address tac plan _ _ activation local = None

-- where an allocation was placed; allocations are numbered from 1
abbrev pub allocation_start : P.State → ℕ → Option ℕ
allocation_start machine zero = None
allocation_start machine (suc number) = slice_get (reverse machine.placed) number

-- the address of an object that is or was there
abbrev pub address_in : Tac → Plan → T.State → P.State → V.Object → Option ℕ
address_in tac plan state machine (OfHeap number) = allocation_start machine number
address_in tac plan state machine (OfGlobal number) = Some (globals_start + global_offset tac number)
address_in tac plan state machine (OfLiteral number) = Some (globals_start + literal_offset tac number)
address_in tac plan state machine (OfActivation activation local) = local_address tac plan (running_in state) (activations_of machine) activation local

abbrev pub memory_in : Tac → Plan → T.State → P.State → MemoryMap
memory_in tac plan state machine =
    record {
      address = address_in tac plan state machine;
      moved = λ object offset. offset;
      slot = λ object offset c_type. slot_of c_type;
      extent = λ object. extent_of tac.structs (state.objects object);
    }

-- ---- activations

-- A pointer names an object that was made before: an allocation or an activation with a number below the next one's.
abbrev pub IsOld : T.State → Value → Type 0
IsOld state (Address (OfHeap number) offset) = number < state.next_heap
IsOld state (Address (OfActivation activation local) offset) = activation < state.next_activation
IsOld state value = ⊤

-- An activation at its point, with words that stand for what its registers hold.
pub record ActivationStands (tac : Tac) (plan : Plan) (state : T.State) (memory : MemoryMap) (activation : T.Activation) (machine : P.Activation) : Type 0 where
  pub owner : machine.owner ≡ activation.owner
  pub at : machine.at ≡ activation.at
  pub kept : machine.kept ≡ objects_start (frame_for tac plan activation.owner)
  pub words : WordsStand state.objects memory activation.registers machine.words
  pub inside : AreInside tac.structs state.objects activation.registers
  pub old : (register : Register) (value : Value) → activation.registers register ≡ Some value → IsOld state value
  pub long : length machine.bytes ≡ (frame_for tac plan activation.owner).size

abbrev pub CallersStand : Tac → Plan → T.State → MemoryMap → List (ℕ × T.Activation) → List (ℕ × P.Activation) → Type 0
CallersStand tac plan state memory [] [] = ⊤
CallersStand tac plan state memory (waiting ∷ callers) (own ∷ others) =
    (own.0 ≡ waiting.0) × ActivationStands tac plan state memory waiting.1 own.1 × CallersStand tac plan state memory callers others
CallersStand tac plan state memory _ _ = ⊥

-- an object of an activation that runs or waits, of a local that its function has in memory
abbrev pub HasLocal : Tac → T.Activation → Local → Type 0
HasLocal tac activation local = (inner : Inner) × (own_type (T.objects_of (T.function_of tac activation.owner)) local ≡ Some inner)

abbrev pub IsOwned : Tac → List T.Activation → ℕ → Local → Type 0
IsOwned tac [] activation local = ⊥
IsOwned tac (first ∷ others) activation local = ((first.number ≡ activation) × HasLocal tac first local) ⊎ IsOwned tac others activation local

-- ---- globals and literals

-- a static object of a type, or none
abbrev pub IsOf : Option CType → Content → Type 0
IsOf None content = is_there content ≡ false
IsOf (Some c_type) content = (held : ℕ → Option Value) × (content ≡ Typed c_type 1 held)

-- ---- the heap

-- An allocation that is there lies where it was placed, in a living cell or object of at least its size, which is told by its number.
pub record AllocationStands (tac : Tac) (plan : Plan) (state : T.State) (machine : P.State) (number : ℕ) : Type 0 where
  pub address : ℕ
  pub is : address_in tac plan state machine (OfHeap number) ≡ Some address
  pub object : Object
  pub lives : Lives machine.pools object
  pub begins : object.start ≡ address
  pub long : extent_of tac.structs (state.objects (OfHeap number)) ≤ length object.bytes
  pub told : number_of machine.placed address ≡ number

-- ---- what code has to keep for its memory to be laid out

-- the most bytes of a frame
abbrev pub greatest_frame : ℕ
greatest_frame = 2 ^ 26

-- Frames, static objects and the numbers of functions are in their ranges.
pub record Fits (tac : Tac) (plan : Plan) : Type 0 where
  pub frames : (owner : Owner) → (frame_for tac plan owner).size ≤ greatest_frame
  pub statics : globals_start + statics_size tac ≤ 2 ^ 40
  pub functions : length tac.functions < 2 ^ 47

-- ---- states

-- in a heap of so many slabs
pub record InStep (tac : Tac) (plan : Plan) (slabs : ℕ) (state : T.State) (machine : P.State) : Type 0 where
  pub running : ActivationStands tac plan state (memory_in tac plan state machine) state.running machine.running
  pub callers : CallersStand tac plan state (memory_in tac plan state machine) state.callers machine.callers
  -- what is there
  pub owned : (activation : ℕ) (local : Local) → is_there (state.objects (OfActivation activation local)) ≡ true → IsOwned tac (running_in state) activation local
  pub globals : (number : ℕ) → IsOf (option_map (λ (global : GlobalDef). global.c_type) (slice_get tac.globals number)) (state.objects (OfGlobal number))
  pub literals : (number : ℕ) → IsOf (option_map (λ (literal : LiteralDef). literal_type literal.bytes) (slice_get tac.literals number)) (state.objects (OfLiteral number))
  pub allocations : (number : ℕ) → is_there (state.objects (OfHeap number)) ≡ true → AllocationStands tac plan state machine number
  pub contents : (object : V.Object) → ContentStands tac.structs state.objects (memory_in tac plan state machine) machine object (state.objects object)
  pub inside : HoldInside tac.structs state.objects
  pub old : (object : V.Object) (offset : ℕ) (value : Value) → held_at offset (state.objects object) ≡ Some value → IsOld state value
  pub regions : Regions machine
  pub low : machine.running.start ≤ 2 ^ 40 + length machine.callers * greatest_frame
  pub slabs_are : regions.heap.slabs ≡ slabs
  pub needed : needs regions.heap.sizes ≡ needs (made_in state.trace)
  pub statics : length machine.globals ≡ statics_size tac
  pub next : state.next_heap ≡ suc (length machine.placed)
  pub input : machine.input ≡ state.input
  pub trace : P.same machine.trace ≡ state.trace
  pub paid : machine.paid ≡ state.paid
