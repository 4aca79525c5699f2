-- Where objects lie, as far as it counts for the words of pointers: what is asked of a map of memory, and of what registers hold.
use Rattle.std.specs.Prelude.{◌≡◌, ℕ, ◌+◌, ◌%◌, ◌^◌, ◌<◌, ◌≤◌, ◌⊎◌, true, List, slice_get, Some}
use Rattle.c_typed.specs.Layouts.{StructDef}
use Rattle.c_typed.specs.Typed.{GlobalDef, LiteralDef}
use Rattle.run_theory.specs.Runs.{Move, To}
use Rattle.tac_ir.specs.declared.register.Local.{Local}
use Rattle.tac_ir.specs.declared.register.Register.{Register}
use Rattle.tac_ir.specs.Values.{Object, OfGlobal, OfLiteral, OfActivation, Value, Code, Address, Objects}
use Rattle.tac_ir.specs.Layouts.{Inner}
use Rattle.tac_ir.specs.Objects.{Surroundings, is_there, extent_of, held_at, Reached, own_type, leads}
use Rattle.tac_ir.specs.Trees.{Registers}
use Rattle.tac_ir.specs.States as T
use Rattle.tac_ir.specs.Code.{Path, LocalObject, Tac}
use Rattle.pool_isa.specs.Machine.{globals_start}
use Rattle.pool_ir.specs.Code.{FrameLayout, PoolCode}
use Rattle.pool_ir.specs.States as P
use Rattle.pool_ir.specs.Memory.{path_address}
use Rattle.pool_rewrite.specs.Placing.{global_offset, literal_offset, offset_of_local}
use Rattle.pool_rewrite.specs.Rewriting.{path_of}
use Rattle.pool_rewrite.specs.Standing.{MemoryMap, Stands, AreApart}

-- an offset in memory is that in the object
abbrev pub KeepsOffsets : MemoryMap → Type 0
KeepsOffsets memory = (object : Object) (offset : ℕ) → memory.moved object offset ≡ offset

-- what a function's points are run with
abbrev pub around_in : Tac → List LocalObject → ℕ → Surroundings
around_in tac own activation = record { structs = tac.structs; globals = tac.globals; literals = tac.literals; own = own; activation = activation }

-- What is there of a function's own objects lies where its frame has it, behind the frame's beginning, and static objects lie among the
-- globals.
pub record BasesStand (tac : Tac) (own : List LocalObject) (frame : FrameLayout) (activation : ℕ) (objects : Objects) (memory : MemoryMap) (start : ℕ) : Type 0 where
  pub locals : (local : Local) (inner : Inner) → own_type own local ≡ Some inner → is_there (objects (OfActivation activation local)) ≡ true
      → memory.address (OfActivation activation local) ≡ Some (start + offset_of_local frame.objects local)
  pub globals : (number : ℕ) (global : GlobalDef) → slice_get tac.globals number ≡ Some global → is_there (objects (OfGlobal number)) ≡ true
      → memory.address (OfGlobal number) ≡ Some (globals_start + global_offset tac number)
  pub literals : (number : ℕ) (literal : LiteralDef) → slice_get tac.literals number ≡ Some literal → is_there (objects (OfLiteral number)) ≡ true
      → memory.address (OfLiteral number) ≡ Some (globals_start + literal_offset tac number)

-- a word is a place, or that around 2 ^ 64
pub record IsAround (word place : ℕ) : Type 0 where
  pub congruent : word % 2 ^ 64 ≡ place % 2 ^ 64
  pub exact : place < 2 ^ 64 → word ≡ place

-- the end of all addresses: the words of functions are greater
abbrev pub addresses_end : ℕ
addresses_end = 2 ^ 46

-- What is there lies behind address 0 and before that end, each object for itself.
pub record Placed (structs : List StructDef) (memory : MemoryMap) (objects : Objects) : Type 0 where
  pub there : (object : Object) → is_there (objects object) ≡ true
      → (address : ℕ) × (memory.address object ≡ Some address) × (1 ≤ address) × (address + extent_of structs (objects object) ≤ addresses_end)
  pub apart : (object other : Object) (address other_address : ℕ) → is_there (objects object) ≡ true → is_there (objects other) ≡ true → memory.address object ≡ Some address
      → memory.address other ≡ Some other_address → (object ≡ other) ⊎ AreApart address (extent_of structs (objects object)) other_address (extent_of structs (objects other))

-- A pointer into an object that is there points to a place in it, and one to a function has a number that a word holds.
abbrev pub IsInside : List StructDef → Objects → Value → Type 0
IsInside structs objects (Address object offset) = is_there (objects object) ≡ true → offset ≤ extent_of structs (objects object)
IsInside structs objects (Code function) = function < 2 ^ 47
IsInside structs objects value = Unit {0}

abbrev pub AreInside : List StructDef → Objects → Registers → Type 0
AreInside structs objects registers = (register : Register) (value : Value) → registers register ≡ Some value → IsInside structs objects value

-- the same of what objects hold
abbrev pub HoldInside : List StructDef → Objects → Type 0
HoldInside structs objects = (object : Object) (offset : ℕ) (value : Value) → held_at offset (objects object) ≡ Some value → IsInside structs objects value

-- What is there was there before, and is as great.
pub record Lasts (structs : List StructDef) (before after : Objects) : Type 0 where
  pub there : (object : Object) → is_there (after object) ≡ true → is_there (before object) ≡ true
  pub extent : (object : Object) → is_there (after object) ≡ true → extent_of structs (after object) ≡ extent_of structs (before object)

-- A point writes a value to a register, and the code with pools writes a word that stands for it.
pub record Written (structs : List StructDef) (memory : MemoryMap) (to : Register) (state next : T.State) (code : PoolCode) (state' : P.State) (does' : Move P.State) : Type 0 where
  pub value : Value
  pub word : ℕ
  pub does : T.write to value state ≡ To next
  pub also : does' ≡ P.write code to word state'
  pub stands : Stands state.objects memory value word
  pub inside : IsInside structs state.objects value

-- The part of an object to which a path leads is there, and the path's address is its own.
pub record Found (tac : Tac) (own : List LocalObject) (frame : FrameLayout) (activation : ℕ) (memory : MemoryMap) (path : Path) (state : T.State) (running : P.Activation) (reached : Reached) : Type 0 where
  pub leads_to : leads (around_in tac own activation) state.running.registers path ≡ Some reached
  pub there : is_there (state.objects reached.object) ≡ true
  pub inside : reached.inner.offset ≤ extent_of tac.structs (state.objects reached.object)
  pub address : ℕ
  pub address_is : memory.address reached.object ≡ Some address
  pub path_is : path_address running (path_of tac own frame path) ≡ address + reached.inner.offset
