-- What holds of memory at any time while code with pools runs: the globals end before the frames begin, the frames lie one behind another
-- and end before the heap begins, and the pools were reached by calls from new ones, in a heap of so many slabs.
use Rattle.std.specs.Prelude.{◌≡◌, ◌≤◌, ⊤, ℕ, ◌+◌, ◌^◌, ◌⊎◌, List, [], ◌∷◌, length, replicate, Option, Some, None}
use Rattle.std.specs.List.{AllByRecursion}
use Rattle.slab_space.specs.Pool.{Pool, Object, IsKind}
use Rattle.slab_space.specs.Pools.{Pools, pool_at, kind_of, objects_of, objects, address_of, index_of}
use Rattle.slab_space.specs.Needs.{HavePlaced}
use Rattle.pool_isa.specs.Machine.{globals_start}
use Rattle.pool_ir.specs.States.{Activation, State}
use Rattle.pool_ir.specs.Meaning.{next_start}

-- two ranges of bytes have no byte in common
abbrev pub AreApart : ℕ → ℕ → ℕ → ℕ → Type 0
AreApart address size other width = (address + size ≤ other) ⊎ (other + width ≤ address)

-- ---- frames

-- where a frame ends
abbrev pub frame_end : Activation → ℕ
frame_end activation = activation.start + length activation.bytes

-- the first frame begins at 2 ^ 40, and each other one where that of its caller lets it
abbrev pub Stacked : Activation → List (ℕ × Activation) → Type 0
Stacked running [] = running.start ≡ 2 ^ 40
Stacked running ((site, caller) ∷ callers) = (running.start ≡ next_start caller) × Stacked caller callers

-- ---- the heap

abbrev pub IsIn : {X : Type 0} → X → List X → Type 0
IsIn x [] = ⊥
IsIn x (y ∷ ys) = (x ≡ y) ⊎ IsIn x ys

-- the cell or object lives
abbrev pub Lives : Pools → Object → Type 0
Lives p o = IsIn o (objects p)

-- it lives in the pool of this number
abbrev pub LivesIn : Pools → ℕ → Object → Type 0
LivesIn p id o = IsIn o (objects_of (pool_at p id))

-- a living pool is of a kind that it may have
abbrev pub OfKind : Option Pool → Type 0
OfKind None = ⊤
OfKind (Some pool) = IsKind pool.kind

-- the pools come from new ones, by calls, in a heap that ends at 2 ^ 45 or below
pub record SoundHeap (pools : Pools) : Type 0 where
  pub slabs : ℕ
  pub sizes : List ℕ
  pub few : slabs ≤ 2 ^ 32
  pub placed : HavePlaced slabs pools sizes
  pub kinds : AllByRecursion OfKind pools.pools

-- ---- all of memory

pub record Regions (state : State) : Type 0 where
  pub globals : globals_start + length state.globals ≤ 2 ^ 40
  pub frames : Stacked state.running state.callers
  pub below : frame_end state.running ≤ 2 ^ 44
  pub heap : SoundHeap state.pools

-- ---- states that differ in the bytes of memory alone

pub record SameActivation (before after : Activation) : Type 0 where
  pub owner : after.owner ≡ before.owner
  pub words : after.words ≡ before.words
  pub descriptors : after.descriptors ≡ before.descriptors
  pub start : after.start ≡ before.start
  pub kept : after.kept ≡ before.kept
  pub at : after.at ≡ before.at
  pub long : length after.bytes ≡ length before.bytes

abbrev pub SameCallers : List (ℕ × Activation) → List (ℕ × Activation) → Type 0
SameCallers [] [] = ⊤
SameCallers [] (after ∷ others) = ⊥
SameCallers (before ∷ callers) [] = ⊥
SameCallers ((site, before) ∷ callers) ((site_after, after) ∷ others) = (site_after ≡ site) × SameActivation before after × SameCallers callers others

pub record SameButBytes (state later : State) : Type 0 where
  pub running : SameActivation state.running later.running
  pub callers : SameCallers state.callers later.callers
  pub globals : length later.globals ≡ length state.globals
  pub index : later.pools.index ≡ state.pools.index
  pub slab_owners : later.pools.owners ≡ state.pools.owners
  pub made : length later.pools.pools ≡ length state.pools.pools
  pub kinds : (pool : ℕ) → kind_of later.pools pool ≡ kind_of state.pools pool
  pub addresses : (pool number : ℕ) → address_of later.pools pool number ≡ address_of state.pools pool number
  pub indices : (pool address : ℕ) → index_of later.pools pool address ≡ index_of state.pools pool address
  pub placed : later.placed ≡ state.placed
  pub input : later.input ≡ state.input
  pub trace : later.trace ≡ state.trace
  pub paid : later.paid ≡ state.paid

-- ---- states that have the same frames and globals, and those after a call and a return

pub record SameFrames (state later : State) : Type 0 where
  pub start : later.running.start ≡ state.running.start
  pub kept : later.running.kept ≡ state.running.kept
  pub bytes : later.running.bytes ≡ state.running.bytes
  pub callers : later.callers ≡ state.callers
  pub globals : later.globals ≡ state.globals

-- a frame of so many zeros is entered
pub record EntersFrame (state later : State) (site size : ℕ) : Type 0 where
  pub start : later.running.start ≡ next_start state.running
  pub bytes : later.running.bytes ≡ replicate size 0
  pub callers : later.callers ≡ (site, state.running) ∷ state.callers
  pub globals : later.globals ≡ state.globals
  pub pools : later.pools ≡ state.pools

-- the running frame is left, and its caller's runs again
pub record LeavesFrame (state later : State) (site : ℕ) (caller : Activation) : Type 0 where
  pub waiting : state.callers ≡ (site, caller) ∷ later.callers
  pub start : later.running.start ≡ caller.start
  pub kept : later.running.kept ≡ caller.kept
  pub bytes : later.running.bytes ≡ caller.bytes
  pub globals : later.globals ≡ state.globals
  pub pools : later.pools ≡ state.pools
