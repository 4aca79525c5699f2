-- The accesses of the machine: which ranges of memory a step loads or stores, and where a range may lie.
use Rattle.std.specs.Prelude.{◌≡◌, ◌⊎◌, ℕ, suc, ◌+◌, ◌≤◌, List, [], ◌∷◌, length, slice_get, Option, Some, None}
use Rattle.std.specs.List.{AllByRecursion}
use Rattle.run_theory.specs.declared.ends.TrapKind.TheVariants as traps
use Rattle.run_theory.specs.Runs.{Leads}
use Rattle.slab_space.specs.Pool.{Cells, Large, Pool, Object, slab_address, cell_address}
use Rattle.slab_space.specs.Pools.{pool_at}
use Rattle.pool_isa.specs.declared.instr.Instr.{Instr}
use Rattle.pool_isa.specs.declared.instr.Instr.TheVariants as instrs
use Rattle.pool_isa.specs.Machine.{Function, Activation, Code, State, size_of, bytes_in, globals_start, act, initial, trap}

-- whether memory is read or written
pub data Direction : Type 0 where
  Loads : Direction
  Stores : Direction

-- so many bytes from an address on
pub record Access : Type 0 where
  pub direction : Direction
  pub address : ℕ
  pub size : ℕ

-- ---- the accesses of a step

-- The accesses of an instruction on these operands, the last one first. One that lacks operands has none.
abbrev pub accesses_of : Option Instr → List ℕ → List Access
accesses_of (Some (instrs.Load type)) (address ∷ operands) = record { direction = Loads; address = address; size = size_of type } ∷ []
accesses_of (Some (instrs.Store width)) (word ∷ address ∷ operands) = record { direction = Stores; address = address; size = bytes_in width } ∷ []
accesses_of (Some instrs.LoadLink) (pool ∷ address ∷ operands) = record { direction = Loads; address = address; size = 4 } ∷ []
accesses_of (Some instrs.StoreLink) (pool ∷ value ∷ address ∷ operands) = record { direction = Stores; address = address; size = 4 } ∷ []
accesses_of instr operands = []

abbrev pub accesses_in : Option Function → Activation → List Access
accesses_in None top = []
accesses_in (Some function) top = accesses_of (slice_get function.code top.place) top.operands

abbrev pub accesses_on : Code → List Activation → List Access
accesses_on code [] = []
accesses_on code (top ∷ callers) = accesses_in (slice_get code.functions top.function) top

-- the accesses of the instruction that comes next
abbrev pub accesses : Code → State → List Access
accesses code state = accesses_on code state.activations

-- ---- safe accesses

-- the range lies within so many bytes from an address on
abbrev pub Within : Access → ℕ → ℕ → Type 0
Within access start bytes = (start ≤ access.address) × (access.address + access.size ≤ start + bytes)

-- it lies in the globals
abbrev pub InGlobals : State → Access → Type 0
InGlobals state access = Within access globals_start (length state.heap.globals)

-- it lies in the frame of one function that was called and has not returned; the innermost one has depth 0
pub record InFrame (state : State) (access : Access) : Type 0 where
  pub depth : ℕ
  pub activation : Activation
  pub running : slice_get state.activations depth ≡ Some activation
  pub within : Within access activation.start (length activation.bytes)

-- A live cell of a pool: one of its kinds of cells has it, and it is not freed. The first cell of a kind has the number 1.
pub record IsCell (pool : Pool) (object : Object) : Type 0 where
  pub kind : ℕ
  pub cells : Cells
  pub before : ℕ
  pub of_kind : slice_get pool.classes kind ≡ Some cells
  pub live : slice_get cells.cells before ≡ Some (Some object.bytes)
  pub start : object.start ≡ cell_address cells (suc before)

-- a large object that a pool holds
pub record IsLarge (pool : Pool) (object : Object) : Type 0 where
  pub number : ℕ
  pub large : Large
  pub held : slice_get pool.large number ≡ Some large
  pub bytes : object.bytes ≡ large.bytes
  pub start : object.start ≡ slab_address large.first

-- it lies in one live cell or object of a pool that was made and is not destroyed
pub record InPool (state : State) (access : Access) : Type 0 where
  pub number : ℕ
  pub pool : Pool
  pub object : Object
  pub living : pool_at state.heap.pools number ≡ Some pool
  pub live : IsCell pool object ⊎ IsLarge pool object
  pub within : Within access object.start (length object.bytes)

-- The range lies in the globals, in one living frame, or in one live cell or object of a pool that is not destroyed.
abbrev pub Safe : State → Access → Type 0
Safe state access = InGlobals state access ⊎ (InFrame state access ⊎ InPool state access)

-- ---- runs

-- In a run each access of a step is safe, or the step is the trap BadAccess: then the run ends, and the state is as before.
abbrev pub AccessesAreSafe : Code → ℕ → ℕ → List ℕ → Type 0
AccessesAreSafe code slabs index input =
    (n : ℕ) (state : State) → Leads (act code) (initial code slabs index input) n state
    → (act code state ≡ trap traps.BadAccess state) ⊎ AllByRecursion (Safe state) (accesses code state)

-- Each access of each step of a run is safe.
abbrev pub RunSafe : Code → ℕ → ℕ → List ℕ → Type 0
RunSafe code slabs index input =
    (n : ℕ) (state : State) → Leads (act code) (initial code slabs index input) n state → AllByRecursion (Safe state) (accesses code state)
