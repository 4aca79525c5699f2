-- States of a run of code with pools: the machine's heap and globals, and for each activation its words, its descriptors, and the bytes of
-- its frame, in which its objects lie. The bytes that the layout keeps for words there belong to no object: they stay as they were at entry,
-- and no load or store reaches them.
use Rattle.std.specs.Prelude.{ℕ, suc, ◌%◌, ◌^◌, ◌==◌, ◌&&◌, if◌then◌else◌, List, [], ◌∷◌, ◌++◌, length, slice_get, Option, Some, None}
use Rattle.run_theory.specs.declared.ends.TrapKind.{TrapKind}
use Rattle.run_theory.specs.declared.ends.TrapKind.TheVariants as traps
use Rattle.run_theory.specs.Runs.{Trapped, Move, To, Halt}
use Rattle.slab_space.specs.declared.kind.PoolKind.{PoolKind}
use Rattle.slab_space.specs.Pools.{Pools, init_step, destroy_step, lives_of}
use Rattle.tac_ir.specs.declared.register.Register.{Register}
use Rattle.tac_ir.specs.Events.{TacEvent, Crossed}
use Rattle.tac_ir.specs.States.{Owner, InStart, InFunction}
use Rattle.pool_ir.specs.Code.{Op, Action, Make, Destroy, Edge, Function, PoolCode}
use Rattle.pool_ir.specs.Words.{Words, with_word}

-- ---- what happens

-- the events of three-address code, pools made, with their kinds, and destroyed, and in which pool each object was placed
pub data PoolEvent : Type 0 where
  Same : (event : TacEvent) → PoolEvent
  Opened : (pool kind : ℕ) → PoolEvent
  Closed : (pool : ℕ) → PoolEvent
  Placed : (object pool : ℕ) → PoolEvent

abbrev pub same_of : PoolEvent → List TacEvent
same_of (Same event) = event ∷ []
same_of event = []

-- the events that three-address code has, too
abbrev pub same : List PoolEvent → List TacEvent
same [] = []
same (event ∷ trace) = same_of event ++ same trace

-- ---- states

-- Of the bytes of the frame so many, the first, are kept for words.
pub record Activation : Type 0 where
  pub owner : Owner
  pub words : Words
  pub descriptors : ℕ → ℕ
  pub start : ℕ
  pub kept : ℕ
  pub bytes : List ℕ
  pub at : ℕ

-- The activation that runs, and those that wait for a call, the innermost first, each with the site of that call; the bytes of the globals,
-- the pools, where each object of the heap was placed, the newest first, the input that is left, and what happened so far. Of the cost of
-- the point so much is paid.
pub record State : Type 0 where
  pub running : Activation
  pub callers : List (ℕ × Activation)
  pub globals : List ℕ
  pub pools : Pools
  pub placed : List ℕ
  pub input : List ℕ
  pub trace : List PoolEvent
  pub paid : ℕ

-- ---- programs

abbrev pub function_of : PoolCode → Owner → Option Function
function_of code InStart = Some code.start
function_of code (InFunction number) = slice_get code.functions number

abbrev pub points_of : Option Function → List Op
points_of None = []
points_of (Some function) = function.points

abbrev pub actions_from : List Edge → ℕ → ℕ → List Action
actions_from [] from to = []
actions_from (edge ∷ others) from to = if (edge.from == from) && (edge.to == to) then edge.actions else actions_from others from to

abbrev pub actions_of : Option Function → ℕ → ℕ → List Action
actions_of None from to = []
actions_of (Some function) from to = actions_from function.edges from to

-- ---- ways to go on

abbrev pub trap : TrapKind → State → Move State
trap kind state = Halt (Trapped kind) state

abbrev pub emit : List PoolEvent → State → State
emit events state = record state { trace = state.trace ++ events }

-- a descriptor is a word of 64 bits, too
abbrev pub with_descriptor : ℕ → ℕ → (ℕ → ℕ) → ℕ → ℕ
with_descriptor descriptor pool descriptors other = if descriptor == other then pool % 2 ^ 64 else descriptors other

abbrev pub opens : ℕ → ℕ → Option PoolKind → State → (State → Move State) → Move State
opens descriptor number None state next = trap traps.Reached state
opens descriptor number (Some kind) state next =
    let pool = suc (length state.pools.pools) in
    next (emit (Opened pool number ∷ []) (record state {
      running = record state.running { descriptors = with_descriptor descriptor pool state.running.descriptors };
      pools = init_step state.pools kind;
    }))

abbrev pub closes : ℕ → State → (State → Move State) → Move State
closes pool state next = if lives_of state.pools pool then next (emit (Closed pool ∷ []) (record state { pools = destroy_step state.pools pool })) else trap traps.BadPool state

-- what is done with pools, one after another
abbrev pub acts : PoolCode → List Action → State → (State → Move State) → Move State
acts code [] state next = next state
acts code (Make descriptor kind ∷ others) state next = opens descriptor kind (slice_get code.kinds kind) state (λ later. acts code others later next)
acts code (Destroy descriptor ∷ others) state next = closes (state.running.descriptors descriptor) state (λ later. acts code others later next)

-- at another point of the function
abbrev pub arrived : ℕ → ℕ → State → Move State
arrived from at state = To (record state { running = record state.running { at = at }; trace = state.trace ++ Same (Crossed from at) ∷ []; paid = 0 })

abbrev pub go_to : PoolCode → ℕ → State → Move State
go_to code at state = acts code (actions_of (function_of code state.running.owner) state.running.at at) state (arrived state.running.at at)

-- at the point behind
abbrev pub go_on : PoolCode → State → Move State
go_on code state = go_to code (suc state.running.at) state

-- with this in a register
abbrev pub write : PoolCode → Register → ℕ → State → Move State
write code register word state = go_on code (record state { running = record state.running { words = with_word register word state.running.words } })
