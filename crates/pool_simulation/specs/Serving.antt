-- What is asked of the pools of a plan so that they serve three-address code: at each point that runs, that the pool which an allocation or a
-- free names is one that can do it, and that pools are made and destroyed where they may be; and that what is known of pools tells so at
-- every step.
use Rattle.std.specs.Prelude.{◌≡◌, ◌≢◌, ⊤, ℕ, suc, ◌≤◌, true, false, List, [], ◌∷◌, ◌++◌, length, map, replicate, slice_get, Option, Some, ℤ}
use Rattle.run_theory.specs.Runs.{To}
use Rattle.c_num.specs.declared.IntType.TheVariants as I
use Rattle.c_num.specs.Types.{is_value}
use Rattle.slab_space.specs.declared.kind.PoolKind.{PoolKind}
use Rattle.slab_space.specs.declared.kind.PoolKind.TheVariants.{Homogeneous, Mixed}
use Rattle.slab_space.specs.Runs.{need}
use Rattle.slab_space.specs.Pool.{Object, IsKind}
use Rattle.slab_space.specs.PoolSteps.{placed}
use Rattle.slab_space.specs.Pools.{Pools, init_step, destroy_step, alloc_step, free_step, kind_of, lives_of}
use Rattle.tac_ir.specs.declared.register.Register.{Register}
use Rattle.tac_ir.specs.Values.{OfHeap, NoAddress, Address}
use Rattle.tac_ir.specs.Objects.{is_there}
use Rattle.tac_ir.specs.Trees.{computes}
use Rattle.tac_ir.specs.Events.{Entered}
use Rattle.tac_ir.specs.States as T
use Rattle.tac_ir.specs.States.{InFunction}
use Rattle.tac_ir.specs.Calls.{natural_of, called}
use Rattle.tac_ir.specs.Meaning.{act}
use Rattle.tac_ir.specs.First.{initial}
use Rattle.tac_ir.specs.Code as O
use Rattle.tac_ir.specs.Code.{Tree, Operand, Callee, Tac}
use Rattle.pool_ir.specs.Code as C
use Rattle.pool_ir.specs.Code.{PoolCode, Action, Make, Destroy}
use Rattle.pool_ir.specs.Frames.{objects_start}
use Rattle.pool_ir.specs.States as P
use Rattle.pool_ir.specs.States.{Same, Opened, Closed, with_descriptor}
use Rattle.pool_ir.specs.Memory.{with_number}
use Rattle.pool_ir.specs.Meaning as M
use Rattle.pool_rewrite.specs.Plan.{Plan}
use Rattle.pool_rewrite.specs.Rewriting.{rewritten}
use Rattle.pool_simulation.specs.Regions.{LivesIn}
use Rattle.pool_simulation.specs.InStep.{plan_for, allocation_start, Fits, InStep}

abbrev pub code_of : Tac → Plan → PoolCode
code_of tac plan = rewritten plan tac

-- ---- where code stands

-- what is done at the point that runs
abbrev pub StandsAt : Tac → T.State → O.Op → Type 0
StandsAt tac state op = slice_get (T.points_of (T.function_of tac state.running.owner)) state.running.at ≡ Some op

-- the pool that serves a site
abbrev pub pool_for : Plan → T.State → P.State → ℕ → ℕ
pool_for plan state machine site = machine.running.descriptors ((plan_for plan state.running.owner).pool_at site)

-- the pools that are passed at a call
abbrev pub passed_for : Plan → T.State → P.State → ℕ → List ℕ
passed_for plan state machine site = map (M.pool_of machine) ((plan_for plan state.running.owner).passes site)

-- ---- pools

-- The allocation of this number lies in the living pool of this number, where it was placed.
pub record LiesIn (machine : P.State) (number pool : ℕ) : Type 0 where
  pub object : Object
  pub is : allocation_start machine number ≡ Some object.start
  pub lives : LivesIn machine.pools pool object

-- An object of so many bytes may be placed in a pool of a kind: in a mixed one any object; in a homogeneous one, that has no index, one of
-- the size for which its cells are, which are not smaller, and take no more slabs.
abbrev pub TakesSize : PoolKind → ℕ → Type 0
TakesSize (Homogeneous source cell indexed) bytes = (bytes ≡ source) × (bytes ≤ cell) × (need cell ≤ need bytes) × (indexed ≡ false)
TakesSize Mixed bytes = ⊤

-- so may it in the living pool of this number, of which nothing else is asked for 0 bytes
pub record Takes (pools : Pools) (pool bytes : ℕ) : Type 0 where
  pub kind : PoolKind
  pub is : kind_of pools pool ≡ Some kind
  pub size : 1 ≤ bytes → TakesSize kind bytes

-- no allocation that is there lies in this pool: each lies in another one
abbrev pub HoldsNone : T.State → P.State → ℕ → Type 0
HoldsNone state machine pool = (number : ℕ) → is_there (state.objects (OfHeap number)) ≡ true → (other : ℕ) × (other ≢ pool) × LiesIn machine number other

-- ---- actions

-- a pool is made, and held by a descriptor
abbrev pub pool_made : ℕ → ℕ → PoolKind → P.State → P.State
pool_made descriptor number kind machine =
    let pool = suc (length machine.pools.pools) in
    P.emit (Opened pool number ∷ []) (record machine {
      running = record machine.running { descriptors = with_descriptor descriptor pool machine.running.descriptors };
      pools = init_step machine.pools kind;
    })

abbrev pub pool_destroyed : ℕ → P.State → P.State
pool_destroyed pool machine = P.emit (Closed pool ∷ []) (record machine { pools = destroy_step machine.pools pool })

-- what is done on the way from where code stands to another point, and where it leaves its function
abbrev pub actions_to : Tac → Plan → P.State → ℕ → List Action
actions_to tac plan machine at = P.actions_of (P.function_of (code_of tac plan) machine.running.owner) machine.running.at at

abbrev pub actions_leaving : Tac → Plan → P.State → List Action
actions_leaving tac plan machine = M.leaving_of (P.function_of (code_of tac plan) machine.running.owner)

-- Actions can be done one after another: a pool that is made has a kind, and one that is destroyed lives and holds nothing that is there.
abbrev pub CanAct : PoolCode → T.State → List Action → P.State → Type 0
CanAct code state [] machine = ⊤
CanAct code state (Make descriptor number ∷ others) machine =
    (kind : PoolKind) × (slice_get code.kinds number ≡ Some kind) × CanAct code state others (pool_made descriptor number kind machine)
CanAct code state (Destroy descriptor ∷ others) machine =
    (lives_of machine.pools (machine.running.descriptors descriptor) ≡ true) × HoldsNone state machine (machine.running.descriptors descriptor)
    × CanAct code state others (pool_destroyed (machine.running.descriptors descriptor) machine)

-- ---- what a step does with pools

-- The same function runs at the same point, for the same callers, with the same descriptors and pools.
pub record SamePools (machine later : P.State) : Type 0 where
  pub owner : later.running.owner ≡ machine.running.owner
  pub descriptors : later.running.descriptors ≡ machine.running.descriptors
  pub at : later.running.at ≡ machine.running.at
  pub callers : later.callers ≡ machine.callers
  pub pools : later.pools ≡ machine.pools
  pub placed : later.placed ≡ machine.placed

-- What a point does with pools before its function goes on to another one: nothing; a word is stored; an object is placed or freed; or, once
-- the actions at leaving are done, the caller runs.
pub data Effect (tac : Tac) (plan : Plan) (state : T.State) (machine : P.State) : P.State → Type 0 where
  nothing : (later : P.State) → SamePools machine later → Effect tac plan state machine later
  word_stored : (address size word : ℕ) (stored later : P.State) → with_number machine address size word ≡ Some stored → SamePools stored later → Effect tac plan state machine later
  object_placed : (site : ℕ) (size : Tree) (bytes address : ℕ) (pools : Pools) (later : P.State) → StandsAt tac state (O.Allocate site size) → 1 ≤ bytes
      → Takes machine.pools (pool_for plan state machine site) bytes
      → alloc_step machine.pools (pool_for plan state machine site) bytes ≡ placed address pools → SamePools (record machine { pools = pools; placed = address ∷ machine.placed }) later
      → Effect tac plan state machine later
  object_freed : (site : ℕ) (pointer : Register) (number address : ℕ) (pools : Pools) (later : P.State) → StandsAt tac state (O.Free site pointer)
      → state.running.registers pointer ≡ Some (Address (OfHeap number) 0) → allocation_start machine number ≡ Some address
      → free_step machine.pools (pool_for plan state machine site) address ≡ Some pools → SamePools (record machine { pools = pools }) later → Effect tac plan state machine later
  caller_runs : (value : Option Operand) (site : ℕ) (caller : P.Activation) (callers : List (ℕ × P.Activation)) (left later : P.State) → StandsAt tac state (O.Return value)
      → P.acts (code_of tac plan) (actions_leaving tac plan machine) machine To ≡ To left → left.callers ≡ (site, caller) ∷ callers
      → SamePools (record left { running = caller; callers = callers }) later → Effect tac plan state machine later

-- a function is entered, before its actions at entry
abbrev pub entered : ℕ → ℕ → C.Function → List ℕ → List ℕ → P.State → P.State
entered site number function words pools machine =
    record machine {
      running = record {
        owner = InFunction number;
        words = M.parameters_from 0 words;
        descriptors = M.descriptors_from pools;
        start = M.next_start machine.running;
        kept = objects_start function.frame;
        bytes = replicate function.frame.size 0;
        at = 0;
      };
      callers = (site, machine.running) ∷ machine.callers;
      trace = machine.trace ++ Same (Entered site number) ∷ [];
      paid = 0;
    }

-- A whole step: a part of the cost is paid; or a point has its effect, and then the actions on the edge to the next point are done; or a
-- function is entered, and then its actions at entry are done.
pub data PoolStep (tac : Tac) (plan : Plan) (slabs : ℕ) (state : T.State) (machine : P.State) : P.State → Type 0 where
  cost_paid : (later : P.State) → SamePools machine later → PoolStep tac plan slabs state machine later
  point_left : (at : ℕ) (between : T.State) (reached after later : P.State) → act tac state ≡ T.go_to at between → InStep tac plan slabs between reached → Effect tac plan state machine reached
      → CanAct (code_of tac plan) between (actions_to tac plan reached at) reached → P.acts (code_of tac plan) (actions_to tac plan reached at) reached To ≡ To after
      → P.arrived reached.running.at at after ≡ To later → PoolStep tac plan slabs state machine later
  function_entered : (site number : ℕ) (callee : Callee) (arguments : List Register) (function : C.Function) (words : List ℕ) (next : T.State) (later : P.State)
      → StandsAt tac state (O.Call site callee arguments) → act tac state ≡ To next → slice_get (code_of tac plan).functions number ≡ Some function
      → InStep tac plan slabs next (entered site number function words (passed_for plan state machine site) machine)
      → CanAct (code_of tac plan) next function.entering (entered site number function words (passed_for plan state machine site) machine)
      → P.acts (code_of tac plan) function.entering (entered site number function words (passed_for plan state machine site) machine) To ≡ To later → PoolStep tac plan slabs state machine later

-- ---- what is asked

-- of the pools at the point that runs
pub record Serving (tac : Tac) (plan : Plan) (slabs : ℕ) (state : T.State) (machine : P.State) : Type 0 where
  pub allocates : (site : ℕ) (size : Tree) (z : ℤ) → StandsAt tac state (O.Allocate site size) → computes state.running.registers size ≡ Some z → is_value I.ULong z ≡ true
      → Takes machine.pools (pool_for plan state machine site) (natural_of z)
  pub frees : (site : ℕ) (pointer : Register) (number : ℕ) → StandsAt tac state (O.Free site pointer) → state.running.registers pointer ≡ Some (Address (OfHeap number) 0)
      → is_there (state.objects (OfHeap number)) ≡ true → LiesIn machine number (pool_for plan state machine site)
  -- the machine asks for a living pool though there is nothing to free
  pub frees_null : (site : ℕ) (pointer : Register) → StandsAt tac state (O.Free site pointer) → state.running.registers pointer ≡ Some NoAddress
      → lives_of machine.pools (pool_for plan state machine site) ≡ true
  pub leaves : (value : Option Operand) → StandsAt tac state (O.Return value) → CanAct (code_of tac plan) state (actions_leaving tac plan machine) machine
  -- a call passes as many pools as its function takes
  pub passes : (site number : ℕ) (callee : Callee) (arguments : List Register) (function : C.Function) → StandsAt tac state (O.Call site callee arguments)
      → called tac (T.around_of tac state.running) state.running.registers callee ≡ Some number → slice_get (code_of tac plan).functions number ≡ Some function
      → length ((plan_for plan state.running.owner).passes site) ≡ function.taken
  -- on the edge to the next point, after the effect of this one
  pub crosses : (at : ℕ) (between : T.State) (later : P.State) → act tac state ≡ T.go_to at between → InStep tac plan slabs between later → Effect tac plan state machine later
      → CanAct (code_of tac plan) between (actions_to tac plan later at) later
  pub enters : (site number : ℕ) (callee : Callee) (arguments : List Register) (function : C.Function) (words : List ℕ) (next : T.State) → StandsAt tac state (O.Call site callee arguments)
      → act tac state ≡ To next → slice_get (code_of tac plan).functions number ≡ Some function
      → InStep tac plan slabs next (entered site number function words (passed_for plan state machine site) machine)
      → CanAct (code_of tac plan) next function.entering (entered site number function words (passed_for plan state machine site) machine)

-- Pools of a plan serve code in a heap of so many slabs: what is known of the pools while both go in step holds of the first states, and
-- after each step, and tells what is asked.
pub record Serves (tac : Tac) (plan : Plan) (slabs : ℕ) : Type 1 where
  -- of the descriptors of all activations, of the pools that were made, and of what lies in each
  pub Knows : T.State → P.State → Type 0
  pub fits : Fits tac plan
  pub planned : length plan.functions ≡ length tac.functions
  pub kinds : (number : ℕ) (kind : PoolKind) → slice_get plan.kinds number ≡ Some kind → IsKind kind
  pub starts : (index : ℕ) (input : List ℕ) → CanAct (code_of tac plan) (initial tac input) plan.start.entering (M.initial (code_of tac plan) slabs index input)
  pub first : (index : ℕ) (input : List ℕ) (machine : P.State) → M.from_start (code_of tac plan) (M.initial (code_of tac plan) slabs index input) ≡ To machine
      → InStep tac plan slabs (initial tac input) machine → Knows (initial tac input) machine
  pub serving : (state : T.State) (machine : P.State) → InStep tac plan slabs state machine → Knows state machine → Serving tac plan slabs state machine
  pub kept : (state next : T.State) (machine later : P.State) → InStep tac plan slabs state machine → Knows state machine → act tac state ≡ To next
      → PoolStep tac plan slabs state machine later → InStep tac plan slabs next later → Knows next later
