-- A plan with pools that come and go: beside the one pool that serves all, each activation has a pool of its own, which is made at entry,
-- holds nothing, and is destroyed at leaving; and what is known of these pools.
use Rattle.std.specs.Prelude.{◌≡◌, ℕ, suc, ◌+◌, ◌^◌, ◌<◌, true, List, [], ◌∷◌, length, map, Some}
use Rattle.slab_space.specs.declared.kind.PoolKind.TheVariants.{Mixed}
use Rattle.slab_space.specs.Pools.{Pools, kind_of, lives_of}
use Rattle.run_theory.specs.Runs.{To}
use Rattle.tac_ir.specs.Values.{OfHeap}
use Rattle.tac_ir.specs.Objects.{is_there}
use Rattle.tac_ir.specs.States as T
use Rattle.tac_ir.specs.States.{Owner, InStart, InFunction}
use Rattle.tac_ir.specs.Meaning.{act}
use Rattle.tac_ir.specs.First.{initial}
use Rattle.tac_ir.specs.Code.{Function, Tac}
use Rattle.pool_ir.specs.Code.{Make, Destroy}
use Rattle.pool_ir.specs.States as P
use Rattle.pool_rewrite.specs.Plan.{FunctionPlan, Plan, one_pool_start}
use Rattle.pool_simulation.specs.Serving.{LiesIn}

abbrev pub own_pools_function : Function → FunctionPlan
own_pools_function function =
    record { descriptors = 2; taken = 1; entering = Make 1 0 ∷ []; edges = []; leaving = Destroy 1 ∷ []; pool_at = λ site. 0; passes = λ site. 0 ∷ [] }

abbrev pub own_pools : Tac → Plan
own_pools tac = record { kinds = Mixed ∷ []; functions = map own_pools_function tac.functions; start = one_pool_start }

-- ---- what is known

-- the second descriptor of an activation, but for that of `start`, holds its own pool, which lives; pools made before have lower numbers
abbrev pub HoldsOwn : Pools → ℕ → Owner → (ℕ → ℕ) → Type 0
HoldsOwn pools above InStart descriptors = descriptors 0 ≡ 1
HoldsOwn pools above (InFunction number) descriptors = (descriptors 0 ≡ 1) × (1 < descriptors 1) × (descriptors 1 < above) × (lives_of pools (descriptors 1) ≡ true)

-- callers' own pools were made before
abbrev pub made_before : ℕ → Owner → (ℕ → ℕ) → ℕ
made_before above InStart descriptors = above
made_before above (InFunction number) descriptors = descriptors 1

abbrev pub AllHoldOwn : Pools → ℕ → P.Activation → List (ℕ × P.Activation) → Type 0
AllHoldOwn pools above running [] = HoldsOwn pools above running.owner running.descriptors
AllHoldOwn pools above running (waiting ∷ callers) =
    HoldsOwn pools above running.owner running.descriptors × AllHoldOwn pools (made_before above running.owner running.descriptors) waiting.1 callers

-- a state that the code comes to on some input, with as many calls as are counted, or more
pub data ReachedBy (tac : Tac) : ℕ → T.State → Type 0 where
  at_first : (input : List ℕ) → ReachedBy tac 0 (initial tac input)
  goes : (calls : ℕ) (state next : T.State) → ReachedBy tac calls state → act tac state ≡ To next → ReachedBy tac calls next
  enters : (calls : ℕ) (state next : T.State) → ReachedBy tac calls state → act tac state ≡ To next → length next.callers ≡ suc (length state.callers) → ReachedBy tac (suc calls) next

-- The numbers of all pools that are made are words of 64 bits: no run makes more calls. Numbers are not used again, so that a descriptor would
-- no longer tell its pool after more.
abbrev pub CallsFew : Tac → Type 0
CallsFew tac = (calls : ℕ) (state : T.State) → ReachedBy tac calls state → calls + 1 < 2 ^ 64

pub record KnowsOwnPools (tac : Tac) (state : T.State) (machine : P.State) : Type 0 where
  pub calls : ℕ
  pub reached : ReachedBy tac calls state
  pub made : length machine.pools.pools ≡ suc calls
  pub one : kind_of machine.pools 1 ≡ Some Mixed
  pub lie : (number : ℕ) → is_there (state.objects (OfHeap number)) ≡ true → LiesIn machine number 1
  pub hold : AllHoldOwn machine.pools (suc (length machine.pools.pools)) machine.running machine.callers
