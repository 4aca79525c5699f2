-- What is known of the pool where one serves all: it is mixed, it is the only one that was made, it lives, and each activation holds it.
use Rattle.std.specs.Prelude.{◌≡◌, ⊤, ℕ, List, [], ◌∷◌, Some}
use Rattle.slab_space.specs.declared.kind.PoolKind.TheVariants.{Mixed}
use Rattle.slab_space.specs.Pool.{Pool}
use Rattle.pool_ir.specs.States.{Activation, State}

-- one mixed pool was made, and lives
abbrev pub HasOnePool : State → Type 0
HasOnePool machine = (pool : Pool) × (machine.pools.pools ≡ Some pool ∷ []) × (pool.kind ≡ Mixed)

-- the first descriptor of each activation holds it
abbrev pub AllHold : List (ℕ × Activation) → Type 0
AllHold [] = ⊤
AllHold (waiting ∷ callers) = (waiting.1.descriptors 0 ≡ 1) × AllHold callers

pub record KnowsOnePool (machine : State) : Type 0 where
  pub pool : HasOnePool machine
  pub running : machine.running.descriptors 0 ≡ 1
  pub callers : AllHold machine.callers
