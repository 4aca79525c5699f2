-- Which pools serve: a plan for each function.
use Rattle.std.specs.Prelude.{ℕ, List, [], ◌∷◌, map}
use Rattle.slab_space.specs.declared.kind.PoolKind.{PoolKind}
use Rattle.slab_space.specs.declared.kind.PoolKind.TheVariants.{Mixed}
use Rattle.tac_ir.specs.Code.{Function, Tac}
use Rattle.pool_ir.specs.Code.{Action, Make, Edge}

-- how many descriptors a function has, of which the first are taken from its caller; where pools are made and destroyed; and by sites, the
-- descriptor of an allocation or a free, and the descriptors that a call passes
pub record FunctionPlan : Type 0 where
  pub descriptors : ℕ
  pub taken : ℕ
  pub entering : List Action
  pub edges : List Edge
  pub leaving : List Action
  pub pool_at : ℕ → ℕ
  pub passes : ℕ → List ℕ

pub record Plan : Type 0 where
  pub kinds : List PoolKind
  pub functions : List FunctionPlan
  pub start : FunctionPlan

-- ---- one pool: `start` makes it, it is passed to each function, and is never destroyed

abbrev pub one_pool_function : Function → FunctionPlan
one_pool_function function = record { descriptors = 1; taken = 1; entering = []; edges = []; leaving = []; pool_at = λ site. 0; passes = λ site. 0 ∷ [] }

abbrev pub one_pool_start : FunctionPlan
one_pool_start = record { descriptors = 1; taken = 0; entering = Make 0 0 ∷ []; edges = []; leaving = []; pool_at = λ site. 0; passes = λ site. 0 ∷ [] }

abbrev pub one_pool : Tac → Plan
one_pool tac = record { kinds = Mixed ∷ []; functions = map one_pool_function tac.functions; start = one_pool_start }
