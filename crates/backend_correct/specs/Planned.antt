-- When a plan keeps to its descriptors, and does few things at once.
use Rattle.std.specs.Prelude.{◌≡◌, ℕ, ◌<◌, ◌≤◌, List, length, slice_get, Some}
use Rattle.std.specs.List.{AllByRecursion}
use Rattle.pool_ir.specs.Code.{Action, Make, Destroy}
use Rattle.pool_ir.specs.States.{actions_from}
use Rattle.pool_rewrite.specs.Plan.{FunctionPlan, Plan}
use Rattle.stack_code.specs.Fitting.{IsMaking}

-- the descriptor is one of so many
abbrev pub ActsWithin : ℕ → Action → Type 0
ActsWithin descriptors (Make descriptor kind) = descriptor < descriptors
ActsWithin descriptors (Destroy descriptor) = descriptor < descriptors

abbrev pub AreFew : ℕ → ℕ → List Action → Type 0
AreFew most descriptors actions = AllByRecursion (ActsWithin descriptors) actions × (length actions ≤ most)

pub record FunctionPlanned (most : ℕ) (plan : FunctionPlan) : Type 0 where
  pub taken : plan.taken ≤ plan.descriptors
  pub pools : (site : ℕ) → plan.pool_at site < plan.descriptors
  pub passes : (site : ℕ) → AllByRecursion (λ descriptor. descriptor < plan.descriptors) (plan.passes site) × (length (plan.passes site) ≤ most)
  pub entering : AreFew most plan.descriptors plan.entering
  pub leaving : AreFew most plan.descriptors plan.leaving
  pub edges : (from to : ℕ) → AreFew most plan.descriptors (actions_from plan.edges from to)

pub record Planned (most : ℕ) (plan : Plan) : Type 0 where
  pub functions : (number : ℕ) (own : FunctionPlan) → slice_get plan.functions number ≡ Some own → FunctionPlanned most own
  pub start : FunctionPlanned most plan.start
  pub none_taken : plan.start.taken ≡ 0
  pub making : AllByRecursion (IsMaking plan.kinds) plan.start.entering
