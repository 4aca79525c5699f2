-- What a step spends, and what is left then.
use Rattle.std.proofs.Common.{◌≡◌, ℕ, suc, Bool, true, false, if◌then◌else◌, List, refl, ◌∙◌}
use Rattle.run_theory.specs.Runs.{Going}
use Rattle.c_typed.specs.Typed as T
use Rattle.c_typed.specs.Typed.{FunctionDef}
use Rattle.ref_semantics.specs.Store.{TypeEnvironment, State, Stopped, ◌>>=◌, tick}
use Rattle.ref_semantics.specs.Steps.{Task, Start, Enter, EnterName, Apply, Bind, Search, Give, Over, Config, goes_on, step_task}
use Rattle.ref_semantics.specs.Units.{takes_unit, act}
use Rattle.ref_semantics.proofs.Agreeing.{step-agrees}

module _ (around : TypeEnvironment) (functions : List FunctionDef) where
  -- a step spends its unit and then acts
  pub step-spends : (task : Task) (config : Config) → step_task around functions task config ≡ (if takes_unit task then tick (act around functions task config) else act around functions task config)
  step-spends Start config = refl
  step-spends (Enter part) config = refl
  step-spends (EnterName function place arguments groups) config = refl
  step-spends (Apply callee given) config = refl
  step-spends (Bind function types given) config = refl
  step-spends (Search z T.SwitchEnd default) config = refl
  step-spends (Search z (T.Case label others) default) config = refl
  step-spends (Search z (T.Default others) default) config = refl
  step-spends (Search z (T.SwitchStmt one others) default) config = refl
  step-spends (Give given) config = refl
  step-spends (Over final) config = refl

  -- what is left to do, by whether a unit is spent on what is next
  goes-on : (config : Config) (state : State) (spends : Bool) → takes_unit config.task ≡ spends
      → goes_on around functions config state ≡ ((if spends then tick (act around functions config.task config) else act around functions config.task config) >>= goes_on around functions) state
  goes-on config state spends e =
      step-agrees around functions config state
      ∙ ((λ i. (step-spends config.task config i >>= goes_on around functions) state)
      ∙ (λ i. ((if e i then tick (act around functions config.task config) else act around functions config.task config) >>= goes_on around functions) state))

  -- with a unit left
  pub goes-spending : (config : Config) (state : State) (units : ℕ) → takes_unit config.task ≡ true
      → goes_on around functions config (record state { units = suc units }) ≡ (act around functions config.task config >>= goes_on around functions) (record state { units = units })
  goes-spending config state units e = goes-on config (record state { units = suc units }) true e

  -- with none left
  pub goes-nowhere : (config : Config) (state : State) → takes_unit config.task ≡ true
      → goes_on around functions config (record state { units = 0 }) ≡ Stopped (Going state.trace) (record state { units = 0 })
  goes-nowhere config state e = goes-on config (record state { units = 0 }) true e

  -- where none is spent
  pub goes-freely : (config : Config) (state : State) → takes_unit config.task ≡ false
      → goes_on around functions config state ≡ (act around functions config.task config >>= goes_on around functions) state
  goes-freely config state e = goes-on config state false e
