-- What a step spends: a unit, or nothing.
use Rattle.std.specs.Prelude.{Bool, true, false, if◌then◌else◌, List, Option, Some, ℤ}
use Rattle.std.specs.Ordering.{int_eq}
use Rattle.c_typed.specs.Typed as T
use Rattle.c_typed.specs.Typed.{SwitchItems, FunctionDef}
use Rattle.ref_semantics.specs.Store.{TypeEnvironment, Eval, give}
use Rattle.ref_semantics.specs.Parts.{spends}
use Rattle.ref_semantics.specs.Steps.{Task, Enter, EnterName, Search, Config, begin_part, enter_name, go_in, next_task, first_of, step_task}

-- whether a unit is spent on it: on the entry of a part and of a library function's name, and on the test of a label
abbrev pub takes_unit : Task → Bool
takes_unit (Enter part) = spends part
takes_unit (EnterName function place arguments groups) = true
takes_unit (Search z (T.Case label others) default) = true
takes_unit _ = false

module _ (around : TypeEnvironment) (functions : List FunctionDef) where
  abbrev pub looks : ℤ → SwitchItems → Option SwitchItems → Config → Config
  looks z T.SwitchEnd default config = go_in around functions default config
  looks z (T.Case label others) default config = if int_eq z label then go_in around functions (Some (T.Case label others)) config else next_task around functions (Search z others default) config
  looks z (T.Default others) default config = next_task around functions (Search z others (first_of default (Some (T.Default others)))) config
  looks z (T.SwitchStmt one others) default config = next_task around functions (Search z others default) config

  -- a step, once its unit is spent
  abbrev pub act : Task → Config → Eval Config
  act (Enter part) config = begin_part around functions part config
  act (EnterName function place arguments groups) config = give (enter_name around functions function place arguments groups config)
  act (Search z items default) config = give (looks z items default config)
  act task config = step_task around functions task config
