use Rattle.std.proofs.Common.{◌≡◌, map, take}
use Rattle.c_typed.specs.Table.{Interned}
use Rattle.tac_ir.specs.Views.{base_in, step_of}
use Rattle.tac_ir.proofs.path.Path.copied.Given as goal

-- the base, and the steps before the index
abbrev pub invariant-loop-step : goal.invariant-loop-step
invariant-loop-step l = record {
  base : (table : Interned) → base_in table l.base ≡ base_in table l.self.base;
  steps : map step_of l.steps.items ≡ map step_of (take l.step-index l.step-items);
}
