use Rattle.std.proofs.Common.{◌≡◌, ◌+◌, map, drop}
use Rattle.c_typed.specs.Table.{structs_in, type_in}
use Rattle.tac_ir.specs.Views.{step_of}
use Rattle.graph_unification.specs.Fits.{slots_to}
use Rattle.graph_unification.proofs.object_steps.slots_to.Given as goal

-- those in front, and those of the steps from the index on, are all
abbrev pub invariant-loop-step : goal.invariant-loop-step
invariant-loop-step l =
    l.slots + slots_to (structs_in l.types) (map step_of (drop l.step-index l.steps)) (type_in l.types l.own) ≡ slots_to (structs_in l.types) (map step_of l.steps) (type_in l.types l.fn.c_type)
