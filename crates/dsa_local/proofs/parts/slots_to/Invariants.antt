use Rattle.std.proofs.Common.{◌≡◌, ◌+◌, map, drop}
use Rattle.c_typed.specs.Table.{structs_in, type_in}
use Rattle.graph_unification.specs.Fits.{slots_to}
use Rattle.graph_unification.specs.GraphPremises.First.{step_in}
use Rattle.dsa_local.proofs.parts.slots_to.Given as goal

-- those in front, and those of the steps from the index on, are all
abbrev pub invariant-loop-part : goal.invariant-loop-part
invariant-loop-part l =
    l.slots + slots_to (structs_in l.types) (map step_in (drop l.part-index l.parts)) (type_in l.types l.own) ≡ slots_to (structs_in l.types) (map step_in l.parts) (type_in l.types l.fn.c_type)
