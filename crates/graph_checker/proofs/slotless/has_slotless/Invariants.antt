use Rattle.std.proofs.Common.{◌≡◌}
use Rattle.c_typed.specs.Table.{structs_in, type_in}
use Rattle.heap_graph.specs.Parts.{has_part}
use Rattle.heap_graph.specs.Height.{height_in}
use Rattle.graph_checker.proofs.slotless.has_slotless.Given as goal

abbrev pub invariant-loop-array : goal.invariant-loop-array
invariant-loop-array l =
    has_part (structs_in l.types) (type_in l.types l.whole) l.slot (type_in l.types l.array) ≡ has_part (structs_in l.types) (type_in l.types l.fn.own) l.slot (type_in l.types l.array)

abbrev pub decreases-loop-array : goal.decreases-loop-array
decreases-loop-array l = height_in (λ tag. 0) (type_in l.types l.whole)
