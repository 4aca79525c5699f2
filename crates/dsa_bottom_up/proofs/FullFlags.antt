-- What is told of objects is kept where all flags are told.
use Rattle.std.proofs.Common.{ℕ}
use Rattle.tac_ir.specs.States.{InFunction}
use Rattle.heap_graph.specs.Closed.{Family, graph_of, group_of}
use Rattle.heap_graph.specs.Targets.{flags_kept, element_kept}
use Rattle.heap_graph.proofs.MapsCompose.{at_there, at_from}
use Rattle.dsa_bottom_up.specs.Mapping.{GroupMaps, MapsBelow, FlagsBelow}
use Rattle.dsa_bottom_up.specs.LeastGraphs.Making.{IsFullFamily}

pub full_keeps : (family other : Family) (number : ℕ) (maps : GroupMaps) → IsFullFamily other → MapsBelow family other number maps → FlagsBelow family other number maps
full_keeps family other number maps full below function less place node is =
    let theirs = graph_of other (InFunction function) in
    let to = maps (group_of family function) place in
    let there = at_there theirs to (element_kept other.tac.structs node.element) ((below function less).shape.elements place node is) in
    at_from theirs to (λ image shift. flags_kept node.flags image.flags) there.node there.is (full (InFunction function) to.node there.node there.is node.flags)
