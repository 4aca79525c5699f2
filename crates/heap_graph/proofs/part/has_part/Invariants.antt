use Rattle.std.proofs.Common.{◌≡◌}
use Rattle.c_typed.specs.Table.{Stands, type_in, structs_in}
use Rattle.heap_graph.specs.Parts.{has_part}
use Rattle.heap_graph.specs.Height.{height}
use Rattle.heap_graph.proofs.part.has_part.Given as goal

abbrev pub invariant-loop-part : goal.invariant-loop-part
invariant-loop-part l = record {
  stands : Stands l.types l.whole;
  same : has_part (structs_in l.types) (type_in l.types l.fn.own) l.slot (type_in l.types l.part) ≡ has_part (structs_in l.types) (type_in l.types l.whole) l.at (type_in l.types l.part);
}

abbrev pub decreases-loop-part : goal.decreases-loop-part
decreases-loop-part l = height (structs_in l.types) (type_in l.types l.whole)
