use Rattle.std.proofs.Common.{◌≡◌}
use Rattle.c_typed.specs.Table.{Stands, type_in}
use Rattle.heap_graph.specs.Parts.{alike}
use Rattle.heap_graph.specs.Height.{height_in}
use Rattle.heap_graph.proofs.part.alike.Given as goal

abbrev pub invariant-loop-element : goal.invariant-loop-element
invariant-loop-element l = record {
  one : Stands l.types l.one;
  other : Stands l.types l.other;
  same : alike (type_in l.types l.fn.a) (type_in l.types l.fn.b) ≡ alike (type_in l.types l.one) (type_in l.types l.other);
}

abbrev pub decreases-loop-element : goal.decreases-loop-element
decreases-loop-element l = height_in (λ tag. 0) (type_in l.types l.one)
