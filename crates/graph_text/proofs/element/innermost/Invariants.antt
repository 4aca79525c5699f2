use Rattle.std.proofs.Common.{◌≡◌}
use Rattle.c_typed.specs.Table.{Stands, type_in}
use Rattle.graph_text.specs.Parts.{innermost, array_depth}
use Rattle.graph_text.proofs.element.innermost.Given as goal

abbrev pub invariant-loop-element : goal.invariant-loop-element
invariant-loop-element l = record {
  stands : Stands l.table l.inner;
  same : innermost (type_in l.table l.inner) ≡ innermost (type_in l.table l.fn.c_type);
}

abbrev pub decreases-loop-element : goal.decreases-loop-element
decreases-loop-element l = array_depth (type_in l.table l.inner)
