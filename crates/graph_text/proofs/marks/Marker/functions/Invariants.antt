use Rattle.std.proofs.Common.{◌≡◌, ◌++◌, drop, map}
use Rattle.c_syntax.specs.Views.{item_tree}
use Rattle.c_types.specs.Outside.{IsOutside}
use Rattle.graph_text.specs.Adding.{scope_at}
use Rattle.graph_text.specs.ProgramLabels as L
use Rattle.graph_text.proofs.marks.Marker.functions.Given as goal

abbrev pub invariant-loop-tree : goal.invariant-loop-tree
invariant-loop-tree l = record {
  outside : IsOutside (scope_at l.self);
  labels : map L.own_in l.functions.items ++ L.items_labels (scope_at l.self) (map item_tree (drop l.tree-index l.items)) ≡ L.items_labels (scope_at l.fn.self) (map item_tree l.items);
}
