use Rattle.std.proofs.Common.{map}
use Rattle.tac_ir.specs.Views.{object_in}
use Rattle.graph_unification.specs.Memory.{owner_of, graph_in, IsGraph}
use Rattle.graph_unification.proofs.LocalNodes.{ObjectsTo}
use Rattle.graph_unification.proofs.objects.add_objects.Given as goal

-- those so far have nodes
abbrev pub invariant-loop-object : goal.invariant-loop-object
invariant-loop-object l = record {
  graph : IsGraph l.types l.graph;
  so_far : ObjectsTo (graph_in l.types l.fn.graph) (graph_in l.types l.graph) (owner_of l.owner) (map (object_in l.types) l.objects) l.object-index;
}
