use Rattle.c_typed.specs.Table.{structs_in}
use Rattle.graph_unification.specs.Memory.{graph_in, IsGraph}
use Rattle.heap_graph.specs.Frozen.{bare}
use Rattle.dsa_inlining.specs.Copied.{numbers_in}
use Rattle.dsa_inlining.specs.Steps.{NodesAdded}
use Rattle.dsa_inlining.proofs.Noded.{AreFirst}
use Rattle.dsa_inlining.proofs.nodes.copy_nodes.Given as goal

-- the first nodes have copies
abbrev pub invariant-loop-number : goal.invariant-loop-number
invariant-loop-number l = record {
  graph : IsGraph l.types l.graph;
  numbered : AreFirst (bare l.types l.callee) l.escaping l.number-index (numbers_in l.copies) l.first l.copies.next;
  added : NodesAdded (structs_in l.types) (graph_in l.types l.fn.graph) (graph_in l.types l.graph) (bare l.types l.callee) (numbers_in l.copies) l.first l.copies.next;
}
