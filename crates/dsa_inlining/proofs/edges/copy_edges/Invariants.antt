use Rattle.c_typed.specs.Table.{structs_in}
use Rattle.graph_unification.specs.Memory.{graph_in, IsGraph}
use Rattle.dsa_inlining.specs.Copied.{numbers_in}
use Rattle.dsa_inlining.proofs.Linked.{AreLinking}
use Rattle.dsa_inlining.proofs.edges.copy_edges.Given as goal

-- the first edges are set
abbrev pub invariant-loop-edge : goal.invariant-loop-edge
invariant-loop-edge l = record {
  graph : IsGraph l.types l.graph;
  linking : AreLinking (structs_in l.types) (graph_in l.types l.fn.graph) (graph_in l.types l.graph) (numbers_in l.copies) l.number l.edge-items l.edge-index;
}
