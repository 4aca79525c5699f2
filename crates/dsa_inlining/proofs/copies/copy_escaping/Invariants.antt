use Rattle.c_typed.specs.Table.{structs_in}
use Rattle.graph_unification.specs.Memory.{graph_in, IsGraph}
use Rattle.heap_graph.specs.Frozen.{bare}
use Rattle.dsa_inlining.specs.Copied.{numbers_in}
use Rattle.dsa_inlining.proofs.Linked.{AreLinked}
use Rattle.dsa_inlining.proofs.copies.copy_escaping.Given as goal

-- the first nodes have their edges
abbrev pub invariant-loop-number : goal.invariant-loop-number
invariant-loop-number l = record {
  graph : IsGraph l.types l.graph;
  linked : AreLinked (structs_in l.types) (graph_in l.types l.initial.graph) (graph_in l.types l.graph) (bare l.types l.callee) l.escaping (numbers_in l.copies) l.number-index;
}
