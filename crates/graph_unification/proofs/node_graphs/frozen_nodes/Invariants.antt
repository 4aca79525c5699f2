use Rattle.std.proofs.Common.{◌≡◌, ℕ, ◌<◌, length}
use Rattle.c_typed.specs.Table.{Interned}
use Rattle.heap_graph.specs.Graphs.{node_at}
use Rattle.graph_unification.specs.Memory.{graph_in, IsGraph}
use Rattle.heap_graph.specs.Frozen.{optional_node, node_there}
use Rattle.graph_unification.specs.Freezing.{Freezes}
use Rattle.graph_unification.proofs.node_graphs.frozen_nodes.Given as goal

abbrev pub invariant-loop-number : goal.invariant-loop-number
invariant-loop-number l = record {
  long : length l.nodes.items ≡ l.number;
  told : (table : Interned) → IsGraph table l.graph → (n : ℕ) → n < l.number → Freezes (graph_in table l.graph) (node_at (graph_in table l.graph) n) (optional_node table (node_there l.nodes.items n));
}
