-- What is read of the nodes of a function's graph is read of the graph in memory.
use Rattle.std.proofs.Common.{◌≡◌, ℕ, Bool, List, Option, Some, None, refl, ap}
use Rattle.c_typed.specs.Table.{Interned}
use Rattle.tac_ir.specs.States.{Owner}
use Rattle.heap_graph.specs.Graphs.{Target, Node, Graph, node_at}
use Rattle.heap_graph.specs.Targets.{at_target, shifted, edge_at}
use Rattle.heap_graph.specs.Closed.{Family, graph_of}
use Rattle.heap_graph.specs.Frozen.{bare}
use Rattle.heap_graph.specs.declared.frozen.FrozenGraph.{FrozenGraph}
use Rattle.heap_graph.specs.Shows.{ShowsGraph}

abbrev with_nodes : List (Option Node) → Graph
with_nodes nodes = record { nodes = nodes; targets = λ name. None }

module _ (table : Interned) (family : Family) (owner : Owner) (graph : FrozenGraph) (shows : ShowsGraph table family owner graph) where
  pub shown_node : (number : ℕ) → node_at (graph_of family owner) number ≡ node_at (bare table graph) number
  shown_node number = ap (λ nodes. node_at (with_nodes nodes) number) shows.nodes

  pub shown_at : (target : Option Target) (holds : Node → ℕ → Bool) → at_target (graph_of family owner) target holds ≡ at_target (bare table graph) target holds
  shown_at None holds = refl
  shown_at (Some target) holds = ap (λ nodes. at_target (with_nodes nodes) (Some target) holds) shows.nodes

  pub shown_shifted : (slots : ℕ) (target : Option Target) → shifted (graph_of family owner) slots target ≡ shifted (bare table graph) slots target
  shown_shifted slots None = refl
  shown_shifted slots (Some target) = ap (λ nodes. shifted (with_nodes nodes) slots (Some target)) shows.nodes

  pub shown_edge : (target : Option Target) → edge_at (graph_of family owner) target ≡ edge_at (bare table graph) target
  shown_edge None = refl
  shown_edge (Some target) = ap (λ nodes. edge_at (with_nodes nodes) (Some target)) shows.nodes
