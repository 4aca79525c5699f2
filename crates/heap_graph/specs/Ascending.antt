-- The order of edges in the graphs of a program.
use Rattle.std.specs.Prelude.{◌≡◌, ℕ, slice_get, Some}
use Rattle.heap_graph.specs.declared.frozen.FrozenGraph.{FrozenGraph}
use Rattle.heap_graph.specs.declared.program.ProgramGraphs.{ProgramGraphs}
use Rattle.heap_graph.specs.Orders.{EdgesAscend}

-- the edges of each node stand in the order of their slots
pub record GraphsAscend (graphs : ProgramGraphs) : Type 0 where
  pub groups : (number : ℕ) (graph : FrozenGraph) → slice_get graphs.graphs.items number ≡ Some graph → EdgesAscend graph.nodes.items
  pub start : EdgesAscend graphs.start.nodes.items
