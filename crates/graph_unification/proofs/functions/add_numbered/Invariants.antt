use Rattle.graph_unification.specs.Memory.{owner_of, graph_in, IsGraph}
use Rattle.graph_unification.specs.Adding.{AddsEach}
use Rattle.graph_unification.specs.GraphNames.First.{pointer_node, numbered_at}
use Rattle.std.proofs.Common.{false}
use Rattle.graph_unification.proofs.functions.add_numbered.Given as goal

-- those so far have nodes
abbrev pub invariant-loop-number : goal.invariant-loop-number
invariant-loop-number l = record {
  graph : IsGraph l.types l.graph;
  each : AddsEach (graph_in l.types l.fn.graph) (graph_in l.types l.graph) (numbered_at (owner_of l.owner) l.kind) (λ number. pointer_node false) l.number;
}
