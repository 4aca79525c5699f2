use Rattle.heap_graph.specs.Embeddings.{NodesHaveSlots}
use Rattle.graph_checker.proofs.Judged.{Left}
use Rattle.graph_tests.proofs.fitting.have_slots.Given as goal

-- what is asked of those that are left holds just where it holds of all
abbrev pub invariant-loop-graph : goal.invariant-loop-graph
invariant-loop-graph l = Left (λ graph. graph) (NodesHaveSlots l.types) l.graphs l.graph-index
