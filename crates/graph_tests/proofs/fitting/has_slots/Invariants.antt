use Rattle.heap_graph.specs.Embeddings.{OptionHasSlots}
use Rattle.graph_checker.proofs.Judged.{Left}
use Rattle.graph_tests.proofs.fitting.has_slots.Given as goal

-- what is asked of those that are left holds just where it holds of all
abbrev pub invariant-loop-node : goal.invariant-loop-node
invariant-loop-node l = Left (λ node. node) (OptionHasSlots l.types) l.nodes l.node-index
