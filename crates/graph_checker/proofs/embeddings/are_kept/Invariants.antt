use Rattle.std.proofs.Common.{ℕ, ◌<◌}
use Rattle.tac_ir.specs.States.{Owner}
use Rattle.heap_graph.specs.Graphs.{Embedding}
use Rattle.heap_graph.specs.Closed.{Family}
use Rattle.heap_graph.specs.Frozen.{static_in}
use Rattle.heap_graph.specs.Shows.{ShowsGraph}
use Rattle.heap_graph.specs.Embeddings.{AreImages, IsKeptIf}
use Rattle.graph_checker.proofs.embeddings.are_kept.Given as goal

-- the nodes before this number are kept
abbrev pub invariant-loop-number : goal.invariant-loop-number
invariant-loop-number l =
    (family : Family) (owner : Owner) (images : Embedding) → ShowsGraph l.caller.types.now family owner l.caller.graph.now → AreImages images (static_in l.embedding)
    → (number : ℕ) → number < l.number → IsKeptIf family owner images l.caller.types.now l.called l.escaping number
