use Rattle.std.proofs.Common.{◌≡◌, ℕ, ◌<◌, true, get_or}
use Rattle.heap_graph.specs.Embeddings.{is_marked}
use Rattle.graph_checker.proofs.embeddings.only_marked.Given as goal

abbrev pub invariant-loop-number : goal.invariant-loop-number
invariant-loop-number l = (place : ℕ) → place < l.number-index → is_marked l.called l.escaping (get_or l.number-items place 0) ≡ true
