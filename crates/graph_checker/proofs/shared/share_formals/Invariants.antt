use Rattle.std.proofs.Common.{◌≡◌, ℕ, ◌<◌}
use Rattle.heap_graph.specs.Frozen.{target_in}
use Rattle.graph_checker.proofs.shared.share_formals.Given as goal

abbrev pub invariant-loop-number : goal.invariant-loop-number
invariant-loop-number l = (number : ℕ) → number < l.number → target_in l.a.parameters.items number ≡ target_in l.b.parameters.items number
