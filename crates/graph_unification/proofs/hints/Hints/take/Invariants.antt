use Rattle.std.proofs.Common.{length}
use Rattle.graph_unification.proofs.hints.Hints.take.Given as goal

abbrev pub decreases-loop-cell : goal.decreases-loop-cell
decreases-loop-cell l = length l.self.certain.items
