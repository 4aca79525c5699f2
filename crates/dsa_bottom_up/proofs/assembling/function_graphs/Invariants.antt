use Rattle.dsa_bottom_up.proofs.EachTold.{ToldSoFar}
use Rattle.dsa_bottom_up.proofs.assembling.function_graphs.Given as goal

abbrev pub invariant-loop-place : goal.invariant-loop-place
invariant-loop-place l = ToldSoFar l.graph l.crossings l.yielded l.functions.items
