use Rattle.dsa_inlining.proofs.SeenNodes.{both_seen}
use Rattle.dsa_inlining.proofs.told_statics.Statics.representatives.Goals as goal

pub returns : goal.returns
returns c = λ table. both_seen table c.args.graph.now _ _ _ _ c.new-seen.ensures.empty c.in_ok-globals.ensures c.in_ok-literals.ensures
