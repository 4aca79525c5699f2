use Rattle.std.proofs.Common.{◌+◌, length}
use Rattle.dsa_inlining.specs.GroupStatics.Telling.{IsTelling}
use Rattle.dsa_inlining.proofs.Untold.{untold}
use Rattle.dsa_inlining.proofs.search.tell_group.Given as goal

abbrev pub invariant-loop-next : goal.invariant-loop-next
invariant-loop-next l = IsTelling l.all l.group l.fn.told.keys l.told.keys l.added.items l.pending.items

-- each turn takes one away and adds the bases of one that is told of from then on
abbrev pub decreases-loop-next : goal.decreases-loop-next
decreases-loop-next l = untold l.all l.told.keys + length l.pending.items
