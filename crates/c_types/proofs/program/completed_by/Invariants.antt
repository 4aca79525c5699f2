use Rattle.c_types.proofs.CompletedOnce.{CompletedFar}
use Rattle.c_types.proofs.program.completed_by.Given as goal

abbrev pub invariant-loop-item : goal.invariant-loop-item
invariant-loop-item l = CompletedFar l.item-items l.item-index l.tags.keys l.completed.items
