use Rattle.c_types_state.proofs.Listing.{Left, of_each}
use Rattle.c_types_state.proofs.tags.tags_in_member.Given as goal

abbrev pub invariant-loop-declarator : goal.invariant-loop-declarator
invariant-loop-declarator l = Left of_each l.declarator-items l.declarator-index l.initial.checker l.checker
