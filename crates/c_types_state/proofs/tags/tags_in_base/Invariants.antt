use Rattle.c_types_state.proofs.Listing.{Left, of_members}
use Rattle.c_types_state.proofs.tags.tags_in_base.Given as goal

abbrev pub invariant-loop-member : goal.invariant-loop-member
invariant-loop-member l = Left of_members l.member-items l.member-index l.initial.checker l.checker
