use Rattle.c_types_state.proofs.Listing.{Left, of_inits}
use Rattle.c_types_state.proofs.tags.+tags_in_init.Given as goal

abbrev pub invariant-loop-init : goal.invariant-loop-init
invariant-loop-init l = Left of_inits l.init-items l.init-index l.initial.checker l.checker
