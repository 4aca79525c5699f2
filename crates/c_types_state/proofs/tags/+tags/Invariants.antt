use Rattle.c_types_state.proofs.Listing.{Left, of_arguments, of_suffixes}
use Rattle.c_types_state.proofs.tags.+tags.Given as goal

abbrev pub invariant-tags_in-loop-argument : goal.invariant-tags_in-loop-argument
invariant-tags_in-loop-argument l = Left of_arguments l.argument-items l.argument-index l.initial.checker l.checker

abbrev pub invariant-tags_in_declarator-loop-suffix : goal.invariant-tags_in_declarator-loop-suffix
invariant-tags_in_declarator-loop-suffix l = Left of_suffixes l.suffix-items l.suffix-index l.initial.checker l.checker
