use Rattle.c_types_state.proofs.Listing.{Left, of_items, of_declarators}
use Rattle.c_types_state.proofs.tags.outermost.Given as goal

abbrev pub invariant-loop-item : goal.invariant-loop-item
invariant-loop-item l = Left of_items l.item-items l.item-index l.initial.checker l.checker

abbrev pub invariant-loop-tree : goal.invariant-loop-tree
invariant-loop-tree l = Left of_declarators l.tree-items l.tree-index l.initial.checker l.checker
