use Rattle.std.proofs.Common.{drop, map, []}
use Rattle.c_syntax.specs.Views.{item_tree}
use Rattle.c_rules.specs.Elaborated.{literals_in_items}
use Rattle.c_types_state.proofs.LiteralsAdded.{SoFar}
use Rattle.c_types_state.proofs.literals.texts_of.Given as goal

abbrev pub invariant-loop-item : goal.invariant-loop-item
invariant-loop-item l =
    SoFar (literals_in_items (map item_tree l.item-items)) (literals_in_items (map item_tree (drop l.item-index l.item-items))) [] l.literals.found.items
