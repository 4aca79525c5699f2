use Rattle.std.proofs.Common.{drop}
use Rattle.c_syntax.specs.Views.{block_of, switch_of}
use Rattle.c_rules.specs.Elaborated.{literals_in_block, literals_in_switch}
use Rattle.c_types_state.proofs.LiteralsAdded.{SoFar}
use Rattle.c_types_state.proofs.literals.Literals.+stmt.Given as goal

abbrev pub invariant-of_block-loop-item : goal.invariant-of_block-loop-item
invariant-of_block-loop-item l =
    SoFar (literals_in_block (block_of l.items)) (literals_in_block (block_of (drop l.item-index l.items))) l.initial.self.found.items l.self.found.items

abbrev pub invariant-of_switch-loop-item : goal.invariant-of_switch-loop-item
invariant-of_switch-loop-item l =
    SoFar (literals_in_switch (switch_of l.items)) (literals_in_switch (switch_of (drop l.item-index l.items))) l.initial.self.found.items l.self.found.items
