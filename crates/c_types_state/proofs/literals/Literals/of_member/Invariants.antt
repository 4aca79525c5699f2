use Rattle.std.proofs.Common.{drop, map}
use Rattle.c_syntax.specs.Views.{declarator_tree}
use Rattle.c_rules.specs.Elaborated.{literals_in_each}
use Rattle.c_types_state.proofs.LiteralsAdded.{SoFar}
use Rattle.c_types_state.proofs.literals.Literals.of_member.Given as goal

abbrev pub invariant-loop-declarator : goal.invariant-loop-declarator
invariant-loop-declarator l =
    SoFar (literals_in_each (map declarator_tree l.declarator-items)) (literals_in_each (map declarator_tree (drop l.declarator-index l.declarator-items))) l.initial.self.found.items l.self.found.items
