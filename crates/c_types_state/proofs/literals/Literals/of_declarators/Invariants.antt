use Rattle.std.proofs.Common.{drop, map}
use Rattle.c_syntax.specs.Views.{init_declarator_tree}
use Rattle.c_rules.specs.Elaborated.{literals_in_declarators}
use Rattle.c_types_state.proofs.LiteralsAdded.{SoFar}
use Rattle.c_types_state.proofs.literals.Literals.of_declarators.Given as goal

abbrev pub invariant-loop-declarator : goal.invariant-loop-declarator
invariant-loop-declarator l =
    SoFar (literals_in_declarators (map init_declarator_tree l.declarators)) (literals_in_declarators (map init_declarator_tree (drop l.declarator-index l.declarators))) l.initial.self.found.items l.self.found.items
