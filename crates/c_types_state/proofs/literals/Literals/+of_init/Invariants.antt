use Rattle.std.proofs.Common.{drop}
use Rattle.c_syntax.specs.Views.{inits_of}
use Rattle.c_rules.specs.Elaborated.{literals_in_inits}
use Rattle.c_types_state.proofs.LiteralsAdded.{SoFar}
use Rattle.c_types_state.proofs.literals.Literals.+of_init.Given as goal

abbrev pub invariant-loop-init : goal.invariant-loop-init
invariant-loop-init l =
    SoFar (literals_in_inits (inits_of l.init-items)) (literals_in_inits (inits_of (drop l.init-index l.init-items))) l.initial.self.found.items l.self.found.items
