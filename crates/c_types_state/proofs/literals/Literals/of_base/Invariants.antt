use Rattle.std.proofs.Common.{drop, map}
use Rattle.c_syntax.specs.Views.{member_tree}
use Rattle.c_rules.specs.Elaborated.{literals_in_members}
use Rattle.c_types_state.proofs.LiteralsAdded.{SoFar}
use Rattle.c_types_state.proofs.literals.Literals.of_base.Given as goal

abbrev pub invariant-loop-member : goal.invariant-loop-member
invariant-loop-member l =
    SoFar (literals_in_members (map member_tree l.member-items)) (literals_in_members (map member_tree (drop l.member-index l.member-items))) l.initial.self.found.items l.self.found.items
