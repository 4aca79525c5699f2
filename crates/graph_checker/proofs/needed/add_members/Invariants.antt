use Rattle.graph_checker.specs.Programs.{family_of}
use Rattle.graph_checker.specs.Needed.{IsNeededIn}
use Rattle.graph_checker.proofs.Adding.{Left}
use Rattle.graph_checker.proofs.needed.add_members.Given as goal

-- what is left to add makes up what all need
abbrev pub invariant-loop-member : goal.invariant-loop-member
invariant-loop-member l = Left (λ member. member.0) (IsNeededIn (family_of l.program) l.program.graphs.now.functions.items) l.members l.initial.needed.marks l.member-index l.needed.marks
