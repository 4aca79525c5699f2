use Rattle.graph_checker.specs.Programs.{family_of}
use Rattle.graph_checker.proofs.Judged.{Left}
use Rattle.heap_graph.specs.Code.{IsMemberClosed}
use Rattle.graph_checker.proofs.faults.members_closed.Given as goal

-- what those that are left ask holds just where what all ask does
abbrev pub invariant-loop-member : goal.invariant-loop-member
invariant-loop-member l = Left (λ member. member.0) (IsMemberClosed (family_of l.program)) l.members l.member-index
