use Rattle.graph_checker.specs.Programs.{family_of}
use Rattle.graph_checker.proofs.Judged.{Left}
use Rattle.graph_checker.specs.ClosedGroups.Sound.{IsSoundMember}
use Rattle.graph_checker.proofs.sound.are_members_sound.Given as goal

-- what is asked of those that are left holds just where it holds of all
abbrev pub invariant-loop-member : goal.invariant-loop-member
invariant-loop-member l = Left (λ member. member.0) (IsSoundMember l.program.tac.now.types (family_of l.program) l.graph l.program.graphs.now.functions.items) l.members l.member-index
