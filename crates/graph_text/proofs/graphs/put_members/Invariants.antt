use Rattle.std.proofs.Common.{◌≡◌, ◌++◌, drop}
use Rattle.graph_text.specs.Texts.{members_text}
use Rattle.graph_text.proofs.graphs.put_members.Given as goal

abbrev pub invariant-loop-member : goal.invariant-loop-member
invariant-loop-member l = l.text.items ++ members_text l.labels (drop l.member-index l.members) ≡ l.fn.text.items ++ members_text l.labels l.members
