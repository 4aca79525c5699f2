use Rattle.std.proofs.Common.{◌≡◌, ◌++◌, drop}
use Rattle.graph_text.specs.Names.{member_names}
use Rattle.graph_text.proofs.graphs.add_members.Given as goal

abbrev pub invariant-loop-member : goal.invariant-loop-member
invariant-loop-member l = l.found.items ++ member_names l.graphs.functions.items (drop l.member-index l.members) ≡ l.fn.found.items ++ member_names l.graphs.functions.items l.members
