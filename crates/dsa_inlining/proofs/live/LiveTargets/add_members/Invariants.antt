use Rattle.std.proofs.Common.{drop}
use Rattle.call_graph.specs.ClassLists.{numbers_of}
use Rattle.call_graph.specs.Lists.{rows_in}
use Rattle.dsa_inlining.proofs.LiveRows.{AddsSome}
use Rattle.dsa_inlining.proofs.live.LiveTargets.add_members.Given as goal

-- the functions that are left make up all
abbrev pub invariant-loop-member : goal.invariant-loop-member
invariant-loop-member l = AddsSome (rows_in l.escaping) (numbers_of l.members) (drop l.member-index (numbers_of l.members)) l.fn.self l.self
