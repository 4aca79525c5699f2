use Rattle.std.proofs.Common.{◌≡◌, map, take}
use Rattle.graph_unification.specs.Memory.{owner_of}
use Rattle.call_graph.specs.ClassLists.{numbers_of}
use Rattle.dsa_local.specs.Local.{owners_in}
use Rattle.dsa_local.proofs.graphs.owners.Given as goal

abbrev pub invariant-loop-member : goal.invariant-loop-member
invariant-loop-member l = map owner_of l.owners.items ≡ owners_in (numbers_of (take l.member-index l.members))
