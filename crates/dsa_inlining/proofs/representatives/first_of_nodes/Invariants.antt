use Rattle.std.proofs.Common.{map}
use Rattle.std.specs.Map.Iter.{deref_pair}
use Rattle.dsa_inlining.proofs.SeenNodes.{SeesEntries}
use Rattle.dsa_inlining.proofs.representatives.first_of_nodes.Given as goal

-- the nodes of the entries before are seen
abbrev pub invariant-loop-number : goal.invariant-loop-number
invariant-loop-number l = SeesEntries (map deref_pair l.yielded) l.fn.seen.keys l.seen.keys l.numbers.items
