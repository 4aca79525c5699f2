use Rattle.tac_ir.specs.Views.{tac_of}
use Rattle.graph_unification.specs.Memory.{owner_of}
use Rattle.dsa_inlining.specs.Before.{graphs_before}
use Rattle.dsa_inlining.specs.Counting.{copies_in}
use Rattle.dsa_inlining.specs.Sums.{outside_of}
use Rattle.dsa_inlining.specs.Tallies.{owner_mentions}
use Rattle.dsa_inlining.proofs.GroupCounts.Adding.{Left}
use Rattle.dsa_inlining.proofs.groups.group_count.Given as goal

-- the functions that are left make up all
abbrev pub invariant-loop-owner : goal.invariant-loop-owner
invariant-loop-owner l =
    Left l.before owner_of (copies_in (tac_of l.before.tac.now) (outside_of (graphs_before l.before) l.group)) (owner_mentions (tac_of l.before.tac.now) (outside_of (graphs_before l.before) l.group)) l.owners
    l.initial.tally l.owner-index l.tally
