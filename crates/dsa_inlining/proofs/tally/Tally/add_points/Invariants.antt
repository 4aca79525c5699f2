use Rattle.tac_ir.specs.Views.{tac_of, op_in}
use Rattle.dsa_inlining.specs.Before.{graphs_before}
use Rattle.dsa_inlining.specs.Counting.{copies_of}
use Rattle.dsa_inlining.specs.Sums.{outside_of}
use Rattle.dsa_inlining.specs.Tallies.{op_mentions}
use Rattle.dsa_inlining.proofs.GroupCounts.Adding.{Left}
use Rattle.dsa_inlining.proofs.tally.Tally.add_points.Given as goal

-- the points that are left make up all
abbrev pub invariant-loop-op : goal.invariant-loop-op
invariant-loop-op l =
    Left l.before (op_in l.before.tac.now.types) (copies_of (tac_of l.before.tac.now) (outside_of (graphs_before l.before) l.group)) (op_mentions (tac_of l.before.tac.now) (outside_of (graphs_before l.before) l.group)) l.points
    l.initial.self l.op-index l.self
