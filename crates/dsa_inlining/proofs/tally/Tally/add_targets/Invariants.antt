use Rattle.tac_ir.specs.Views.{tac_of}
use Rattle.dsa_inlining.specs.Before.{graphs_before}
use Rattle.dsa_inlining.specs.Sums.{outside_of}
use Rattle.dsa_inlining.specs.Tallies.{copies_from, told_from}
use Rattle.dsa_inlining.proofs.GroupCounts.Adding.{Left}
use Rattle.dsa_inlining.proofs.tally.Tally.add_targets.Given as goal

-- the functions that are left make up all
abbrev pub invariant-loop-target : goal.invariant-loop-target
invariant-loop-target l =
    Left l.before (λ target. target.0) (copies_from (tac_of l.before.tac.now) (outside_of (graphs_before l.before) l.group)) (told_from (tac_of l.before.tac.now) (outside_of (graphs_before l.before) l.group)) l.targets
    l.initial.self l.target-index l.self
