use Rattle.dsa_inlining.specs.Tallies.{own_names}
use Rattle.dsa_inlining.proofs.GroupCounts.Adding.{NamesLeft}
use Rattle.dsa_inlining.proofs.mentions.Mentions.add_groups.Given as goal

-- the groups that are left make up all
abbrev pub invariant-loop-group : goal.invariant-loop-group
invariant-loop-group l = NamesLeft (own_names l.all) l.groups l.initial.self l.group-index l.self
