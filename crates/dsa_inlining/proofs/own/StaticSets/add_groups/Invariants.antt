use Rattle.dsa_inlining.specs.Own.{AddsOwnAmong}
use Rattle.dsa_inlining.proofs.own.StaticSets.add_groups.Given as goal

abbrev pub invariant-loop-group : goal.invariant-loop-group
invariant-loop-group l = AddsOwnAmong l.all l.groups l.fn.self l.self
