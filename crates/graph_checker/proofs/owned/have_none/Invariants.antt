use Rattle.std.proofs.Common.{◌≡◌, drop}
use Rattle.graph_checker.specs.Tests.{have_none}
use Rattle.graph_checker.proofs.owned.have_none.Given as goal

-- there is no target from this number on where there is none at all
abbrev pub invariant-loop-number : goal.invariant-loop-number
invariant-loop-number l = have_none (drop l.number l.targets.items) ≡ have_none (drop l.first l.targets.items)
