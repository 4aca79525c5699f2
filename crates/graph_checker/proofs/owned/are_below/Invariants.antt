use Rattle.std.proofs.Common.{◌≡◌, drop}
use Rattle.graph_checker.specs.Tests.{are_below}
use Rattle.graph_checker.proofs.owned.are_below.Given as goal

-- the numbers from this index on are below the count where all are
abbrev pub invariant-loop-number : goal.invariant-loop-number
invariant-loop-number l = are_below l.count (drop l.number-index l.numbers) ≡ are_below l.count l.numbers
