use Rattle.std.proofs.Common.{◌≡◌, ◌++◌, drop}
use Rattle.graph_text.specs.Names.{numbered_names}
use Rattle.graph_text.proofs.names.add_numbered.Given as goal

abbrev pub invariant-loop-number : goal.invariant-loop-number
invariant-loop-number l = l.found.items ++ numbered_names l.owner l.kind l.number (drop l.number l.targets) ≡ l.fn.found.items ++ numbered_names l.owner l.kind 0 l.targets
