use Rattle.std.proofs.Common.{ℕ, List, drop}
use Rattle.graph_text.specs.Texts.{AppendsGroups}
use Rattle.graph_text.proofs.graphs.put_groups.Given as goal

abbrev pub invariant-loop-number : goal.invariant-loop-number
invariant-loop-number l = (after : List ℕ) → AppendsGroups l.table l.graphs l.labels l.number (drop l.number l.groups) l.text.items after → AppendsGroups l.table l.graphs l.labels 0 l.groups l.fn.text.items after
