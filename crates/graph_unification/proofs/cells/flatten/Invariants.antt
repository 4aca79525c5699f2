use Rattle.std.proofs.Common.{◌≡◌, drop}
use Rattle.graph_unification.specs.Cells.{flat_cell, changed_all}
use Rattle.graph_unification.proofs.cells.flatten.Given as goal

abbrev pub invariant-loop-number : goal.invariant-loop-number
invariant-loop-number l = changed_all (flat_cell l.node) (drop l.number-index l.numbers) l.cells.items ≡ changed_all (flat_cell l.node) l.numbers l.fn.cells.items
