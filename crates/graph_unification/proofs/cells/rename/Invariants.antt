use Rattle.std.proofs.Common.{◌≡◌, drop}
use Rattle.graph_unification.specs.Cells.{moved_cell, changed_all}
use Rattle.graph_unification.proofs.cells.rename.Given as goal

abbrev pub invariant-loop-number : goal.invariant-loop-number
invariant-loop-number l = changed_all (moved_cell l.gone l.kept l.distance) (drop l.number-index l.numbers) l.cells.items ≡ changed_all (moved_cell l.gone l.kept l.distance) l.numbers l.fn.cells.items
