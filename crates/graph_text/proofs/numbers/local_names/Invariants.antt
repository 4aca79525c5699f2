use Rattle.std.proofs.Common.{◌≡◌, ◌++◌, drop, map}
use Rattle.graph_text.specs.Adding.{mark_of}
use Rattle.graph_text.specs.ProgramLabels as L
use Rattle.graph_text.proofs.numbers.local_names.Given as goal

abbrev pub invariant-loop-mark : goal.invariant-loop-mark
invariant-loop-mark l = map (λ name. name.items) l.names.items ++ L.local_names (map mark_of (drop l.mark-index l.marks)) ≡ L.local_names (map mark_of l.marks)
