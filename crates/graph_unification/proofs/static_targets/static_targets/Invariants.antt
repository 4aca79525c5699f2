use Rattle.std.proofs.Common.{drop}
use Rattle.c_typed.specs.Table.{Interned}
use Rattle.graph_unification.specs.Cells.{has_number}
use Rattle.graph_unification.specs.Memory.{graph_in, IsGraph}
use Rattle.heap_graph.specs.Frozen.{static_in}
use Rattle.graph_unification.specs.Freezing.{certain_name, static_name}
use Rattle.graph_unification.proofs.ToldNames.{Telling}
use Rattle.graph_unification.proofs.static_targets.static_targets.Given as goal

abbrev pub invariant-loop-number : goal.invariant-loop-number
invariant-loop-number l = (table : Interned) → IsGraph table l.graph
    → Telling (λ number. certain_name (graph_in table l.graph) (static_name l.kind number)) (has_number l.numbers) (has_number (drop l.number-index l.numbers)) (static_in l.targets)
