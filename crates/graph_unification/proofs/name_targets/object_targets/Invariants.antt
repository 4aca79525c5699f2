use Rattle.std.proofs.Common.{drop}
use Rattle.c_typed.specs.Table.{Interned}
use Rattle.heap_graph.specs.Graphs.{OfObject}
use Rattle.graph_unification.specs.Memory.{owner_of, graph_in, IsGraph}
use Rattle.graph_unification.specs.Freezing.{certain_name, has_object, local_in}
use Rattle.graph_unification.proofs.ToldNames.{Telling}
use Rattle.graph_unification.proofs.name_targets.object_targets.Given as goal

abbrev pub invariant-loop-object : goal.invariant-loop-object
invariant-loop-object l = (table : Interned) → IsGraph table l.graph
    → Telling (λ local. certain_name (graph_in table l.graph) (OfObject (owner_of l.function) local)) (has_object l.objects) (has_object (drop l.object-index l.objects)) (local_in l.parameters.items l.variables.items)
