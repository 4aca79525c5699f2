use Rattle.std.proofs.Common.{◌≡◌, drop}
use Rattle.std.specs.Prelude.{slice_get}
use Rattle.c_typed.specs.Table.{type_in}
use Rattle.heap_graph.specs.Closed.{parameters_of}
use Rattle.graph_unification.specs.Memory.{owner_of, graph_in, IsGraph}
use Rattle.graph_unification.specs.Adding.{AddsEach}
use Rattle.graph_unification.specs.GraphNames.First.{pointer_node, is_pointer_there, formal_at, formals_in, FormalsStand}
use Rattle.graph_unification.proofs.functions.add_parameters.Given as goal

-- those so far have nodes, and the types of the others are left
abbrev pub invariant-loop-number : goal.invariant-loop-number
invariant-loop-number l = record {
  graph : IsGraph l.types l.graph;
  stand : FormalsStand l.types l.left;
  left : formals_in l.types l.left ≡ drop l.number (parameters_of (type_in l.types l.function.c_type));
  each : AddsEach (graph_in l.types l.fn.graph) (graph_in l.types l.graph) (formal_at (owner_of l.owner))
      (λ number. pointer_node (is_pointer_there (slice_get (parameters_of (type_in l.types l.function.c_type)) number))) l.number;
}
