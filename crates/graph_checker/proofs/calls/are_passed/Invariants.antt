use Rattle.std.proofs.Common.{◌≡◌, ℕ, drop, Option}
use Rattle.c_typed.specs.Table.{type_in, ListStands, types_in}
use Rattle.tac_ir.specs.States.{Owner}
use Rattle.heap_graph.specs.Graphs.{Target}
use Rattle.heap_graph.specs.Closed.{Family, parameters_in, parameters_of, arguments_closed}
use Rattle.heap_graph.specs.Frozen.{bare}
use Rattle.heap_graph.specs.Shows.{ShowsNames}
use Rattle.graph_checker.specs.Images.{AreFormals}
use Rattle.graph_checker.proofs.calls.are_passed.Given as goal

-- the arguments that are left are passed where all are
abbrev pub invariant-loop-number : goal.invariant-loop-number
invariant-loop-number l = record {
  stands : ListStands l.types l.parameters;
  others : (family : Family) (owner : Owner) (formals : ℕ → Option Target) → ShowsNames family owner l.caller.names.now → AreFormals (bare l.types l.caller.graph.now) l.places l.called formals → arguments_closed family owner formals l.number (parameters_in (types_in l.types l.parameters)) (drop l.number l.arguments) ≡ arguments_closed family owner formals 0 (parameters_of (type_in l.types l.fn.c_type)) l.arguments;
}
