use Rattle.std.proofs.Common.{◌≡◌, length}
use Rattle.c_typed.specs.Table.{ListStands, types_in}
use Rattle.heap_graph.specs.Closed.{parameters_in}
use Rattle.heap_graph.specs.Frozen.{target_in}
use Rattle.graph_checker.specs.Formals.{have_targets}
use Rattle.graph_checker.proofs.formals.have_targets.Given as goal

-- the parameters that are left have the targets that are left just where all have theirs
abbrev pub invariant-loop-c_type : goal.invariant-loop-c_type
invariant-loop-c_type l = record {
  stands : ListStands l.types l.rest;
  whole : have_targets (target_in l.left) 0 (parameters_in (types_in l.types l.rest)) ≡ have_targets (target_in l.fn.targets) 0 (parameters_in (types_in l.types l.fn.parameters));
}

abbrev pub decreases-loop-c_type : goal.decreases-loop-c_type
decreases-loop-c_type l = length (parameters_in (types_in l.types l.rest))
