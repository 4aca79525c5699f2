-- Objects of a graph in memory are those of the program's graph.
use Rattle.std.proofs.Common.{◌≡◌, Bool, ◌&&◌, Option, sym, ◌∙◌}
use Rattle.c_typed.specs.Types.{CType}
use Rattle.c_typed.specs.Table.{Interned, structs_in}
use Rattle.tac_ir.specs.States.{Owner}
use Rattle.heap_graph.specs.Graphs.{Target, Flags}
use Rattle.heap_graph.specs.Targets.{has_target, at_target, holds_part, is_array, elements_of, implies}
use Rattle.heap_graph.specs.Closed.{Family, object_closed}
use Rattle.heap_graph.specs.Frozen.{bare}
use Rattle.heap_graph.specs.declared.frozen.FrozenGraph.{FrozenGraph}
use Rattle.heap_graph.specs.Shows.{ShowsGraph}
use Rattle.heap_graph.proofs.Showing.{shown_at}
use Rattle.graph_checker.specs.Objects.{is_object}

pub shown_object : (table : Interned) (family : Family) (owner : Owner) (graph : FrozenGraph) → ShowsGraph table family owner graph → (c_type : CType) (kind : Flags → Bool) (target : Option Target)
    → is_object (structs_in table) (bare table graph) c_type kind target ≡ object_closed family owner c_type kind target
shown_object table family owner graph shows c_type kind target =
    (λ i. has_target target && at_target (bare table graph) target (λ node shift. holds_part (sym shows.structs i) (elements_of c_type) node shift && (kind node.flags && implies (is_array c_type) node.flags.array)))
    ∙ (λ i. has_target target && sym (shown_at table family owner graph shows target (λ node shift. holds_part family.tac.structs (elements_of c_type) node shift && (kind node.flags && implies (is_array c_type) node.flags.array))) i)
