-- What is closed below a number is so with all flags; and a map to a family with all flags is a map to the family.
use Rattle.std.proofs.Common.{ℕ, Some, sym, ap, ◌∙◌}
use Rattle.tac_ir.specs.States.{Owner, InFunction}
use Rattle.heap_graph.specs.Graphs.{Target, OfResult, ProgramGraphs}
use Rattle.heap_graph.specs.Targets.{shifted, edge_at, element_kept}
use Rattle.heap_graph.specs.Merging.{GraphMap}
use Rattle.heap_graph.specs.Closed.{Family, graph_of, group_of, crossing, of_group, formal, AreOne}
use Rattle.heap_graph.specs.declared.program.ProgramGraphs as memory_graphs
use Rattle.heap_graph.specs.Faults.{GroupClosed}
use Rattle.dsa_inlining.specs.Before.{GraphsBefore}
use Rattle.heap_graph.specs.Saturated.{saturated}
use Rattle.heap_graph.proofs.SaturatedNodes.{element_flagless}
use Rattle.heap_graph.proofs.SaturatedFamilies.{targets_same, at_same, shifted_same, edge_same}
use Rattle.heap_graph.proofs.SaturatedClosed.{function_more, graph_more}
use Rattle.heap_graph.proofs.FullGraphs.{family_full}
use Rattle.dsa_bottom_up.specs.AssembledGroups.Making.{family_at, BeginsWith}
use Rattle.dsa_bottom_up.specs.Mapping.{GroupMaps, MapsOwner, MapsBelow}
use Rattle.dsa_bottom_up.specs.Below.{ClosedBelow}
use Rattle.dsa_bottom_up.specs.LeastGraphs.Making.{other_at, AreLeast}

group_saturated : (family : Family) (number : ℕ) → GroupClosed family number → GroupClosed (saturated family) number
group_saturated family number closed = record {
  functions = λ own function is same. function_more family (InFunction own) function (closed.functions own function is same);
  graph = λ one group is within. graph_more family (InFunction one) (of_group group) (closed.graph one group is within);
}

one_saturated : (family : Family) (a b : ℕ) → AreOne family a b → AreOne (saturated family) a b
one_saturated family a b one = record {
  group = one.group;
  formals = λ number. targets_same family (InFunction a) (formal a number) ∙ (one.formals number ∙ sym (targets_same family (InFunction a) (formal b number)));
  result = targets_same family (InFunction a) (OfResult (InFunction a)) ∙ (one.result ∙ sym (targets_same family (InFunction a) (OfResult (InFunction b))));
}

pub saturated_below : (family : Family) (number : ℕ) → ClosedBelow family number → ClosedBelow (saturated family) number
saturated_below family number closed = record {
  groups = λ at less. group_saturated family at (closed.groups at less);
  classes = λ pointer c_type a b called first second below. one_saturated family a b (closed.classes pointer c_type a b called first second below);
}

module _ (family other : Family) (number : ℕ) (maps : GroupMaps) where
  owner_to_saturated : (owner : Owner) (map : GraphMap) → MapsOwner family (saturated other) number maps owner map → MapsOwner family other number maps owner map
  owner_to_saturated owner map its = record {
    shape = record {
      names = λ name target is. sym (targets_same other owner name) ∙ (its.shape.names name target is ∙ shifted_same other owner target.shift (Some (map target.node)));
      elements = λ at node is.
          sym (at_same other owner (Some (map at)) (element_kept other.tac.structs node.element) (element_flagless other.tac.structs node.element)) ∙ its.shape.elements at node is;
      edges = λ at slot node to is edge.
          sym (ap (edge_at (graph_of (saturated other) owner)) (shifted_same other owner slot (Some (map at))) ∙ edge_same other owner (shifted (graph_of other owner) slot (Some (map at))))
          ∙ (its.shape.edges at slot node to is edge ∙ shifted_same other owner to.shift (Some (map to.node)));
    };
    embeddings = λ site called node target is.
        let kept = its.embeddings site called node target is in
        let place : Target = maps (group_of family called) node in (
          kept.0,
          sym (shifted_same other owner place.shift (other.graphs.embedding (crossing other owner site called) place.node)) ∙ (kept.1 ∙ shifted_same other owner target.shift (Some (map target.node))),
        );
  }

  pub below_to_saturated : MapsBelow family (saturated other) number maps → MapsBelow family other number maps
  below_to_saturated below function less = owner_to_saturated (InFunction function) (maps (group_of family function)) (below function less)

-- so graphs that begin with the least are mapped to those of each other family that is closed below the number
pub least_mapped : (before : GraphsBefore) (number : ℕ) → AreLeast before number → (all : memory_graphs.ProgramGraphs) → BeginsWith before number all → (graphs : ProgramGraphs) → ClosedBelow (other_at before graphs) number
    → (maps : GroupMaps) × MapsBelow (family_at before all) (other_at before graphs) number maps
least_mapped before number least all begins graphs closed =
    let other = other_at before graphs in
    let whole = saturated other in
    let its = least all begins whole.graphs (saturated_below other number closed) (family_full other) in
    (its.0, below_to_saturated (family_at before all) other number its.0 its.1)
