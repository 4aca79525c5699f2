-- The least graphs in which something holds.
use Rattle.std.proofs.Common.{◌≡◌, List, Some, refl, sym, ap, ◌∙◌}
use Rattle.c_typed.specs.Layouts.{StructDef}
use Rattle.heap_graph.specs.Structures.{AreMade}
use Rattle.heap_graph.specs.Graphs.{Target, Graph}
use Rattle.heap_graph.specs.Merging.{IsSlot, IsSound, mapped, Asked}
use Rattle.heap_graph.specs.Steps.{unmoved}
use Rattle.heap_graph.proofs.MapsCompose.{mapped_there}
use Rattle.heap_graph.proofs.StepsCompose.{settled_slot, itself}
use Rattle.graph_unification.specs.Leading.{Least}

-- a slot of a graph is mapped to itself
pub slot_here : (structs : List StructDef) (graph : Graph) (target : Target) → IsSlot structs graph target → mapped graph unmoved target ≡ Some target
slot_here structs graph target slot =
    mapped_there graph unmoved target slot.node slot.is
    ∙ ap (λ s. Some (record { node = target.node; shift = s })) (sym (settled_slot structs slot.node.element target.shift slot.inside))

-- where it holds in the graph itself
pub least_same : (structs : List StructDef) → AreMade structs → (graph : Graph) → IsSound structs graph → (asked : Asked) → asked graph unmoved → Least structs graph graph asked
least_same structs made graph sound asked holds = record {
  map = unmoved;
  maps = itself structs made graph sound;
  onto = λ number node e. (number, node, e, refl);
  holds = holds;
  least = λ other into maps asks. (into, maps, λ number node e. refl);
}
