-- Where an embedding is told by the targets of copies, these are images.
use Rattle.std.proofs.Common.{◌≡◌, ◌==◌, ℕ, Bool, true, Some, ap, ◌∙◌}
use Rattle.indexmap.specs.IndexMap.{IndexMap, get_by}
use Rattle.tac_ir.specs.States.{Owner}
use Rattle.heap_graph.specs.declared.graph.Target as memory_target
use Rattle.heap_graph.specs.Graphs.{Target, OfCopy, Graph, Crossing}
use Rattle.heap_graph.specs.Closed.{Family, IsCrossing}
use Rattle.heap_graph.specs.Frozen.{static_in}
use Rattle.heap_graph.specs.Asks.{is_certain}
use Rattle.heap_graph.specs.Restricted.{if_certain}
use Rattle.heap_graph.proofs.Certain.{if_yes}
use Rattle.dsa_inlining.specs.Copies.{copy_target, TellsCopies}
use Rattle.dsa_inlining.specs.Embedded.{IsImage}

-- the copy of a node at a call out of the owners' group
pub copy_is_image : {S T : Type 0} (family : Family) (owners : Owner → Bool) (made : Graph) (at : Crossing) (copies : IndexMap ℕ ℕ S) (targets : IndexMap ℕ memory_target.Target T) → owners at.owner ≡ true
    → IsCrossing family at → TellsCopies made copies targets → ((node : ℕ) → family.graphs.embedding at node ≡ static_in targets node) → (node copy : ℕ) → get_by (λ key. node == key) copies ≡ Some copy
    → (target : Target) → made.targets (OfCopy copy) ≡ Some target → is_certain made (Some target) ≡ true → IsImage family owners target
copy_is_image family owners made at copies targets own crossing tells shows node copy found target is certain = record {
  at = at;
  own = own;
  crossing = crossing;
  node = node;
  is = shows node ∙ tells node ∙ ap (copy_target made) found ∙ ap (if_certain made) is ∙ if_yes made (Some target) certain;
}
