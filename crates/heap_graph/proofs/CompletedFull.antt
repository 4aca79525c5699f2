-- A graph with all flags has all of them where it is completed; the node of nothing isn't certain.
use Rattle.std.proofs.Common.{◌≡◌, ℕ, zero, suc, true, false, List, [], ◌∷◌, ◌++◌, slice_get, Option, Some, None, refl, subst}
use Rattle.std.specs.Prelude.{map, option_map}
use Rattle.std.proofs.lemmas.Option.{none-some, same_Some}
use Rattle.tac_ir.specs.States.{Owner}
use Rattle.heap_graph.specs.Graphs.{Flags, Node, Graph, there}
use Rattle.heap_graph.specs.Targets.{flags_kept}
use Rattle.heap_graph.specs.Closed.{Family, graph_of}
use Rattle.heap_graph.specs.Completed.{completed_node, nothing_node, nothing_in, completed}
use Rattle.heap_graph.specs.Saturated.{saturated_graph, saturated}
use Rattle.heap_graph.specs.Places.{IsFull}
use Rattle.heap_graph.proofs.FullGraphs.{told_kept, saturated_full, family_full}

module _ (Holds : Node → Type 0) (change : Node → Node) (last : Node) where
  each_in : (nodes : List (Option Node)) → ((number : ℕ) (node : Node) → there (slice_get nodes number) ≡ Some node → Holds (change node)) → Holds last → (number : ℕ) (image : Node)
      → there (slice_get (map (option_map change) nodes ++ Some last ∷ []) number) ≡ Some image → Holds image
  each_in [] each end zero image e = subst Holds (same_Some last image e) end
  each_in [] each end (suc number) image e = absurd (none-some image e)
  each_in (None ∷ nodes) each end zero image e = absurd (none-some image e)
  each_in (Some node ∷ nodes) each end zero image e = subst Holds (same_Some (change node) image e) (each 0 node refl)
  each_in (first ∷ nodes) each end (suc number) image e = each_in nodes (λ n. each (suc n)) end number image e

pub completed_full : (bound : ℕ) (graph : Graph) → IsFull graph → IsFull (completed bound graph)
completed_full bound graph full number image e =
    each_in (λ node. (few : Flags) → flags_kept few node.flags ≡ true) (completed_node bound (nothing_in graph)) (nothing_node (nothing_in graph)) graph.nodes full (λ few. told_kept few false) number image e

pub completed_saturated : (bound : ℕ) (graph : Graph) → IsFull (completed bound (saturated_graph graph))
completed_saturated bound graph = completed_full bound (saturated_graph graph) (saturated_full graph)

-- the graph of a group in a family with all flags
pub completed_in : (bound : ℕ) (family : Family) (owner : Owner) → IsFull (completed bound (graph_of (saturated family) owner))
completed_in bound family owner = completed_full bound (graph_of (saturated family) owner) (family_full family owner)
