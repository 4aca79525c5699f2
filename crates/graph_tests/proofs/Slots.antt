-- Slots of nodes that were told of.
use Rattle.std.proofs.Common.{◌≡◌, ◌<◌, Option, Some, None, refl, subst}
use Rattle.c_typed.specs.Table.{Interned, structs_in}
use Rattle.heap_graph.specs.declared.graph.Element as memory_element
use Rattle.heap_graph.specs.declared.graph.Flags as memory_flags
use Rattle.heap_graph.specs.Memory.{element_in}
use Rattle.heap_graph.specs.Graphs.{Target, Node, Graph, node_at}
use Rattle.heap_graph.specs.Merging.{slots, IsSlot}
use Rattle.graph_unification.specs.Changes.{TellsNode}

pub told_slot : (table : Interned) (graph : Graph) (target : Target) (told : memory_element.Element × memory_flags.Flags) → TellsNode table (node_at graph target.node) (Some told)
    → target.shift < slots (structs_in table) (element_in table told.0) → IsSlot (structs_in table) graph target
told_slot table graph target told tells inside = by (node_at graph target.node) refl tells
  where
    by : (o : Option Node) → node_at graph target.node ≡ o → TellsNode table o (Some told) → IsSlot (structs_in table) graph target
    by None e h = absurd h
    by (Some node) e h = record { node = node; is = e; inside = subst (λ x. target.shift < slots (structs_in table) x) h.0 inside }
