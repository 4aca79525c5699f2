-- Targets of names whose nodes are certain.
use Rattle.std.proofs.Common.{◌≡◌, false, Option, Some, None, refl, sym, ap, ◌∙◌}
use Rattle.c_typed.specs.Table.{Interned}
use Rattle.heap_graph.specs.declared.graph.Element as memory_element
use Rattle.heap_graph.specs.declared.graph.Flags as memory_flags
use Rattle.heap_graph.specs.Graphs.{Target, Node, Graph, node_at}
use Rattle.graph_unification.specs.Changes.{TellsNode}
use Rattle.heap_graph.specs.Asks.{is_certain}
use Rattle.heap_graph.proofs.Certain.{certain_some}

pub flag_told : (table : Interned) (graph : Graph) (target : Target) (element : memory_element.Element) (flags : memory_flags.Flags)
    → TellsNode table (node_at graph target.node) (Some (element, flags)) → flags.certain ≡ is_certain graph (Some target)
flag_told table graph target element flags = by (node_at graph target.node) refl
  where
    by : (o : Option Node) → node_at graph target.node ≡ o → TellsNode table o (Some (element, flags)) → flags.certain ≡ is_certain graph (Some target)
    by None e h = absurd h
    by (Some node) e h = ap (λ f. f.certain) h.1 ∙ sym (certain_some graph target node e)

pub none_told : (table : Interned) (graph : Graph) (target : Target) → TellsNode table (node_at graph target.node) None → false ≡ is_certain graph (Some target)
none_told table graph target = by (node_at graph target.node) refl
  where
    by : (o : Option Node) → node_at graph target.node ≡ o → TellsNode table o None → false ≡ is_certain graph (Some target)
    by None e h = rw e refl
    by (Some node) e h = absurd h
