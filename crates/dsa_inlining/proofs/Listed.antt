-- The nodes that escape a function, as they are marked and listed: they are closed under edges, and copies of them are an embedding.
use Rattle.std.proofs.Common.{◌≡◌, ℕ, ◌<◌, ◌↔◌, true, List, length, Contains, Option, Some, refl, sym, ap, subst, ◌∙◌}
use Rattle.c_typed.specs.Table.{Interned, structs_in}
use Rattle.tac_ir.specs.States.{Owner, InFunction}
use Rattle.heap_graph.specs.Graphs.{Node, Graph, node_at}
use Rattle.heap_graph.specs.Escaping.{Reaches, here, along, Escapes}
use Rattle.heap_graph.specs.Memory.{target_of}
use Rattle.heap_graph.specs.Merging.{IsSound}
use Rattle.heap_graph.specs.Closed.{Family, graph_of, crossing, IsEmbedding}
use Rattle.heap_graph.specs.declared.frozen.Node as memory_node
use Rattle.heap_graph.specs.declared.frozen.FrozenGraph.{FrozenGraph}
use Rattle.heap_graph.specs.Frozen.{node_in, node_there, bare}
use Rattle.heap_graph.specs.Shows.{ShowsGraph}
use Rattle.heap_graph.specs.declared.marks.NodeMarks.{NodeMarks}
use Rattle.heap_graph.specs.Marks.{is_marked, AreMarked}
use Rattle.heap_graph.specs.Edges.{EdgesAreFound}
use Rattle.heap_graph.proofs.Nodes.{node_before, node_behind, node_within}
use Rattle.dsa_inlining.specs.Copied.{copy_at, AreCopied}
use Rattle.dsa_inlining.specs.Adding.{AreClosed, AreNumbered}
use Rattle.dsa_inlining.specs.CallCopies.Telling.{CopiesTold}
use Rattle.dsa_inlining.proofs.CallCopies.Closing.{KeepsCertain, closing}

reaches_on : (graph : Graph) (from middle last : ℕ) → Reaches graph from middle → Reaches graph middle last → Reaches graph from last
reaches_on graph from middle last (here n) then = then
reaches_on graph from middle last (along n end node slot to is edge rest) then = along n last node slot to is edge (reaches_on graph to.node end last rest then)

module _ (table : Interned) (family : Family) (called : ℕ) (graph : FrozenGraph) (shows : ShowsGraph table family (InFunction called) graph) (sound : IsSound (structs_in table) (bare table graph)) (found : EdgesAreFound graph)
    (marks : NodeMarks)
    (escaping : (number : ℕ) → number < length graph.nodes.items → (is_marked marks number ≡ true) ↔ Escapes (graph_of family (InFunction called)) (InFunction called) number)
    (numbers : List ℕ) (listed : AreMarked marks numbers) where
  -- a node that is listed escapes
  pub listed_escapes : (number : ℕ) (node : memory_node.Node) → node_there graph.nodes.items number ≡ Some node → Contains numbers number → Escapes (graph_of family (InFunction called)) (InFunction called) number
  listed_escapes number node is has = (escaping number (node_within graph.nodes.items number node is)).0 ((listed number).1 has)

  -- a node that escapes is listed
  pub escapes_listed : (number : ℕ) (node : Node) → node_at (bare table graph) number ≡ Some node → Escapes (graph_of family (InFunction called)) (InFunction called) number → Contains numbers number
  escapes_listed number node is escapes =
      let own = node_behind table graph.nodes.items (bare table graph) refl number node is in
      (listed number).0 ((escaping number (node_within graph.nodes.items number own.0 own.1)).1 escapes)

  -- what the edge of a node that escapes leads to escapes
  pub listed_closed : AreClosed graph.nodes.items numbers
  listed_closed from to has leads =
      let escapes = listed_escapes from leads.node leads.there has in
      let at = found from leads.node leads.edge leads.there leads.has in
      let shown = node_before table graph.nodes.items (graph_of family (InFunction called)) shows.nodes from leads.node leads.there in
      let plain = node_before table graph.nodes.items (bare table graph) refl from leads.node leads.there in
      let end = sound.to from leads.edge.slot (node_in table leads.node) (target_of leads.edge.to) plain at in
      let there : Escapes (graph_of family (InFunction called)) (InFunction called) leads.edge.to.node = record {
        name = escapes.name;
        outside = escapes.outside;
        target = escapes.target;
        is = escapes.is;
        reaches = reaches_on (graph_of family (InFunction called)) escapes.target.node from leads.edge.to.node escapes.reaches
            (along from leads.edge.to.node (node_in table leads.node) leads.edge.slot (target_of leads.edge.to) shown at (here leads.edge.to.node));
      } in
      subst (Contains numbers) leads.leads (escapes_listed leads.edge.to.node end.node end.is there)

  -- copies of all that is listed, of which all is told, are an embedding into a caller's graph
  pub embeds : (owner : Owner) (site : ℕ) (made : Graph) (copies : ℕ → Option ℕ) (first next : ℕ) → KeepsCertain made (graph_of family owner) → AreNumbered (bare table graph) numbers copies first next
      → AreCopied (structs_in table) made (bare table graph) copies → CopiesTold made (bare table graph) copies
      → ((number : ℕ) → family.graphs.embedding (crossing family owner site called) number ≡ copy_at made copies number) → IsEmbedding family owner site called
  embeds owner site made copies first next keeps numbered copied told is =
      closing family owner site called made (bare table graph) copies keeps (subst (λ structs. AreCopied structs made (bare table graph) copies) (sym shows.structs) copied) told
      (λ number copy of_node. (numbered.only number copy of_node).1) is
      (λ number node there.
      let own = node_behind table graph.nodes.items (graph_of family (InFunction called)) shows.nodes number node there in
      node_before table graph.nodes.items (bare table graph) refl number own.0 own.1 ∙ ap Some own.2)
      (λ number node there escapes. numbered.all number node (escapes_listed number node there escapes) there)
      (λ number copy of_node.
      let its = numbered.only number copy of_node in
      let own = node_behind table graph.nodes.items (bare table graph) refl number its.1.0 its.1.1 in
      listed_escapes number own.0 own.1 its.0)
