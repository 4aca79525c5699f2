-- The types of nodes that are kept have slots.
use Rattle.std.proofs.Common.{◌≡◌, ℕ, ◌<◌, Bool, List, Option, Some, None, refl, sym, ap, subst, ◌∙◌, arith}
use Rattle.std.proofs.lemmas.Option.{same_Some}
use Rattle.c_typed.specs.Layouts.{StructDef}
use Rattle.c_typed.specs.Table.{Interned, structs_in}
use Rattle.tac_ir.specs.Code.{Tac}
use Rattle.tac_ir.specs.States.{Owner}
use Rattle.heap_graph.specs.Elements.{HasSlots}
use Rattle.heap_graph.specs.Graphs.{Target, Element, Missing, OfType, Collapsed, Node, Name, Graph, node_at}
use Rattle.heap_graph.specs.Merging.{slots, IsSound}
use Rattle.heap_graph.specs.declared.frozen.Node as memory_node
use Rattle.heap_graph.specs.declared.frozen.FunctionNames.{FunctionNames}
use Rattle.heap_graph.specs.declared.frozen.FrozenGraph.{FrozenGraph}
use Rattle.heap_graph.specs.Frozen.{node_in, node_there, graph_with}
use Rattle.heap_graph.specs.Embeddings.{OptionHasSlots, NodesHaveSlots}
use Rattle.heap_graph.proofs.Nodes.{node_before}
use Rattle.dsa_inlining.specs.Kept.{IsFrozen}
use Rattle.dsa_inlining.specs.Embedded.{AreNamed}
use Rattle.dsa_inlining.proofs.KeptNodes.{before}

has_slots : (structs : List StructDef) (element : Element) (shift : ℕ) → shift < slots structs element → HasSlots structs element
has_slots structs Missing shift less = tt
has_slots structs (OfType c_type) shift less = omega (arith, less)
has_slots structs Collapsed shift less = tt

module _ (table : Interned) (tac : Tac) (owners : Owner → Bool) (made : Graph) (graph : FrozenGraph) (names_of : Owner → Option FunctionNames) (frozen : IsFrozen tac owners made (graph_with table graph names_of))
    (sound : IsSound (structs_in table) made) where
  -- those of the nodes of names' targets
  pub named_slots : (number : ℕ) (name : Name) (target : Target) → made.targets name ≡ Some target → target.node ≡ number → OptionHasSlots table (node_there graph.nodes.items number)
  named_slots number name target is same = by (node_there graph.nodes.items number) refl
    where
      by : (o : Option memory_node.Node) → node_there graph.nodes.items number ≡ o → OptionHasSlots table o
      by None e = tt
      by (Some own) e =
          let was = before made (graph_with table graph names_of) frozen.nodes number (node_in table own) (node_before table graph.nodes.items (graph_with table graph names_of) refl number own e) in
          let slot = sound.names name target is in
          let one : slot.node ≡ was.old = same_Some slot.node was.old (sym slot.is ∙ ap (node_at made) same ∙ was.is) in
          subst (HasSlots (structs_in table)) (ap (λ (n : Node). n.element) one ∙ sym was.keeps.element) (has_slots (structs_in table) slot.node.element target.shift slot.inside)

  -- and so all, where each node is that of a name's target
  pub nodes_have_slots : AreNamed made → NodesHaveSlots table graph
  nodes_have_slots every number = by (node_there graph.nodes.items number) refl
    where
      by : (o : Option memory_node.Node) → node_there graph.nodes.items number ≡ o → OptionHasSlots table o
      by None e = tt
      by (Some own) e =
          let was = before made (graph_with table graph names_of) frozen.nodes number (node_in table own) (node_before table graph.nodes.items (graph_with table graph names_of) refl number own e) in
          let name = every number was.old was.is in
          subst (OptionHasSlots table) e (named_slots number name.0 name.1 name.2 name.3)
