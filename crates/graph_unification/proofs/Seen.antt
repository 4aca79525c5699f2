-- What was read of a graph, and where nothing has to be done.
use Rattle.std.proofs.Common.{◌≡◌, ℕ, true, List, Option, Some, None, refl, sym, ap, subst, ◌∙◌}
use Rattle.std.proofs.lemmas.Option.{none-some}
use Rattle.c_typed.specs.Types.{CType}
use Rattle.c_typed.specs.Layouts.{StructDef}
use Rattle.c_typed.specs.Table.{Interned}
use Rattle.heap_graph.specs.declared.graph.Element as memory_element
use Rattle.heap_graph.specs.declared.graph.Flags as memory_flags
use Rattle.heap_graph.specs.Memory.{element_in, flags_of}
use Rattle.heap_graph.specs.Graphs.{Target, Element, Flags, Edge, Node, Graph, node_at}
use Rattle.heap_graph.specs.Targets.{at_target, edge_at, holds_part}
use Rattle.heap_graph.specs.Merging.{IsSlot, mapped, AreOne, HasEdge}
use Rattle.heap_graph.specs.Steps.{unmoved}
use Rattle.heap_graph.proofs.MapsCompose.{at_from, edge_there}
use Rattle.graph_unification.specs.Changes.{edge_of_node, edge_found, TellsNode}
use Rattle.graph_unification.specs.Asked.{HoldsPart}
use Rattle.graph_unification.proofs.LeastGraphs.{slot_here}

-- a node of which an element and flags were told
pub record Told (table : Interned) (graph : Graph) (number : ℕ) (own : memory_element.Element) (these : memory_flags.Flags) : Type 0 where
  pub node : Node
  pub is : node_at graph number ≡ Some node
  pub element : element_in table own ≡ node.element
  pub flags : flags_of these ≡ node.flags

pub told_node : (table : Interned) (graph : Graph) (number : ℕ) (element : memory_element.Element) (flags : memory_flags.Flags) → TellsNode table (node_at graph number) (Some (element, flags))
    → Told table graph number element flags
told_node table graph number element flags tells = by (node_at graph number) refl tells
  where
    by : (o : Option Node) → node_at graph number ≡ o → TellsNode table o (Some (element, flags)) → Told table graph number element flags
    by None e h = absurd h
    by (Some node) e h = record { node = node; is = e; element = h.0; flags = h.1 }

pub told_none : (table : Interned) (o : Option Node) (node : Node) → TellsNode table o None → o ≡ Some node → ⊥
told_none table None node h e = none-some node e
told_none table (Some own) node h e = h

pub same_target : (a b : Target) → a.node ≡ b.node → a.shift ≡ b.shift → a ≡ b
same_target a b nodes shifts = λ i. record { node = nodes i; shift = shifts i }

pub are_one : (graph : Graph) (a b : Target) → a ≡ b → AreOne a b graph unmoved
are_one graph a b e = ap (mapped graph unmoved) e

-- ---- parts

pub part_seen : (structs : List StructDef) (c_type : CType) (graph : Graph) (at : Target) (node : Node) (e : Element) → node_at graph at.node ≡ Some node → e ≡ node.element
    → ((flags : Flags) (edges : List Edge) → true ≡ holds_part structs c_type (record { element = e; flags = flags; edges = edges }) at.shift)
    → at_target graph (Some at) (holds_part structs c_type) ≡ true
part_seen structs c_type graph at node e is same holds =
    at_from graph at (holds_part structs c_type) node is
    (sym (holds node.flags node.edges ∙ ap (λ x. holds_part structs c_type (record { element = x; flags = node.flags; edges = node.edges }) at.shift) same))

pub holds_here : (structs : List StructDef) (c_type : CType) (graph : Graph) (at : Target) → IsSlot structs graph at → at_target graph (Some at) (holds_part structs c_type) ≡ true
    → HoldsPart structs c_type at graph unmoved
holds_here structs c_type graph at slot h = subst (λ t. at_target graph t (holds_part structs c_type) ≡ true) (sym (slot_here structs graph at slot)) h

-- ---- edges

pub edge_seen : (structs : List StructDef) (graph : Graph) (at to : Target) → IsSlot structs graph at → Some to ≡ edge_found graph at.node at.shift → edge_at graph (Some at) ≡ Some to
edge_seen structs graph at to slot found = edge_there graph at slot.node slot.is ∙ sym (found ∙ ap (edge_of_node at.shift) slot.is)

pub edge_here : (structs : List StructDef) (graph : Graph) (at to : Target) → IsSlot structs graph at → IsSlot structs graph to → edge_at graph (Some at) ≡ Some to
    → HasEdge at.node at.shift to graph unmoved
edge_here structs graph at to from end e = ap (edge_at graph) (slot_here structs graph at from) ∙ e ∙ sym (slot_here structs graph to end)
