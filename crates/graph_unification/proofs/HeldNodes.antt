-- What is read of a graph in memory.
use Rattle.std.proofs.Common.{◌≡◌, ℕ, Bool, true, false, cond, eqb, List, [], ◌∷◌, map, length, Option, Some, None, refl, sym, ap, subst, ◌∙◌}
use Rattle.std.specs.Prelude.{option_map, slice_get}
use Rattle.std.proofs.lemmas.Bool.{false≢true, cond-true, cond-false, eq-eqb, eqb-true}
use Rattle.std.proofs.lemmas.Option.{none-some, slice_get-map}
use Rattle.c_typed.specs.Table.{Interned, structs_in}
use Rattle.heap_graph.specs.declared.graph.Target as memory_target
use Rattle.heap_graph.specs.Memory.{target_of, element_in, flags_of}
use Rattle.heap_graph.specs.Graphs.{Target, Edge, Node, Name, edge_in, node_at, there}
use Rattle.heap_graph.specs.Merging.{IsSlot, IsSound}
use Rattle.heap_graph.specs.Steps.{IsNode, AreFound}
use Rattle.heap_graph.proofs.PartStep.{of_map}
use Rattle.graph_unification.specs.declared.node.SlotEdge.{SlotEdge}
use Rattle.graph_unification.specs.declared.node.Node as memory_node
use Rattle.graph_unification.specs.declared.graph.Graph as memory_graph
use Rattle.graph_unification.specs.Memory.{held, node_in, or_nowhere, content, edge_of, node_there, set_for, graph_in, made_edge, AreApart, IsGraph}
use Rattle.graph_unification.proofs.CellLists.{get_past}

-- ---- nodes

pub node_at_in : (table : Interned) (graph : memory_graph.Graph) (n : ℕ) → node_at (graph_in table graph) n ≡ option_map (node_there table (content graph.nodes)) (node_in graph.nodes.list.items n)
node_at_in table graph n =
    ap there (slice_get-map (option_map (node_there table (content graph.nodes))) graph.nodes.list.items n) ∙ by (slice_get graph.nodes.list.items n)
  where
    by : (o : Option (Option memory_node.Node)) → there (option_map (option_map (node_there table (content graph.nodes))) o) ≡ option_map (node_there table (content graph.nodes)) (held o)
    by None = refl
    by (Some item) = refl

pub held_some : (o : Option (Option memory_node.Node)) (node : memory_node.Node) → held o ≡ Some node → o ≡ Some (Some node)
held_some None node e = absurd (none-some node e)
held_some (Some o) node e = ap Some e

-- a node that is there, as it is in memory
pub record HeldNode (table : Interned) (graph : memory_graph.Graph) (number : ℕ) (node : Node) : Type 0 where
  pub held : memory_node.Node
  pub is : node_in graph.nodes.list.items number ≡ Some held
  pub means : node_there table (content graph.nodes) held ≡ node

pub there_in : (table : Interned) (graph : memory_graph.Graph) (number : ℕ) (node : Node) → node_at (graph_in table graph) number ≡ Some node → HeldNode table graph number node
there_in table graph number node e =
    let its = of_map (node_there table (content graph.nodes)) (node_in graph.nodes.list.items number) node (sym (node_at_in table graph number) ∙ e) in
    record { held = its.0; is = its.1.0; means = its.1.1 }

pub at_held : (table : Interned) (graph : memory_graph.Graph) (number : ℕ) (node : memory_node.Node) → node_in graph.nodes.list.items number ≡ Some node
    → node_at (graph_in table graph) number ≡ Some (node_there table (content graph.nodes) node)
at_held table graph number node is = node_at_in table graph number ∙ ap (option_map (node_there table (content graph.nodes))) is

pub gone_in : (table : Interned) (graph : memory_graph.Graph) (number : ℕ) → node_in graph.nodes.list.items number ≡ None → node_at (graph_in table graph) number ≡ None
gone_in table graph number is = node_at_in table graph number ∙ ap (option_map (node_there table (content graph.nodes))) is

-- ---- cells

-- a cell that points to a node that is there
pub record InCells (table : Interned) (graph : memory_graph.Graph) (cell : ℕ) : Type 0 where
  pub target : memory_target.Target
  pub is : slice_get graph.nodes.cells.items cell ≡ Some target
  pub slot : IsSlot (structs_in table) (graph_in table graph) (content graph.nodes cell)

pub in_cells : (table : Interned) (graph : memory_graph.Graph) → IsGraph table graph → (cell : ℕ) → IsNode (graph_in table graph) (content graph.nodes cell).node → InCells table graph cell
in_cells table graph fine cell node = by (slice_get graph.nodes.cells.items cell) refl
  where
    by : (o : Option memory_target.Target) → slice_get graph.nodes.cells.items cell ≡ o → InCells table graph cell
    by (Some target) e = record {
      target = target;
      is = e;
      slot = subst (IsSlot (structs_in table) (graph_in table graph)) (sym (ap (or_nowhere (length graph.nodes.list.items)) e)) (fine.slots cell target e);
    }
    by None e =
        let at : (content graph.nodes cell).node ≡ length graph.nodes.list.items = ap (λ (o : Option memory_target.Target). (or_nowhere (length graph.nodes.list.items) o).node) e in
        absurd (none-some node.0 (sym (gone_in table graph (length graph.nodes.list.items) (ap held (get_past graph.nodes.list.items))) ∙ ap (node_at (graph_in table graph)) (sym at) ∙ node.1))

pub slot_in_cells : (table : Interned) (graph : memory_graph.Graph) → IsGraph table graph → (cell : ℕ) → IsSlot (structs_in table) (graph_in table graph) (content graph.nodes cell) → InCells table graph cell
slot_in_cells table graph fine cell slot = in_cells table graph fine cell (slot.node, slot.is)

-- ---- edges

pub edge_made : (holds : ℕ → Target) (edges : List SlotEdge) (slot : ℕ)
    → edge_in (map (edge_of holds) edges) slot ≡ option_map holds (made_edge edges slot)
edge_made holds [] slot = refl
edge_made holds (edge ∷ edges) slot = by (eqb edge.slot slot) (edge_made holds edges slot)
  where
    by : (b : Bool) → edge_in (map (edge_of holds) edges) slot ≡ option_map holds (made_edge edges slot)
        → cond b (Some (holds edge.to)) (edge_in (map (edge_of holds) edges) slot) ≡ option_map holds (cond b (Some edge.to) (made_edge edges slot))
    by true rest = refl
    by false rest = rest

pub one_free : {A : Type 0} (b : Bool) (a : A) (o : Option A) → cond b (Some a) o ≡ None → (b ≡ false) × (o ≡ None)
one_free true a o e = absurd (none-some a (sym e))
one_free false a o e = (refl, e)

other_slot : (a b : ℕ) → eqb a b ≡ false → eqb b a ≡ false
other_slot a b e = by (eqb b a) refl
  where
    by : (c : Bool) → eqb b a ≡ c → c ≡ false
    by false is = refl
    by true is = absurd (false≢true (sym e ∙ eq-eqb a b (sym (eqb-true b a is))))

-- behind one more edge
behind : (holds : ℕ → Target) (first : SlotEdge) (all edges : List SlotEdge) → made_edge edges first.slot ≡ None → AreFound (map (edge_of holds) all) (map (edge_of holds) edges)
    → AreFound (map (edge_of holds) (first ∷ all)) (map (edge_of holds) edges)
behind holds first all [] free found = tt
behind holds first all (edge ∷ edges) free found =
    let rest = one_free (eqb edge.slot first.slot) edge.to (made_edge edges first.slot) free in (
      cond-false (eqb first.slot edge.slot) (Some (holds first.to)) (edge_in (map (edge_of holds) all) edge.slot) (other_slot edge.slot first.slot rest.0) ∙ found.0,
      behind holds first all edges rest.1 found.1,
    )

pub are_found : (holds : ℕ → Target) (edges : List SlotEdge) → AreApart edges → AreFound (map (edge_of holds) edges) (map (edge_of holds) edges)
are_found holds [] apart = tt
are_found holds (edge ∷ edges) apart = (
  cond-true (eqb edge.slot edge.slot) (Some (holds edge.to)) (edge_in (map (edge_of holds) edges) edge.slot) (eq-eqb edge.slot edge.slot refl),
  behind holds edge edges edges apart.0 (are_found holds edges apart.1),
)

-- ---- slots of targets of edges

unfoldable pub AllSlots : Interned → memory_graph.Graph → List SlotEdge → Type 0
AllSlots table graph [] = Unit {0}
AllSlots table graph (edge ∷ edges) = IsSlot (structs_in table) (graph_in table graph) (content graph.nodes edge.to) × AllSlots table graph edges

slots_from : (table : Interned) (graph : memory_graph.Graph) → IsSound (structs_in table) (graph_in table graph) → (number : ℕ) (node : Node) → node_at (graph_in table graph) number ≡ Some node
    → (edges : List SlotEdge) → AreFound node.edges (map (edge_of (content graph.nodes)) edges) → AllSlots table graph edges
unfolding AllSlots
slots_from table graph sound number node is [] found = tt
slots_from table graph sound number node is (edge ∷ edges) found =
    (sound.to number edge.slot node (content graph.nodes edge.to) is found.0, slots_from table graph sound number node is edges found.1)

pub held_slots : (table : Interned) (graph : memory_graph.Graph) → IsGraph table graph → (number : ℕ) (node : memory_node.Node) → node_in graph.nodes.list.items number ≡ Some node → AllSlots table graph node.edges.items
held_slots table graph fine number node is =
    slots_from table graph fine.sound number (node_there table (content graph.nodes) node) (at_held table graph number node is) node.edges.items
    (are_found (content graph.nodes) node.edges.items (fine.apart number node is))

-- ---- graphs of which each cell holds what another makes of what it held

abbrev pub edge_to : (Target → Target) → Edge → Edge
edge_to f edge = record { slot = edge.slot; to = f edge.to }

abbrev pub with_edges : (Target → Target) → Node → Node
with_edges f node = record { element = node.element; flags = node.flags; edges = map (edge_to f) node.edges }

module _ (table : Interned) (old new : memory_graph.Graph) (fine : IsGraph table old) (f : Target → Target) (same_names : new.names ≡ old.names)
    (contents : (cell : ℕ) (target : memory_target.Target) → slice_get old.nodes.cells.items cell ≡ Some target → content new.nodes cell ≡ f (target_of target)) where
  pub content_now : (cell : ℕ) → IsSlot (structs_in table) (graph_in table old) (content old.nodes cell) → content new.nodes cell ≡ f (content old.nodes cell)
  content_now cell slot =
      let its = slot_in_cells table old fine cell slot in
      contents cell its.target its.is ∙ ap f (sym (ap (or_nowhere (length old.nodes.list.items)) its.is))

  pub content_of_node : (cell : ℕ) → IsNode (graph_in table old) (content old.nodes cell).node → content new.nodes cell ≡ f (content old.nodes cell)
  content_of_node cell node = content_now cell (in_cells table old fine cell node).slot

  pub edges_now : (edges : List SlotEdge) → AllSlots table old edges → map (edge_of (content new.nodes)) edges ≡ map (edge_to f) (map (edge_of (content old.nodes)) edges)
  unfolding AllSlots
  edges_now [] all = refl
  edges_now (edge ∷ edges) all =
      ap (λ to. record { slot = edge.slot; to = to } ∷ map (edge_of (content new.nodes)) edges) (content_now edge.to all.0)
      ∙ ap (λ rest. record { slot = edge.slot; to = f (content old.nodes edge.to) } ∷ rest) (edges_now edges all.1)

  pub names_now : (name : Name) → (graph_in table new).targets name ≡ option_map f ((graph_in table old).targets name)
  names_now name = ap (option_map (content new.nodes)) (ap (λ names. set_for (record old { names = names }) name) same_names) ∙ by (set_for old name) refl
    where
      by : (o : Option ℕ) → set_for old name ≡ o → option_map (content new.nodes) o ≡ option_map f (option_map (content old.nodes) o)
      by None e = refl
      by (Some cell) e = ap Some (content_now cell (fine.sound.names name (content old.nodes cell) (ap (option_map (content old.nodes)) e)))

  -- a node that is as it was in memory
  pub node_now : (n : ℕ) → node_in new.nodes.list.items n ≡ node_in old.nodes.list.items n → node_at (graph_in table new) n ≡ option_map (with_edges f) (node_at (graph_in table old) n)
  node_now n same =
      node_at_in table new n ∙ ap (option_map (node_there table (content new.nodes))) same ∙ by (node_in old.nodes.list.items n) refl ∙ sym (ap (option_map (with_edges f)) (node_at_in table old n))
    where
      by : (o : Option memory_node.Node) → node_in old.nodes.list.items n ≡ o → option_map (node_there table (content new.nodes)) o ≡ option_map (with_edges f) (option_map (node_there table (content old.nodes)) o)
      by None is = refl
      by (Some node) is =
          ap (λ es. Some (record { element = element_in table node.element; flags = flags_of node.flags; edges = es })) (edges_now node.edges.items (held_slots table old fine n node is))
