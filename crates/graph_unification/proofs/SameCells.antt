-- Graphs in memory whose cells hold the same: what their nodes and names have stays.
use Rattle.std.proofs.Common.{◌≡◌, ℕ, List, [], ◌∷◌, map, length, Option, Some, None, refl, sym, ap, ◌∙◌}
use Rattle.std.specs.Prelude.{option_map, slice_get}
use Rattle.c_typed.specs.Table.{Interned}
use Rattle.heap_graph.specs.Memory.{element_in, flags_of}
use Rattle.heap_graph.specs.Graphs.{Target, Name, node_at}
use Rattle.heap_graph.specs.Steps.{One, Collapse, Points}
use Rattle.graph_unification.specs.declared.ask.Ask as memory_ask
use Rattle.graph_unification.specs.declared.ask.Ask.TheVariants as A
use Rattle.graph_unification.specs.declared.node.SlotEdge.{SlotEdge}
use Rattle.graph_unification.specs.declared.node.Node as memory_node
use Rattle.graph_unification.specs.declared.graph.Graph as memory_graph
use Rattle.graph_unification.specs.Memory.{node_in, or_nowhere, content, edge_of, node_there, set_for, graph_in}
use Rattle.graph_unification.specs.Turns.{ask_in, asks_in}
use Rattle.graph_unification.proofs.HeldNodes.{node_at_in}

module _ (old new : memory_graph.Graph) (cells : new.nodes.cells.items ≡ old.nodes.cells.items) (same_length : length new.nodes.list.items ≡ length old.nodes.list.items) where
  pub same_content : (cell : ℕ) → content new.nodes cell ≡ content old.nodes cell
  same_content cell = ap (λ k. or_nowhere k (slice_get new.nodes.cells.items cell)) same_length ∙ ap (λ l. or_nowhere (length old.nodes.list.items) (slice_get l cell)) cells

  same_ask : (ask : memory_ask.Ask) → ask_in new.nodes ask ≡ ask_in old.nodes ask
  same_ask (A.One a b) = ap (λ x. One x (content new.nodes b)) (same_content a) ∙ ap (One (content old.nodes a)) (same_content b)
  same_ask (A.Collapse cell) = ap (λ (t : Target). Collapse t.node) (same_content cell)
  same_ask (A.Points at to) =
      ap (λ (t : Target). Points t.node t.shift (content new.nodes to)) (same_content at) ∙ ap (Points (content old.nodes at).node (content old.nodes at).shift) (same_content to)

  pub same_asks : (asks : List memory_ask.Ask) → asks_in new.nodes asks ≡ asks_in old.nodes asks
  same_asks [] = refl
  same_asks (ask ∷ asks) = ap (λ x. x ∷ asks_in new.nodes asks) (same_ask ask) ∙ ap (λ rest. ask_in old.nodes ask ∷ rest) (same_asks asks)

  pub edges_stay : (edges : List SlotEdge) → map (edge_of (content new.nodes)) edges ≡ map (edge_of (content old.nodes)) edges
  edges_stay [] = refl
  edges_stay (edge ∷ edges) =
      ap (λ x. record { slot = edge.slot; to = x } ∷ map (edge_of (content new.nodes)) edges) (same_content edge.to)
      ∙ ap (λ rest. record { slot = edge.slot; to = content old.nodes edge.to } ∷ rest) (edges_stay edges)

module _ (table : Interned) (old new : memory_graph.Graph) (cells : new.nodes.cells.items ≡ old.nodes.cells.items) (same_length : length new.nodes.list.items ≡ length old.nodes.list.items) where
  -- a node that is as it was in memory
  pub node_stays : (n : ℕ) → node_in new.nodes.list.items n ≡ node_in old.nodes.list.items n → node_at (graph_in table new) n ≡ node_at (graph_in table old) n
  node_stays n same =
      node_at_in table new n ∙ ap (option_map (node_there table (content new.nodes))) same ∙ by (node_in old.nodes.list.items n) ∙ sym (node_at_in table old n)
    where
      by : (o : Option memory_node.Node) → option_map (node_there table (content new.nodes)) o ≡ option_map (node_there table (content old.nodes)) o
      by None = refl
      by (Some node) = ap (λ es. Some (record { element = element_in table node.element; flags = flags_of node.flags; edges = es })) (edges_stay old new cells same_length node.edges.items)

module _ (table : Interned) (old new : memory_graph.Graph) (same_names : new.names ≡ old.names) (cells : new.nodes.cells.items ≡ old.nodes.cells.items)
    (same_length : length new.nodes.list.items ≡ length old.nodes.list.items) where
  pub names_stay : (name : Name) → (graph_in table new).targets name ≡ (graph_in table old).targets name
  names_stay name = ap (option_map (content new.nodes)) (ap (λ names. set_for (record old { names = names }) name) same_names) ∙ by (set_for old name)
    where
      by : (o : Option ℕ) → option_map (content new.nodes) o ≡ option_map (content old.nodes) o
      by None = refl
      by (Some cell) = ap Some (same_content old new cells same_length cell)
