-- A graph without nodes and names.
use Rattle.std.proofs.Common.{◌≡◌, ℕ, [], map, Some, None, sym, ap, ◌∙◌}
use Rattle.std.specs.Prelude.{option_map, slice_get}
use Rattle.std.specs.Map.{lookup}
use Rattle.std.proofs.lemmas.Option.{none-some}
use Rattle.c_typed.specs.Table.{Interned}
use Rattle.heap_graph.specs.declared.graph.Target as memory_target
use Rattle.heap_graph.specs.Graphs.{Name, node_at, there}
use Rattle.graph_unification.specs.declared.node.Node as memory_node
use Rattle.graph_unification.specs.declared.graph.Graph as memory_graph
use Rattle.graph_unification.specs.Memory.{node_in, content, node_there, key_of, same_key, graph_in, IsGraph}
use Rattle.graph_unification.specs.Changes.{IsBlank}

module _ (table : Interned) (graph : memory_graph.Graph) (list : graph.nodes.list.items ≡ []) (cells : graph.nodes.cells.items ≡ []) (names : graph.names.entries ≡ []) where
  no_node : (n : ℕ) → node_at (graph_in table graph) n ≡ None
  no_node n = ap (λ l. there (slice_get (map (option_map (node_there table (content graph.nodes))) l) n)) list

  no_target : (name : Name) → (graph_in table graph).targets name ≡ None
  no_target name = ap (λ es. option_map (content graph.nodes) (lookup (same_key (key_of name)) es)) names

  none_held : (n : ℕ) (node : memory_node.Node) → node_in graph.nodes.list.items n ≡ Some node → ⊥
  none_held n node e = none-some node (sym (ap (λ l. node_in l n) list) ∙ e)

  no_cell : (n : ℕ) (target : memory_target.Target) → slice_get graph.nodes.cells.items n ≡ Some target → ⊥
  no_cell n target e = none-some target (sym (ap (λ l. slice_get l n) cells) ∙ e)

  pub blank : IsBlank (graph_in table graph)
  blank = record { nodes = ap (map (option_map (node_there table (content graph.nodes)))) list; names = no_target }

  pub blank_graph : IsGraph table graph
  blank_graph = record {
    held = λ cell target e. absurd (no_cell cell target e);
    apart = λ n node e. absurd (none_held n node e);
    stand = λ n node e. absurd (none_held n node e);
    slots = λ cell target e. absurd (no_cell cell target e);
    sound = record {
      names = λ name target e. absurd (none-some target (sym (no_target name) ∙ e));
      from = λ n slot node to e has. absurd (none-some node (sym (no_node n) ∙ e));
      to = λ n slot node to e has. absurd (none-some node (sym (no_node n) ∙ e));
    };
  }
