-- An embedding at a call, where it is known which nodes escape the function that is called.
use Rattle.std.proofs.Common.{◌≡◌, ◌↔◌, ℕ, ◌<◌, nat_lt, Bool, true, false, ◌&&◌, List, length, get_or, slice_get, Option, Some, None, option_map, unwrap_or, refl, sym, ap, subst, ◌∙◌, true≢false, is_some, ltb-true, lt-ltb}
use Rattle.std.proofs.lemmas.List.{get_or_default}
use Rattle.std.proofs.lemmas.Option.{slice_get-map, slice_get_within}
use Rattle.c_typed.specs.Table.{Interned}
use Rattle.tac_ir.specs.States.{Owner, InFunction}
use Rattle.heap_graph.specs.Graphs.{Target, Node, Embedding, node_at, there}
use Rattle.heap_graph.specs.Escaping.{Escapes}
use Rattle.heap_graph.specs.Closed.{Family, graph_of, crossing, IsKept, IsEmbedding}
use Rattle.heap_graph.specs.declared.frozen.Node as memory_node
use Rattle.heap_graph.specs.declared.frozen.FrozenGraph.{FrozenGraph}
use Rattle.heap_graph.specs.Frozen.{node_in, optional_node, inner, node_there}
use Rattle.heap_graph.specs.Shows.{ShowsGraph}
use Rattle.heap_graph.proofs.Showing.{shown_node}
use Rattle.heap_graph.specs.Embeddings.{is_marked, AreListed, OnlyMarked, IsKeptIf, AreKept}

-- ---- nodes of the graph of the function that is called

there_option : (table : Interned) (found : Option (Option memory_node.Node)) → there (option_map (optional_node table) found) ≡ optional_node table (inner found)
there_option table None = refl
there_option table (Some found) = refl

pub node_within : (nodes : List (Option memory_node.Node)) (number : ℕ) (node : memory_node.Node) → node_there nodes number ≡ Some node → number < length nodes
node_within nodes number node is = by (slice_get nodes number) refl
  where
    by : (found : Option (Option memory_node.Node)) → slice_get nodes number ≡ found → number < length nodes
    by None none = absurd (true≢false (sym (ap is_some (sym (ap inner none) ∙ is))))
    by (Some found) some = slice_get_within nodes number found some

both_true : (a b : Bool) → (a && b) ≡ true → (a ≡ true) × (b ≡ true)
both_true true b both = (refl, both)
both_true false b both = absurd (true≢false (sym both))

-- where the nodes of a list are kept, all that are marked are
pub kept_listed : (family : Family) (owner : Owner) (images : Embedding) (table : Interned) (graph : FrozenGraph) (marks : List Bool) (nodes : List ℕ) → AreListed graph marks nodes
    → ((place : ℕ) → place < length nodes → IsKeptIf family owner images table graph marks (get_or nodes place 0)) → AreKept family owner images table graph marks
kept_listed family owner images table graph marks nodes listed kept number node is marked =
    let within = node_within graph.nodes.items number node is in
    let at = listed number (λ i. lt-ltb number (length graph.nodes.items) within i && marked i) in
    subst (IsKeptIf family owner images table graph marks) (get_or_default nodes at.0 0 number at.1 ∙ at.2) (kept at.0 at.1) node is marked

module _ (table : Interned) (family : Family) (owner : Owner) (site called : ℕ) (graph : FrozenGraph) (shows : ShowsGraph table family (InFunction called) graph) (marks : List Bool) (embedding : Embedding) where
  abbrev own : Embedding
  own = family.graphs.embedding (crossing family owner site called)

  abbrev Escaping : ℕ → Type 0
  Escaping node = Escapes (graph_of family (InFunction called)) (InFunction called) node

  abbrev AreImages : Type 0
  AreImages = (node : ℕ) → own node ≡ embedding node

  abbrev AreTold : Type 0
  AreTold = (node : ℕ) → node < length graph.nodes.items → ((get_or marks node false ≡ true) ↔ Escaping node)

  abbrev AreWithin : Type 0
  AreWithin = (node : ℕ) → Escaping node → node < length graph.nodes.items

  shown_there : (number : ℕ) → node_at (graph_of family (InFunction called)) number ≡ optional_node table (node_there graph.nodes.items number)
  shown_there number =
      shown_node table family (InFunction called) graph shows number
      ∙ (ap there (slice_get-map (optional_node table) graph.nodes.items number) ∙ there_option table (slice_get graph.nodes.items number))

  -- a node that is marked escapes
  marked_escapes : AreTold → (number : ℕ) → is_marked graph marks number ≡ true → Escaping number
  marked_escapes told number marked =
      let both = both_true (nat_lt number (length graph.nodes.items)) (get_or marks number false) marked in
      (told number (ltb-true number (length graph.nodes.items) both.0)).0 both.1

  escapes_marked : AreTold → AreWithin → (number : ℕ) → Escaping number → is_marked graph marks number ≡ true
  escapes_marked told within number escapes =
      let less = within number escapes in
      λ i. lt-ltb number (length graph.nodes.items) less i && (told number less).1 escapes i

  pub makes_embedding : AreImages → AreTold → AreWithin → OnlyMarked graph marks embedding → AreKept family owner own table graph marks → IsEmbedding family owner site called
  makes_embedding same told within only kept = record {
    escaping = λ number node is escapes. kept_node number node ((told number (within number escapes)).1 escapes) (sym (shown_there number) ∙ is);
    others = λ number stays. none number stays;
  }
    where
      kept_node : (number : ℕ) (node : Node) → get_or marks number false ≡ true → optional_node table (node_there graph.nodes.items number) ≡ Some node → IsKept family owner own number node
      kept_node number node marked is = by (node_there graph.nodes.items number) refl
        where
          by : (found : Option memory_node.Node) → node_there graph.nodes.items number ≡ found → IsKept family owner own number node
          by None none = absurd (true≢false (sym (ap is_some (sym (ap (optional_node table) none) ∙ is))))
          by (Some found) some =
              subst (IsKept family owner own number) (ap (λ one. unwrap_or one node) (sym (ap (optional_node table) some) ∙ is)) (kept number found some marked)

      none : (number : ℕ) → (Escaping number → ⊥) → own number ≡ None
      none number stays = by (own number) refl
        where
          by : (found : Option Target) → own number ≡ found → own number ≡ None
          by None is = is
          by (Some target) is = absurd (stays (marked_escapes told number (only number target (sym (same number) ∙ is))))

  pub embedding_marked : AreImages → AreTold → AreWithin → IsEmbedding family owner site called → OnlyMarked graph marks embedding
  embedding_marked same told within is number target found = by (is_marked graph marks number) refl
    where
      by : (test : Bool) → is_marked graph marks number ≡ test → is_marked graph marks number ≡ true
      by true marked = marked
      by false not_marked =
          let none = is.others number (λ escapes. true≢false (sym (escapes_marked told within number escapes) ∙ not_marked)) in
          absurd (true≢false (sym (ap is_some (sym none ∙ (same number ∙ found)))))

  pub embedding_kept : AreTold → IsEmbedding family owner site called → AreKept family owner own table graph marks
  embedding_kept told is number node found marked =
      is.escaping number (node_in table node) (shown_there number ∙ ap (optional_node table) found) ((told number (node_within graph.nodes.items number node found)).0 marked)
