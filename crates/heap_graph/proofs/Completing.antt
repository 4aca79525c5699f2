-- Whether nodes are complete, one after another.
use Rattle.std.proofs.Common.{◌≡◌, ℕ, ◌<◌, ◌↔◌, true, false, List, map, length, Option, Some, None, refl, sym, ap, ◌∙◌}
use Rattle.std.specs.Prelude.{is_some}
use Rattle.std.proofs.lemmas.Bool.{false≢true}
use Rattle.c_typed.specs.Table.{Interned}
use Rattle.heap_graph.specs.Graphs.{Node, Graph, node_at}
use Rattle.heap_graph.specs.Closed.{is_start}
use Rattle.heap_graph.specs.Frozen.{node_in, optional_node, node_there}
use Rattle.heap_graph.specs.declared.frozen.Node as memory_node
use Rattle.heap_graph.specs.declared.marks.NodeMarks.{NodeMarks}
use Rattle.heap_graph.specs.Marks.{is_marked}
use Rattle.heap_graph.specs.Complete.{AreComplete, AreOthersComplete, AreAllMarked, complete_if}
use Rattle.heap_graph.proofs.Nodes.{node_behind, node_before, node_within}
use Rattle.heap_graph.proofs.Marking.{AreThese}

pub complete_own : (item : Option memory_node.Node) (node : memory_node.Node) → complete_if item ≡ true → item ≡ Some node → node.flags.complete ≡ true
complete_own item node complete is = sym (ap complete_if is) ∙ complete

pub some_incomplete : (item : Option memory_node.Node) → complete_if item ≡ false → (node : memory_node.Node) × (item ≡ Some node) × (node.flags.complete ≡ false)
some_incomplete None is = absurd (false≢true (sym is))
some_incomplete (Some node) is = (node, refl, is)

pub some_there : (item : Option memory_node.Node) → is_some item ≡ true → (node : memory_node.Node) × (item ≡ Some node)
some_there None is = absurd (false≢true is)
some_there (Some node) is = (node, refl)

pub not_others : (nodes : List (Option memory_node.Node)) (marks : NodeMarks) (at : ℕ) (item : Option memory_node.Node) → node_there nodes at ≡ item → complete_if item ≡ false
    → is_marked marks at ≡ false → AreOthersComplete nodes marks → ⊥
not_others nodes marks at item there incomplete unmarked all =
    let found = some_incomplete item incomplete in
    false≢true (sym found.2 ∙ all at found.0 (there ∙ found.1) unmarked)

module _ (table : Interned) (nodes : List (Option memory_node.Node)) (shown : Graph) (same : shown.nodes ≡ map (optional_node table) nodes) where
  pub not_all : (at : ℕ) (item : Option memory_node.Node) → node_there nodes at ≡ item → complete_if item ≡ false → AreComplete shown is_start → ⊥
  not_all at item there incomplete all =
      let found = some_incomplete item incomplete in
      false≢true (sym found.2 ∙ all at (node_in table found.0) (node_before table nodes shown same at found.0 (there ∙ found.1)) (λ function wrong. absurd (false≢true wrong)))

  pub are_complete : ((number : ℕ) (node : memory_node.Node) → node_there nodes number ≡ Some node → node.flags.complete ≡ true) → AreComplete shown is_start
  are_complete all number node is never =
      let own = node_behind table nodes shown same number node is in
      sym (ap (λ n. n.flags.complete) own.2) ∙ all number own.0 own.1

  pub not_all_marked : (marks : NodeMarks) (at : ℕ) (item : Option memory_node.Node) → node_there nodes at ≡ item → is_some item ≡ true → is_marked marks at ≡ false → AreAllMarked shown marks → ⊥
  not_all_marked marks at item there some unmarked all =
      let found = some_there item some in
      false≢true (sym unmarked ∙ all at (node_in table found.0) (node_before table nodes shown same at found.0 (there ∙ found.1)))

  pub are_all_marked : (marks : NodeMarks) → ((number : ℕ) (node : memory_node.Node) → node_there nodes number ≡ Some node → is_marked marks number ≡ true) → AreAllMarked shown marks
  are_all_marked marks all number node is = let own = node_behind table nodes shown same number node is in all number own.0 own.1

  -- all nodes are marked where all are these
  pub all_these : (marks : NodeMarks) (these : ℕ → Type 0) → AreThese nodes marks these → AreAllMarked shown marks ↔ ((number : ℕ) (node : Node) → node_at shown number ≡ Some node → these number)
  all_these marks these are = (
    λ all number node is. (are.exactly number (shown_within number node is)).0 (all number node is),
    λ all number node is. (are.exactly number (shown_within number node is)).1 (all number node is),
  )
    where
      shown_within : (number : ℕ) (node : Node) → node_at shown number ≡ Some node → number < length nodes
      shown_within number node is = let own = node_behind table nodes shown same number node is in node_within nodes number own.0 own.1
