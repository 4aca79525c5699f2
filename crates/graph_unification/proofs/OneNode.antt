-- A list of nodes of which one is changed.
use Rattle.std.proofs.Common.{◌≡◌, ℕ, true, List, Option, Some, sym, ap, subst, ◌∙◌, ◌⊎◌, inl, inr}
use Rattle.std.proofs.lemmas.Bool.{cases_eq}
use Rattle.std.proofs.lemmas.Option.{same_Some}
use Rattle.heap_graph.specs.declared.graph.Target as memory_target
use Rattle.graph_unification.specs.declared.node.Node as memory_node
use Rattle.graph_unification.specs.Cells.{has_number}
use Rattle.graph_unification.specs.Memory.{held, node_in, IsHeld}
use Rattle.graph_unification.specs.Turns.{ChangesAt}

module _ (old new : List (Option memory_node.Node)) (number : ℕ) (before after : memory_node.Node) (change : ChangesAt old new number (Some before) (Some after)) where
  pub was_in : node_in old number ≡ Some before
  was_in = ap held change.was

  pub now_in : node_in new number ≡ Some after
  now_in = ap held change.now

  pub other_in : (n : ℕ) → (n ≡ number → ⊥) → node_in new n ≡ node_in old n
  other_in n differ = ap held (change.others n differ)

  -- what holds of each node still does
  pub all_nodes : (P : memory_node.Node → Type 0) → ((n : ℕ) (node : memory_node.Node) → node_in old n ≡ Some node → P node) → P after → (n : ℕ) (node : memory_node.Node) → node_in new n ≡ Some node → P node
  all_nodes P was now n node is = by (cases_eq n number)
    where
      by : (n ≡ number) ⊎ (n ≡ number → ⊥) → P node
      by (inl at) = subst P (same_Some after node (sym now_in ∙ ap (node_in new) (sym at) ∙ is)) now
      by (inr differ) = was n node (sym (other_in n differ) ∙ is)

  -- cells are held where the node has all numbers that it had
  pub still_held : ((cell : ℕ) → has_number before.cells.items cell ≡ true → has_number after.cells.items cell ≡ true) → (cell : ℕ) (target : memory_target.Target) → IsHeld old cell target → IsHeld new cell target
  still_held keeps cell target its = by (cases_eq target.node number)
    where
      by : (target.node ≡ number) ⊎ (target.node ≡ number → ⊥) → IsHeld new cell target
      by (inl at) =
          let same : its.node ≡ before = same_Some its.node before (sym its.is ∙ ap (node_in old) at ∙ was_in) in
          record { node = after; is = ap (node_in new) at ∙ now_in; among = keeps cell (subst (λ (n : memory_node.Node). has_number n.cells.items cell ≡ true) same its.among) }
      by (inr differ) = record { node = its.node; is = other_in target.node differ ∙ its.is; among = its.among }
