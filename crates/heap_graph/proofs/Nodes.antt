-- Nodes of a graph in memory and of the graph for which it stands.
use Rattle.std.proofs.Common.{◌≡◌, ℕ, zero, suc, ◌+◌, ◌<◌, ◌≤◌, inl, inr, List, [], ◌∷◌, map, length, get_or, Option, Some, None, refl, sym, ap, subst, ◌∙◌, arith}
use Rattle.std.proofs.lemmas.Bool.{cases_lt}
use Rattle.std.proofs.lemmas.Option.{none-some, same_Some, slice_get_within, slice_get_read}
use Rattle.std.specs.Prelude.{slice_get}
use Rattle.c_typed.specs.Table.{Interned}
use Rattle.heap_graph.specs.Graphs.{Node, Graph, there, node_at}
use Rattle.heap_graph.specs.Frozen.{node_in, optional_node, inner, node_there}
use Rattle.heap_graph.specs.declared.frozen.Node as memory_node

shown_there : (table : Interned) (nodes : List (Option memory_node.Node)) (number : ℕ) → there (slice_get (map (optional_node table) nodes) number) ≡ optional_node table (node_there nodes number)
shown_there table [] number = refl
shown_there table (None ∷ nodes) zero = refl
shown_there table (Some own ∷ nodes) zero = refl
shown_there table (first ∷ nodes) (suc number) = shown_there table nodes number

module _ (table : Interned) (nodes : List (Option memory_node.Node)) (shown : Graph) (same : shown.nodes ≡ map (optional_node table) nodes) where
  pub node_shown : (number : ℕ) → node_at shown number ≡ optional_node table (node_there nodes number)
  node_shown number = ap (λ l. there (slice_get l number)) same ∙ shown_there table nodes number

  -- a node of the graph is one in memory
  pub node_behind : (number : ℕ) (node : Node) → node_at shown number ≡ Some node → (own : memory_node.Node) × (node_there nodes number ≡ Some own) × (node_in table own ≡ node)
  node_behind number node is = by (node_there nodes number) refl
    where
      by : (found : Option memory_node.Node) → node_there nodes number ≡ found → (own : memory_node.Node) × (node_there nodes number ≡ Some own) × (node_in table own ≡ node)
      by None none = absurd (none-some node (sym (node_shown number ∙ ap (optional_node table) none) ∙ is))
      by (Some own) found = (own, found, same_Some (node_in table own) node (sym (node_shown number ∙ ap (optional_node table) found) ∙ is))

  pub node_before : (number : ℕ) (own : memory_node.Node) → node_there nodes number ≡ Some own → node_at shown number ≡ Some (node_in table own)
  node_before number own is = node_shown number ∙ ap (optional_node table) is

-- the number of a node is one of the graph's
pub node_within : (nodes : List (Option memory_node.Node)) (number : ℕ) (node : memory_node.Node) → node_there nodes number ≡ Some node → number < length nodes
node_within nodes number node is = by (slice_get nodes number) refl
  where
    by : (found : Option (Option memory_node.Node)) → slice_get nodes number ≡ found → number < length nodes
    by None none = absurd (none-some node (sym (ap inner none) ∙ is))
    by (Some own) found = slice_get_within nodes number own found

-- ---- in a loop

-- it holds of each of the first nodes
abbrev pub FirstHold : List (Option memory_node.Node) → (ℕ → memory_node.Node → Type 0) → ℕ → Type 0
FirstHold nodes holds count = (number : ℕ) (node : memory_node.Node) → number < count → node_there nodes number ≡ Some node → holds number node

pub item_there : (nodes : List (Option memory_node.Node)) (at : ℕ) (item : Option memory_node.Node) → at < length nodes → item ≡ get_or nodes at item → node_there nodes at ≡ item
item_there nodes at item within is = ap inner (slice_get_read nodes (length nodes) at item refl within is)

module _ (nodes : List (Option memory_node.Node)) (holds : ℕ → memory_node.Node → Type 0) where
  pub first_none : FirstHold nodes holds 0
  first_none = λ number node below is. absurd (omega (arith, below))

  pub first_more : (at : ℕ) (item : Option memory_node.Node) → FirstHold nodes holds at → at < length nodes → item ≡ get_or nodes at item
      → ((node : memory_node.Node) → item ≡ Some node → holds at node) → FirstHold nodes holds (at + 1)
  first_more at item first within is own =
      λ number node below found. elim (cases_lt number at) [
        | inl lt ↦ first number node lt found
        | inr le ↦ by number node (omega (arith, le, below)) found
      ]
    where
      by : (number : ℕ) (node : memory_node.Node) → number ≡ at → node_there nodes number ≡ Some node → holds number node
      by number node same found = subst (λ n. holds n node) (sym same) (own node (sym (item_there nodes at item within is) ∙ ap (node_there nodes) (sym same) ∙ found))

  pub first_all : (at : ℕ) → FirstHold nodes holds at → length nodes ≤ at → (number : ℕ) (node : memory_node.Node) → node_there nodes number ≡ Some node → holds number node
  first_all at first all number node found = first number node (omega (arith, all, node_within nodes number node found)) found
