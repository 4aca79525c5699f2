-- The graphs of a family with all flags: names, and where targets and edges lead, are the same.
use Rattle.std.proofs.Common.{◌≡◌, ℕ, zero, suc, Bool, true, List, [], ◌∷◌, slice_get, Option, Some, None, refl, sym, ap, subst, ◌∙◌}
use Rattle.std.specs.Prelude.{map, option_map}
use Rattle.tac_ir.specs.States.{Owner, InStart, InFunction}
use Rattle.heap_graph.specs.Graphs.{Target, Node, Name, Graph, Embedding, node_at}
use Rattle.heap_graph.specs.Targets.{at_target, shifted, edge_at}
use Rattle.heap_graph.specs.Escaping.{Escapes}
use Rattle.heap_graph.specs.Closed.{Family, or_no_graph, group_of, graph_of, image}
use Rattle.heap_graph.specs.Saturated.{saturated_node, saturated_graph, saturated}
use Rattle.heap_graph.proofs.SaturatedNodes.{Grows, node_saturated, node_was, IsFlagless, at_flagless, at_grows, shifted_saturated, edge_saturated, escapes_more, escapes_was}

graph_in : (graphs : List Graph) (number : ℕ) → or_no_graph (slice_get (map saturated_graph graphs) number) ≡ saturated_graph (or_no_graph (slice_get graphs number))
graph_in [] number = refl
graph_in (first ∷ graphs) zero = refl
graph_in (first ∷ graphs) (suc number) = graph_in graphs number

pub graph_saturated : (family : Family) (owner : Owner) → graph_of (saturated family) owner ≡ saturated_graph (graph_of family owner)
graph_saturated family InStart = refl
graph_saturated family (InFunction number) = graph_in family.graphs.graphs (group_of family number)

module _ (family : Family) (owner : Owner) where
  pub targets_same : (name : Name) → (graph_of (saturated family) owner).targets name ≡ (graph_of family owner).targets name
  targets_same name = ap (λ (graph : Graph). graph.targets name) (graph_saturated family owner)

  pub nodes_of : (number : ℕ) → node_at (graph_of (saturated family) owner) number ≡ option_map saturated_node (node_at (graph_of family owner) number)
  nodes_of number = ap (λ graph. node_at graph number) (graph_saturated family owner) ∙ node_saturated (graph_of family owner) number

  pub node_in : (number : ℕ) (node : Node) → node_at (graph_of family owner) number ≡ Some node → node_at (graph_of (saturated family) owner) number ≡ Some (saturated_node node)
  node_in number node e = nodes_of number ∙ ap (option_map saturated_node) e

  pub was_node : (number : ℕ) (node : Node) → node_at (graph_of (saturated family) owner) number ≡ Some node
      → (was : Node) × (node_at (graph_of family owner) number ≡ Some was) × (saturated_node was ≡ node)
  was_node number node e = node_was (graph_of family owner) number node (sym (ap (λ graph. node_at graph number) (graph_saturated family owner)) ∙ e)

  -- what a test that looks at no flags says is the same
  pub at_same : (target : Option Target) (holds : Node → ℕ → Bool) → IsFlagless holds → at_target (graph_of (saturated family) owner) target holds ≡ at_target (graph_of family owner) target holds
  at_same target holds flagless = ap (λ graph. at_target graph target holds) (graph_saturated family owner) ∙ at_flagless (graph_of family owner) target holds flagless

  pub at_more : (target : Option Target) (few all : Node → ℕ → Bool) → Grows few all → at_target (graph_of family owner) target few ≡ true → at_target (graph_of (saturated family) owner) target all ≡ true
  at_more target few all grows h = ap (λ graph. at_target graph target all) (graph_saturated family owner) ∙ at_grows (graph_of family owner) target few all grows h

  pub shifted_same : (slots : ℕ) (target : Option Target) → shifted (graph_of (saturated family) owner) slots target ≡ shifted (graph_of family owner) slots target
  shifted_same slots target = ap (λ graph. shifted graph slots target) (graph_saturated family owner) ∙ shifted_saturated (graph_of family owner) slots target

  pub edge_same : (target : Option Target) → edge_at (graph_of (saturated family) owner) target ≡ edge_at (graph_of family owner) target
  edge_same target = ap (λ graph. edge_at graph target) (graph_saturated family owner) ∙ edge_saturated (graph_of family owner) target

  pub image_same : (embedding : Embedding) (target : Option Target) → image (saturated family) owner embedding target ≡ image family owner embedding target
  image_same embedding None = refl
  image_same embedding (Some target) = shifted_same target.shift (embedding target.node)

  pub more_escapes : (one : Owner) (node : ℕ) → Escapes (graph_of family owner) one node → Escapes (graph_of (saturated family) owner) one node
  more_escapes one node escapes = subst (λ graph. Escapes graph one node) (sym (graph_saturated family owner)) (escapes_more (graph_of family owner) one node escapes)

  pub escaped : (one : Owner) (node : ℕ) → Escapes (graph_of (saturated family) owner) one node → Escapes (graph_of family owner) one node
  escaped one node escapes = escapes_was (graph_of family owner) one node (subst (λ graph. Escapes graph one node) (graph_saturated family owner) escapes)
