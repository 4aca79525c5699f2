-- A family in which the flags of one node are others: all else is the same.
use Rattle.std.proofs.Common.{◌≡◌, ◌⊎◌, inl, inr, ℕ, zero, suc, List, [], ◌∷◌, Option, Some, None, refl, sym, ap, ◌∙◌}
use Rattle.std.specs.Prelude.{slice_get, option_map}
use Rattle.std.proofs.lemmas.Bool.{cases_eq}
use Rattle.std.proofs.lemmas.Option.{none-some, same_Some}
use Rattle.tac_ir.specs.States.{Owner, InFunction}
use Rattle.heap_graph.specs.Graphs.{Flags, Edge, Node, Graph, there, edge_in, node_at}
use Rattle.heap_graph.specs.Escaping.{Reaches, here, along, Escapes}
use Rattle.heap_graph.specs.Closed.{Family, graph_of, group_of, or_no_graph}
use Rattle.heap_graph.specs.Least.{with_node, with_flags, with_graph, changed}

-- ---- nodes

node_here : (flags : Flags) (nodes : List (Option Node)) (number : ℕ) (node : Node) → there (slice_get nodes number) ≡ Some node → there (slice_get (with_node number flags nodes) number) ≡ Some (record node { flags = flags })
node_here flags [] zero node is = absurd (none-some node is)
node_here flags [] (suc number) node is = absurd (none-some node is)
node_here flags (None ∷ nodes) zero node is = absurd (none-some node is)
node_here flags (Some own ∷ nodes) zero node is = ap (option_map (λ (n : Node). record n { flags = flags })) is
node_here flags (first ∷ nodes) (suc number) node is = node_here flags nodes number node is

node_other : (flags : Flags) (nodes : List (Option Node)) (number other : ℕ) → (other ≡ number → ⊥) → there (slice_get (with_node number flags nodes) other) ≡ there (slice_get nodes other)
node_other flags [] zero other apart = refl
node_other flags [] (suc number) other apart = refl
node_other flags (None ∷ nodes) zero other apart = refl
node_other flags (Some own ∷ nodes) zero zero apart = absurd (apart refl)
node_other flags (Some own ∷ nodes) zero (suc other) apart = refl
node_other flags (first ∷ nodes) (suc number) zero apart = refl
node_other flags (first ∷ nodes) (suc number) (suc other) apart = node_other flags nodes number other (λ same. apart (ap suc same))

pub flags_here : (flags : Flags) (graph : Graph) (number : ℕ) (node : Node) → node_at graph number ≡ Some node → node_at (with_flags number flags graph) number ≡ Some (record node { flags = flags })
flags_here flags graph number node is = node_here flags graph.nodes number node is

module _ (flags : Flags) (graph : Graph) (number : ℕ) (node : Node) (node_is : node_at graph number ≡ Some node) where
  -- a node was there, with the same edges
  node_was : (other : ℕ) (its : Node) → node_at (with_flags number flags graph) other ≡ Some its → (was : Node) × (node_at graph other ≡ Some was) × (was.edges ≡ its.edges)
  node_was other its is = by (cases_eq other number)
    where
      by : (other ≡ number) ⊎ (other ≡ number → ⊥) → (was : Node) × (node_at graph other ≡ Some was) × (was.edges ≡ its.edges)
      by (inl same) =
          let now : record node { flags = flags } ≡ its = same_Some (record node { flags = flags }) its (sym (flags_here flags graph number node node_is) ∙ (ap (node_at (with_flags number flags graph)) (sym same) ∙ is)) in
          (node, ap (node_at graph) same ∙ node_is, ap (λ (n : Node). n.edges) now)
      by (inr apart) = (its, sym (node_other flags graph.nodes number other apart) ∙ is, refl)

  reaches_still : (from last : ℕ) → Reaches (with_flags number flags graph) from last → Reaches graph from last
  reaches_still from last (here at) = here at
  reaches_still from last (along first end its slot to is edge rest) =
      let was = node_was first its is in
      along first end was.0 slot to was.1 (ap (λ (edges : List Edge). edge_in edges slot) was.2 ∙ edge) (reaches_still to.node end rest)

  -- what escapes a function escaped it
  pub escapes_still : (owner : Owner) (at : ℕ) → Escapes (with_flags number flags graph) owner at → Escapes graph owner at
  escapes_still owner at escapes = record { name = escapes.name; outside = escapes.outside; target = escapes.target; is = escapes.is; reaches = reaches_still escapes.target.node at escapes.reaches }

-- ---- graphs

graph_here : (change : Graph → Graph) (graphs : List Graph) (number : ℕ) (graph : Graph) → slice_get graphs number ≡ Some graph → slice_get (with_graph number change graphs) number ≡ Some (change graph)
graph_here change [] number graph is = absurd (none-some graph is)
graph_here change (first ∷ graphs) zero graph is = ap (option_map change) is
graph_here change (first ∷ graphs) (suc number) graph is = graph_here change graphs number graph is

graph_other : (change : Graph → Graph) (graphs : List Graph) (number at : ℕ) → (at ≡ number → ⊥) → slice_get (with_graph number change graphs) at ≡ slice_get graphs at
graph_other change [] zero at apart = refl
graph_other change [] (suc number) at apart = refl
graph_other change (first ∷ graphs) zero zero apart = absurd (apart refl)
graph_other change (first ∷ graphs) zero (suc at) apart = refl
graph_other change (first ∷ graphs) (suc number) zero apart = refl
graph_other change (first ∷ graphs) (suc number) (suc at) apart = graph_other change graphs number at (λ same. apart (ap suc same))

-- the graph of a function of the group has the node's other flags
pub function_here : (family : Family) (group number : ℕ) (flags : Flags) (graph : Graph) (function : ℕ) → slice_get family.graphs.graphs group ≡ Some graph → group_of family function ≡ group
    → graph_of (changed (Some group) number flags family) (InFunction function) ≡ with_flags number flags graph
function_here family group number flags graph function is same =
    ap (λ n. or_no_graph (slice_get (with_graph group (with_flags number flags) family.graphs.graphs) n)) same ∙ ap or_no_graph (graph_here (with_flags number flags) family.graphs.graphs group graph is)

-- that of a function of another group is the same
pub function_other : (family : Family) (group number : ℕ) (flags : Flags) (function : ℕ) → (group_of family function ≡ group → ⊥) → graph_of (changed (Some group) number flags family) (InFunction function) ≡ graph_of family (InFunction function)
function_other family group number flags function apart = ap or_no_graph (graph_other (with_flags number flags) family.graphs.graphs group (group_of family function) apart)
