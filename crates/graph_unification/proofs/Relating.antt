-- What is known of nodes that were found in memory.
use Rattle.std.proofs.Common.{◌≡◌, ℕ, ◌<◌, List, length, Option, Some, None, sym, ap, subst, ◌∙◌}
use Rattle.std.specs.Prelude.{option_map, slice_get}
use Rattle.std.proofs.lemmas.Option.{none-some, same_Some, slice_get_within}
use Rattle.c_typed.specs.Table.{Interned, structs_in}
use Rattle.heap_graph.specs.Structures.{AreMade}
use Rattle.heap_graph.specs.declared.graph.Target as memory_target
use Rattle.heap_graph.specs.declared.graph.Element as memory_element
use Rattle.heap_graph.specs.Memory.{target_of, element_in, ElementStands}
use Rattle.heap_graph.specs.Graphs.{Target, Node}
use Rattle.heap_graph.specs.Merging.{slots, IsSlot}
use Rattle.heap_graph.specs.Relations.{Relation, relation}
use Rattle.heap_graph.specs.Steps.{IsNode}
use Rattle.heap_graph.proofs.Relate.{IsRelation, relates}
use Rattle.graph_unification.specs.declared.ask.Ask as memory_ask
use Rattle.graph_unification.specs.declared.nodes.Nodes.{Nodes}
use Rattle.graph_unification.specs.declared.graph.Graph as memory_graph
use Rattle.graph_unification.specs.Memory.{node_in, graph_in, IsGraph}
use Rattle.graph_unification.specs.Turns.{IsThere, element_of, element_at, Lays}
use Rattle.graph_unification.proofs.HeldNodes.{HeldNode, there_in, held_some}

pub node_within : (table : Interned) (graph : memory_graph.Graph) (n : ℕ) → IsNode (graph_in table graph) n → n < length graph.nodes.list.items
node_within table graph n node =
    let held = there_in table graph n node.0 node.1 in
    slice_get_within graph.nodes.list.items n (Some held.held) (held_some (slice_get graph.nodes.list.items n) held.held held.is)

module _ (table : Interned) (graph : memory_graph.Graph) (fine : IsGraph table graph) (found : memory_target.Target) (t : Target) (same : target_of found ≡ t)
    (slot : IsSlot (structs_in table) (graph_in table graph) t) where
  pub same_node : found.node ≡ t.node
  same_node = ap (λ (x : Target). x.node) same

  its : HeldNode table graph t.node slot.node
  its = there_in table graph t.node slot.node slot.is

  is_there : node_in graph.nodes.list.items found.node ≡ Some its.held
  is_there = ap (node_in graph.nodes.list.items) same_node ∙ its.is

  pub found_there : IsThere graph.nodes.list.items found.node
  found_there = (its.held, held_some (slice_get graph.nodes.list.items found.node) its.held is_there)

  pub found_within : found.node < length graph.nodes.list.items
  found_within = slice_get_within graph.nodes.list.items found.node (Some found_there.0) found_there.1

  pub not_missing : (o : Option memory_element.Element) → o ≡ None → o ≡ element_at graph.nodes.list.items found.node → ⊥
  not_missing o none is = none-some (element_of its.held) (sym none ∙ is ∙ ap (option_map element_of) is_there)

  module _ (element : memory_element.Element) (is : Some element ≡ element_at graph.nodes.list.items found.node) where
    held_element : element ≡ element_of its.held
    held_element = same_Some element (element_of its.held) (is ∙ ap (option_map element_of) is_there)

    pub its_element : element_in table element ≡ slot.node.element
    its_element = ap (element_in table) held_element ∙ ap (λ (n : Node). n.element) its.means

    pub its_stands : ElementStands table element
    its_stands = subst (ElementStands table) (sym held_element) (fine.stand t.node its.held its.is)

    pub its_slot : found.shift < slots (structs_in table) (element_in table element)
    its_slot =
        subst (λ s. s < slots (structs_in table) (element_in table element)) (sym (ap (λ (x : Target). x.shift) same))
        (subst (λ e. t.shift < slots (structs_in table) e) (sym its_element) slot.inside)

-- how two nodes lie to each other by their elements
pub its_relation : (table : Interned) → AreMade (structs_in table) → (graph : memory_graph.Graph) → IsGraph table graph → (x y : memory_target.Target) (a b : Target) (same_x : target_of x ≡ a) (same_y : target_of y ≡ b)
    → (slot : IsSlot (structs_in table) (graph_in table graph) a) (other : IsSlot (structs_in table) (graph_in table graph) b) (one two : memory_element.Element)
    → Some one ≡ element_at graph.nodes.list.items x.node → Some two ≡ element_at graph.nodes.list.items y.node
    → (r : Relation) → r ≡ relation (structs_in table) (element_in table one) x.shift (element_in table two) y.shift
    → IsRelation (structs_in table) slot.node.element a.shift other.node.element b.shift r
its_relation table made graph fine x y a b same_x same_y slot other one two one_is two_is r e =
    let whole : r ≡ relation (structs_in table) slot.node.element a.shift other.node.element b.shift =
    e ∙ ap (λ u. relation (structs_in table) u x.shift (element_in table two) y.shift) (its_element table graph fine x a same_x slot one one_is)
    ∙ ap (λ u. relation (structs_in table) slot.node.element x.shift u y.shift) (its_element table graph fine y b same_y other two two_is)
    ∙ ap (λ (u : Target). relation (structs_in table) slot.node.element u.shift other.node.element y.shift) same_x
    ∙ ap (λ (u : Target). relation (structs_in table) slot.node.element a.shift other.node.element u.shift) same_y in
    subst (IsRelation (structs_in table) slot.node.element a.shift other.node.element b.shift) (sym whole)
    (relates (structs_in table) made slot.node.element a.shift other.node.element b.shift slot.inside other.inside)

pub found_lays : (old new : Nodes) (x y : memory_target.Target) (a b : Target) → target_of x ≡ a → target_of y ≡ b → (distance : ℕ) (before after : List memory_ask.Ask) → Lays old new x.node y.node distance before after
    → Lays old new a.node b.node distance before after
found_lays old new x y a b same_x same_y distance before after lays =
    subst (λ (t : Target). Lays old new t.node b.node distance before after) same_x (subst (λ (t : Target). Lays old new x.node t.node distance before after) same_y lays)
