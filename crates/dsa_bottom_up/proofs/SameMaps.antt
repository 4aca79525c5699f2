-- Where the graphs of groups are the same in two families, each node is mapped to itself.
use Rattle.std.proofs.Common.{◌≡◌, ℕ, ◌+◌, ◌<◌, Bool, true, false, cond, List, [], ◌∷◌, Option, Some, None, refl, sym, ap, subst, ◌∙◌, eqb-true, arith}
use Rattle.std.specs.Prelude.{◌==◌, ◌&&◌}
use Rattle.std.proofs.lemmas.Bool.{and_parts}
use Rattle.std.proofs.lemmas.Option.{none-some}
use Rattle.c_typed.specs.Layouts.{StructDef}
use Rattle.tac_ir.specs.States.{InFunction}
use Rattle.heap_graph.specs.Structures.{AreMade}
use Rattle.heap_graph.specs.Graphs.{Target, Edge, Node, Graph, edge_in, node_at}
use Rattle.heap_graph.specs.Targets.{same_target, is_collapsed, shifted, edge_at, implies, flags_kept, element_kept}
use Rattle.heap_graph.specs.Merging.{mapped}
use Rattle.heap_graph.specs.Steps.{unmoved}
use Rattle.heap_graph.specs.Closed.{Family, graph_of, group_of, crossing, is_slot, edges_sound}
use Rattle.heap_graph.proofs.MapsCompose.{at_there, at_from, shift_in, shifted_there, edge_there}
use Rattle.heap_graph.proofs.StepsCompose.{kept_itself, flags_itself}
use Rattle.heap_graph.specs.Completed.{HasNodes}
use Rattle.dsa_bottom_up.specs.Mapping.{MapsShape, MapsBelow, KeepsFlags, FlagsBelow}
use Rattle.dsa_bottom_up.proofs.SoundGraphs.{edge_slot}

-- ---- one graph

-- a collapsed node has edges only at its one slot
slot_settled : (graph : Graph) (node : Node) (edges : List Edge) (slot : ℕ) (to : Target) → edges_sound graph node edges ≡ true → edge_in edges slot ≡ Some to → implies (is_collapsed node.element) (slot == 0) ≡ true
slot_settled graph node [] slot to h e = absurd (none-some to e)
slot_settled graph node (edge ∷ edges) slot to h e =
    let rest = (and_parts (same_target (edge_in node.edges edge.slot) (Some edge.to)) (is_slot graph (Some edge.to) && (implies (is_collapsed node.element) (edge.slot == 0) && edges_sound graph node edges)) h).1 in
    let own = (and_parts (is_slot graph (Some edge.to)) (implies (is_collapsed node.element) (edge.slot == 0) && edges_sound graph node edges) rest).1 in
    let both = and_parts (implies (is_collapsed node.element) (edge.slot == 0)) (edges_sound graph node edges) own in
    by (edge.slot == slot) refl both.0 (slot_settled graph node edges slot to both.1) e
  where
    by : (b : Bool) → (edge.slot == slot) ≡ b → implies (is_collapsed node.element) (edge.slot == 0) ≡ true → (edge_in edges slot ≡ Some to → implies (is_collapsed node.element) (slot == 0) ≡ true)
        → cond b (Some edge.to) (edge_in edges slot) ≡ Some to → implies (is_collapsed node.element) (slot == 0) ≡ true
    by true same here rest h = subst (λ s. implies (is_collapsed node.element) (s == 0) ≡ true) (eqb-true edge.slot slot same) here
    by false same here rest h = rest h

settled : (collapsed : Bool) (shift : ℕ) → implies collapsed (shift == 0) ≡ true → cond collapsed 0 (0 + shift) ≡ shift
settled true shift h = sym (eqb-true shift 0 h)
settled false shift h = omega arith

module _ (structs : List StructDef) (made : AreMade structs) (graph : Graph) (sound : HasNodes graph) where
  slot_same : (target : Target) → is_slot graph (Some target) ≡ true → mapped graph unmoved target ≡ Some target
  slot_same target slot =
      let its = at_there graph target (λ node shift. implies (is_collapsed node.element) (shift == 0)) slot in
      shifted_there graph target.shift (unmoved target.node) its.node its.is
      ∙ ap (λ s. Some (record { node = target.node; shift = s })) (settled (is_collapsed its.node.element) target.shift its.so)

  shape_same : MapsShape structs graph graph unmoved
  shape_same = record {
    names = λ name target e. e ∙ sym (slot_same target (subst (λ t. is_slot graph t ≡ true) e (sound.names name)));
    elements = λ number node e. at_from graph (unmoved number) (element_kept structs node.element) node e (kept_itself structs made node.element node.flags node.edges);
    edges = λ number slot node to e has.
        let sounds = sound.edges number node e in
        ap (edge_at graph)
        (shifted_there graph slot (unmoved number) node e ∙ ap (λ s. Some (record { node = number; shift = s })) (settled (is_collapsed node.element) slot (slot_settled graph node node.edges slot to sounds has)))
        ∙ (edge_there graph (record { node = number; shift = slot }) node e ∙ (has ∙ sym (slot_same to (edge_slot graph node node.edges slot to sounds has))));
  }

flags_same : (graph : Graph) → KeepsFlags graph graph unmoved
flags_same graph number node e =
    at_from graph (unmoved number) (λ image shift. flags_kept node.flags image.flags) node e (and_parts (implies node.flags.certain node.flags.certain) (flags_kept node.flags node.flags) (flags_itself node.flags)).1

none_shifted : (graph : Graph) (slots : ℕ) (target : Target) → node_at graph target.node ≡ None → shifted graph slots (Some target) ≡ None
none_shifted graph slots target e = rw e refl

shift_moves : (graph : Graph) (target : Target) → shifted graph 0 (Some target) ≡ mapped graph unmoved target
shift_moves graph target = by (node_at graph target.node) refl
  where
    by : (found : Option Node) → node_at graph target.node ≡ found → shifted graph 0 (Some target) ≡ mapped graph unmoved target
    by None e = none_shifted graph 0 target e ∙ sym (none_shifted graph target.shift (unmoved target.node) e)
    by (Some node) e =
        let turn : target.shift + 0 ≡ 0 + target.shift = omega arith in
        shifted_there graph 0 target node e
        ∙ (ap (λ s. Some (record { node = target.node; shift = shift_in node s })) turn ∙ sym (shifted_there graph target.shift (unmoved target.node) node e))

-- ---- groups

-- functions of groups below the number have embeddings for functions of such groups only
abbrev pub CallsBelow : Family → ℕ → Type 0
CallsBelow family number =
    (function : ℕ) → group_of family function < number → (site called node : ℕ) (target : Target) → family.graphs.embedding (crossing family (InFunction function) site called) node ≡ Some target → group_of family called < number

module _ (family other : Family) (number : ℕ) (made : AreMade other.tac.structs) (same : (function : ℕ) → group_of family function < number → graph_of other (InFunction function) ≡ graph_of family (InFunction function)) where
  pub maps_same : (embeddings : other.graphs.embedding ≡ family.graphs.embedding) → ((function : ℕ) → group_of family function < number → HasNodes (graph_of family (InFunction function))) → CallsBelow family number
      → MapsBelow family other number (λ group. unmoved)
  maps_same embeddings sound calls function less = record {
    shape = subst (λ g. MapsShape other.tac.structs (graph_of family (InFunction function)) g unmoved) (sym (same function less)) (shape_same other.tac.structs made (graph_of family (InFunction function)) (sound function less));
    embeddings = λ site called node target held. (
      calls function less site called node target held,
      ap (shifted (graph_of other (InFunction function)) 0) (ap (λ e. e (crossing family (InFunction function) site called) node) embeddings ∙ held) ∙ shift_moves (graph_of other (InFunction function)) target,
    );
  }

  pub flags_below : FlagsBelow family other number (λ group. unmoved)
  flags_below function less = subst (λ g. KeepsFlags (graph_of family (InFunction function)) g unmoved) (sym (same function less)) (flags_same (graph_of family (InFunction function)))
