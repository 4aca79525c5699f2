-- What is asked of names in a graph that is made holds in the completed graph; and a map to the completed graph maps certain nodes to the
-- graph itself.
use Rattle.std.proofs.Common.{◌≡◌, ℕ, Bool, true, List, Option, Some, refl, sym, ap, subst, ◌∙◌}
use Rattle.std.specs.Prelude.{◌&&◌}
use Rattle.std.proofs.lemmas.Bool.{and_parts, and_from}
use Rattle.c_typed.specs.Types.{CType}
use Rattle.c_typed.specs.Layouts.{StructDef}
use Rattle.heap_graph.specs.Graphs.{Target, Element, Missing, OfType, Collapsed, Flags, Node, Name, Graph, node_at}
use Rattle.heap_graph.specs.Targets.{same_target, has_target, at_target, shifted, edge_at, holds_part, implies, flags_kept, marks_kept, element_kept, is_collapsed, is_array, elements_of}
use Rattle.heap_graph.specs.Closed.{is_slot}
use Rattle.heap_graph.specs.Merging.{GraphMap, mapped, Maps}
use Rattle.heap_graph.proofs.MapsCompose.{at_there, at_from}
use Rattle.heap_graph.specs.Asks.{is_certain}
use Rattle.heap_graph.specs.Restricted.{if_certain, SameFlags, Restricts}
use Rattle.heap_graph.specs.Completed.{or_target, nothing_in, completed, HasNodes}
use Rattle.heap_graph.specs.CertainMaps.{MapsCertain}
use Rattle.heap_graph.proofs.Certain.{certain_some, certain_there, if_yes, has_if, same_eq, eq_same, implies_holds}
use Rattle.heap_graph.proofs.Restricting.{Depends, holds_depends, at_certain, shifted_certain, edge_certain}
use Rattle.heap_graph.proofs.CompletedGraph.{slot_certain, completed_names, completed_restricts}

-- ---- what depends on elements and flags alone

pub both_depend : (one other : Node → ℕ → Bool) → Depends one → Depends other → Depends (λ node shift. one node shift && other node shift)
both_depend one other first second a b shift element flags = λ i. first a b shift element flags i && second a b shift element flags i

-- what is asked of the node of an object
pub object_depends : (structs : List StructDef) (c_type : CType) (kind : Flags → Bool) → ((a b : Flags) → SameFlags a b → kind a ≡ kind b)
    → Depends (λ node shift. holds_part structs (elements_of c_type) node shift && (kind node.flags && implies (is_array c_type) node.flags.array))
object_depends structs c_type kind same =
    both_depend (holds_part structs (elements_of c_type)) (λ node shift. kind node.flags && implies (is_array c_type) node.flags.array) (holds_depends structs (elements_of c_type))
    (both_depend (λ node shift. kind node.flags) (λ node shift. implies (is_array c_type) node.flags.array) (λ a b shift element flags. same a.flags b.flags flags)
    (λ a b shift element flags. ap (implies (is_array c_type)) flags.array))

pub element_depends : (structs : List StructDef) (element : Element) → Depends (element_kept structs element)
element_depends structs Missing a b shift element flags = refl
element_depends structs (OfType c_type) a b shift element flags = holds_depends structs c_type a b shift element flags
element_depends structs Collapsed a b shift element flags = ap is_collapsed element

pub flags_depend : (old : Flags) → Depends (λ node shift. flags_kept old node.flags)
flags_depend old a b shift element flags = λ i.
    implies old.heap (flags.heap i) && (implies old.stack (flags.stack i) && (implies old.global (flags.global i) && (implies old.array (flags.array i) && (implies old.modified (flags.modified i) && implies old.read (flags.read i)))))

-- ---- names

module _ (bound : ℕ) (graph : Graph) (sound : HasNodes graph) where
  abbrev whole : Graph
  whole = completed bound graph

  restricts : Restricts whole graph
  restricts = completed_restricts bound graph sound

  -- a name that has a target has the same
  pub name_same : (name : Name) (target : Target) → graph.targets name ≡ Some target → (completed bound graph).targets name ≡ Some target
  name_same name target e = ap (or_target (nothing_in graph)) e

  -- and its node is certain
  pub name_certain : (name : Name) (target : Target) → graph.targets name ≡ Some target → is_certain (completed bound graph) (Some target) ≡ true
  name_certain name target e = slot_certain bound graph target (subst (λ t. is_slot graph t ≡ true) e (sound.names name))

  -- a name has a target where that of the completed graph is certain
  pub certain_has : (name : Name) → is_certain (completed bound graph) ((completed bound graph).targets name) ≡ has_target (graph.targets name)
  certain_has name = sym (ap has_target (completed_names bound graph sound name) ∙ has_if whole (whole.targets name))

  -- what has the same target, or both have none, has the same target
  pub names_same : (a b : Name) → same_target (graph.targets a) (graph.targets b) ≡ true → same_target ((completed bound graph).targets a) ((completed bound graph).targets b) ≡ true
  names_same a b h = eq_same (whole.targets a) (whole.targets b) (ap (or_target (nothing_in graph)) (same_eq (graph.targets a) (graph.targets b) h))

  -- what is told of a certain node is the same
  pub at_completed : (target : Option Target) (holds : Node → ℕ → Bool) → Depends holds → is_certain (completed bound graph) target ≡ true
      → at_target (completed bound graph) target holds ≡ at_target graph target holds
  at_completed target holds depends h = sym (at_certain whole graph restricts target holds depends h)

  pub at_name : (name : Name) (holds : Node → ℕ → Bool) → Depends holds → (has_target (graph.targets name) && at_target graph (graph.targets name) holds) ≡ true
      → (is_certain (completed bound graph) ((completed bound graph).targets name) && at_target (completed bound graph) ((completed bound graph).targets name) holds) ≡ true
  at_name name holds depends h =
      let parts = and_parts _ _ h in
      let sure = certain_has name ∙ parts.0 in
      and_from _ _ sure
      (at_completed (whole.targets name) holds depends sure ∙ (sym (ap (λ t. at_target graph t holds) (completed_names bound graph sound name ∙ if_yes whole (whole.targets name) sure)) ∙ parts.1))

-- ---- maps

module _ (structs : List StructDef) (made whole graph : Graph) (restricts : Restricts whole graph) (names : (name : Name) → graph.targets name ≡ if_certain whole (whole.targets name))
    (into : GraphMap) (maps : Maps structs made whole into) where
  goes_certain : (number : ℕ) (node : Node) → node_at made number ≡ Some node → node.flags.certain ≡ true → is_certain whole (Some (into number)) ≡ true
  goes_certain number node e h =
      let image = at_there whole (into number) (λ image shift. marks_kept node.flags image.flags) (maps.flags number node e) in
      certain_some whole (into number) image.node image.is ∙ implies_holds node.flags.certain image.node.flags.certain (and_parts _ _ image.so).0 h

  goes_there : (number : ℕ) (node : Node) → node_at made number ≡ Some node → node.flags.certain ≡ true → (image : Node) × (node_at graph (into number).node ≡ Some image)
  goes_there number node e h =
      let image = certain_there whole (into number) (goes_certain number node e h) in
      let now = restricts.nodes (into number).node image.node image.is image.so in
      (now.now, now.is)

  mapped_certain : (target : Target) → is_certain made (Some target) ≡ true → (mapped graph into target ≡ mapped whole into target) × (is_certain whole (mapped whole into target) ≡ true)
  mapped_certain target h =
      let from = certain_there made target h in
      shifted_certain whole graph restricts target.shift (Some (into target.node)) (goes_certain target.node from.node from.is from.so)

  flags_certain : (number : ℕ) (node : Node) → node_at made number ≡ Some node → at_target whole (Some (into number)) (λ image shift. flags_kept node.flags image.flags) ≡ true
  flags_certain number node e =
      let image = at_there whole (into number) (λ image shift. marks_kept node.flags image.flags) (maps.flags number node e) in
      at_from whole (into number) (λ image shift. flags_kept node.flags image.flags) image.node image.is (and_parts _ _ image.so).1

  -- a map to a graph maps the certain nodes to the graph of its certain nodes
  pub maps_certain : MapsCertain structs made graph into
  maps_certain = record {
    names = λ name target e h.
        let image = mapped_certain target h in
        names name ∙ (ap (if_certain whole) (maps.names name target e) ∙ (if_yes whole (mapped whole into target) image.1 ∙ sym image.0));
    elements = λ number node e h. at_certain whole graph restricts (Some (into number)) (element_kept structs node.element) (element_depends structs node.element) (goes_certain number node e h) ∙ maps.elements number node e;
    flags = λ number node e h.
        at_certain whole graph restricts (Some (into number)) (λ image shift. flags_kept node.flags image.flags) (flags_depend node.flags) (goes_certain number node e h) ∙ flags_certain number node e;
    edges = λ number slot node to e h edge k.
        let from = shifted_certain whole graph restricts slot (Some (into number)) (goes_certain number node e h) in
        let image = mapped_certain to k in
        ap (edge_at graph) from.0
        ∙ (edge_certain whole graph restricts (shifted whole slot (Some (into number))) from.1
        ∙ (ap (if_certain whole) (maps.edges number slot node to e edge) ∙ (if_yes whole (mapped whole into to) image.1 ∙ sym image.0)));
  }

module _ (structs : List StructDef) (made : Graph) (bound : ℕ) (graph : Graph) (sound : HasNodes graph) (into : GraphMap) (maps : Maps structs made (completed bound graph) into) where
  pub completed_maps : MapsCertain structs made graph into
  completed_maps = maps_certain structs made (completed bound graph) graph (completed_restricts bound graph sound) (completed_names bound graph sound) into maps

  -- a certain node goes to a node of the graph
  pub certain_goes : (number : ℕ) (node : Node) → node_at made number ≡ Some node → node.flags.certain ≡ true → (image : Node) × (node_at graph (into number).node ≡ Some image)
  certain_goes number node e h = goes_there structs made (completed bound graph) graph (completed_restricts bound graph sound) (completed_names bound graph sound) into maps number node e h
