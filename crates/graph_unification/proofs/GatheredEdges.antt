-- Edges that are gathered one after the other.
use Rattle.std.proofs.Common.{◌≡◌, ℕ, suc, ◌+◌, Bool, true, false, cond, eqb, List, [], ◌∷◌, map, drop, Option, Some, None, refl, sym, ap, subst, ◌∙◌, arith}
use Rattle.std.specs.Prelude.{slice_get, option_map}
use Rattle.std.proofs.lemmas.Bool.{cond-true, eqb-true, eq-eqb}
use Rattle.std.proofs.lemmas.Option.{none-some}
use Rattle.c_typed.specs.Table.{Interned}
use Rattle.heap_graph.specs.Graphs.{Target, Edge, Node, Graph, edge_in, node_at}
use Rattle.graph_unification.specs.declared.node.SlotEdge.{SlotEdge}
use Rattle.graph_unification.specs.declared.node.Node as memory_node
use Rattle.graph_unification.specs.declared.graph.Graph as memory_graph
use Rattle.graph_unification.specs.Memory.{node_in, content, edge_of, node_there, graph_in, AreApart, IsGraph}
use Rattle.graph_unification.specs.Changes.{edge_of_node, edge_found, numbered_edge, edge_numbered}
use Rattle.graph_unification.proofs.HeldNodes.{edge_made, node_at_in}
use Rattle.heap_graph.specs.Memory.{target_of}
use Rattle.heap_graph.specs.declared.frozen.Edge as memory_edge
use Rattle.heap_graph.specs.Frozen as F
use Rattle.heap_graph.specs.Frozen.{edges_of}
use Rattle.heap_graph.specs.Asks.{is_certain}
use Rattle.heap_graph.specs.Restricted.{if_certain}
use Rattle.heap_graph.proofs.Certain.{if_yes, if_not}
use Rattle.graph_unification.specs.Freezing.{EdgesAscend, TellsEdges}
use Rattle.graph_unification.specs.Placing.{placed}
use Rattle.graph_unification.proofs.ToldLists.{drop_some, drop_none}
use Rattle.graph_unification.proofs.PlacedEdges.{placed_found, placed_ascends}

-- ---- the edges of a node

abbrev pub edges_there : Option Node → List Edge
edges_there None = []
edges_there (Some node) = node.edges

abbrev pub edges_at : Graph → ℕ → List Edge
edges_at graph number = edges_there (node_at graph number)

pub numbered_there : (graph : Graph) (number index : ℕ) → edge_numbered graph number index ≡ slice_get (edges_at graph number) index
numbered_there graph number index = by (node_at graph number)
  where
    by : (o : Option Node) → numbered_edge index o ≡ slice_get (edges_there o) index
    by None = refl
    by (Some node) = refl

pub found_there : (graph : Graph) (number slot : ℕ) → edge_found graph number slot ≡ edge_in (edges_at graph number) slot
found_there graph number slot = by (node_at graph number)
  where
    by : (o : Option Node) → edge_of_node slot o ≡ edge_in (edges_there o) slot
    by None = refl
    by (Some node) = refl

-- no slot has two edges
abbrev pub Apart : List Edge → Type 0
Apart [] = Unit {0}
Apart (edge ∷ edges) = (edge_in edges edge.slot ≡ None) × Apart edges

apart_in : (holds : ℕ → Target) (edges : List SlotEdge) → AreApart edges → Apart (map (edge_of holds) edges)
apart_in holds [] apart = tt
apart_in holds (edge ∷ edges) apart = (edge_made holds edges edge.slot ∙ ap (option_map holds) apart.0, apart_in holds edges apart.1)

pub apart_at : (table : Interned) (graph : memory_graph.Graph) (number : ℕ) → IsGraph table graph → Apart (edges_at (graph_in table graph) number)
apart_at table graph number fine = subst (λ o. Apart (edges_there o)) (sym (node_at_in table graph number)) (by (node_in graph.nodes.list.items number) refl)
  where
    by : (o : Option memory_node.Node) → node_in graph.nodes.list.items number ≡ o → Apart (edges_there (option_map (node_there table (content graph.nodes)) o))
    by None e = tt
    by (Some node) e = apart_in (content graph.nodes) node.edges.items (fine.apart number node e)

-- ---- edges that are gathered, and those that are left

abbrev pub first_of : Option Target → Option Target → Option Target
first_of None other = other
first_of (Some target) other = Some target

first_none : (o : Option Target) → first_of o None ≡ o
first_none None = refl
first_none (Some target) = refl

pub record Gathers (graph : Graph) (all left done : List Edge) : Type 0 where
  pub ascend : EdgesAscend done
  pub apart : Apart left
  pub fresh : (slot : ℕ) (to : Target) → edge_in left slot ≡ Some to → edge_in done slot ≡ None
  pub found : (slot : ℕ) → first_of (edge_in done slot) (if_certain graph (edge_in left slot)) ≡ if_certain graph (edge_in all slot)

pub gathers_none : (graph : Graph) (all : List Edge) → Apart all → Gathers graph all all []
gathers_none graph all apart = record { ascend = tt; apart = apart; fresh = λ slot to h. refl; found = λ slot. refl }

module _ (graph : Graph) (all left done : List Edge) (edge : Edge) (gathers : Gathers graph all (edge ∷ left) done) where
  pub not_yet : edge_in done edge.slot ≡ None
  not_yet = gathers.fresh edge.slot edge.to (cond-true (eqb edge.slot edge.slot) (Some edge.to) (edge_in left edge.slot) (eq-eqb edge.slot edge.slot refl))

  none_left : (slot : ℕ) → eqb edge.slot slot ≡ true → edge_in left slot ≡ None
  none_left slot e = ap (edge_in left) (sym (eqb-true edge.slot slot e)) ∙ gathers.apart.0

  was_fresh : (slot : ℕ) (to : Target) → edge_in left slot ≡ Some to → edge_in done slot ≡ None
  was_fresh slot to h = by (eqb edge.slot slot) (gathers.fresh slot)
    where
      by : (b : Bool) → ((t : Target) → cond b (Some edge.to) (edge_in left slot) ≡ Some t → edge_in done slot ≡ None) → edge_in done slot ≡ None
      by true f = f edge.to refl
      by false f = f to h

  pub left_out : is_certain graph (Some edge.to) ≡ false → Gathers graph all left done
  left_out uncertain = record {
    ascend = gathers.ascend;
    apart = gathers.apart.1;
    fresh = was_fresh;
    found = λ slot. by slot (eqb edge.slot slot) refl (gathers.found slot);
  }
    where
      by : (slot : ℕ) (b : Bool) → eqb edge.slot slot ≡ b → first_of (edge_in done slot) (if_certain graph (cond b (Some edge.to) (edge_in left slot))) ≡ if_certain graph (edge_in all slot)
          → first_of (edge_in done slot) (if_certain graph (edge_in left slot)) ≡ if_certain graph (edge_in all slot)
      by slot true e h = ap (λ o. first_of (edge_in done slot) (if_certain graph o)) (none_left slot e) ∙ ap (first_of (edge_in done slot)) (sym (if_not graph (Some edge.to) uncertain)) ∙ h
      by slot false e h = h

  pub kept : (new : List Edge) → is_certain graph (Some edge.to) ≡ true → EdgesAscend new
      → ((slot : ℕ) → edge_in new slot ≡ cond (eqb edge.slot slot) (Some edge.to) (edge_in done slot)) → Gathers graph all left new
  kept new certain ascend adds = record {
    ascend = ascend;
    apart = gathers.apart.1;
    fresh = λ slot to h. adds slot ∙ free slot to h (eqb edge.slot slot) refl;
    found = λ slot. ap (λ o. first_of o (if_certain graph (edge_in left slot))) (adds slot) ∙ by slot (eqb edge.slot slot) refl (gathers.found slot);
  }
    where
      free : (slot : ℕ) (to : Target) → edge_in left slot ≡ Some to → (b : Bool) → eqb edge.slot slot ≡ b → cond b (Some edge.to) (edge_in done slot) ≡ None
      free slot to h true e = absurd (none-some to (sym (none_left slot e) ∙ h))
      free slot to h false e = was_fresh slot to h

      by : (slot : ℕ) (b : Bool) → eqb edge.slot slot ≡ b → first_of (edge_in done slot) (if_certain graph (cond b (Some edge.to) (edge_in left slot))) ≡ if_certain graph (edge_in all slot)
          → first_of (cond b (Some edge.to) (edge_in done slot)) (if_certain graph (edge_in left slot)) ≡ if_certain graph (edge_in all slot)
      by slot true e h =
          let none : edge_in done slot ≡ None = ap (edge_in done) (sym (eqb-true edge.slot slot e)) ∙ not_yet in
          sym (if_yes graph (Some edge.to) certain) ∙ ap (λ o. first_of o (if_certain graph (Some edge.to))) (sym none) ∙ h
      by slot false e h = h

-- ---- the edges of a node, one after the other

module _ (graph : Graph) (number index : ℕ) (done : List memory_edge.Edge) (gathers : Gathers graph (edges_at graph number) (drop index (edges_at graph number)) (edges_of done)) where
  pub one_kept : (edge : memory_edge.Edge) (new : List memory_edge.Edge) → Some (F.edge_of edge) ≡ edge_numbered graph number index → is_certain graph (Some (target_of edge.to)) ≡ true → new ≡ placed edge done
      → Gathers graph (edges_at graph number) (drop (index + 1) (edges_at graph number)) (edges_of new)
  one_kept edge new numbered certain is =
      let all = edges_at graph number in
      let left = drop (suc index) all in
      let rest : Gathers graph all (F.edge_of edge ∷ left) (edges_of done) =
      subst (λ l. Gathers graph all l (edges_of done)) (drop_some all index (F.edge_of edge) (sym (numbered ∙ numbered_there graph number index))) gathers in
      let free = not_yet graph all left (edges_of done) (F.edge_of edge) rest in
      let next : suc index ≡ index + 1 = omega arith in
      subst (λ l. Gathers graph all (drop (index + 1) all) (edges_of l)) (sym is) (subst (λ n. Gathers graph all (drop n all) (edges_of (placed edge done))) next
      (kept graph all left (edges_of done) (F.edge_of edge) rest (edges_of (placed edge done)) certain (placed_ascends edge done free rest.ascend) (placed_found edge done free)))

  pub one_left_out : (edge : memory_edge.Edge) → Some (F.edge_of edge) ≡ edge_numbered graph number index → is_certain graph (Some (target_of edge.to)) ≡ false
      → Gathers graph (edges_at graph number) (drop (index + 1) (edges_at graph number)) (edges_of done)
  one_left_out edge numbered uncertain =
      let all = edges_at graph number in
      let left = drop (suc index) all in
      let rest : Gathers graph all (F.edge_of edge ∷ left) (edges_of done) =
      subst (λ l. Gathers graph all l (edges_of done)) (drop_some all index (F.edge_of edge) (sym (numbered ∙ numbered_there graph number index))) gathers in
      let next : suc index ≡ index + 1 = omega arith in
      subst (λ n. Gathers graph all (drop n all) (edges_of done)) next (left_out graph all left (edges_of done) (F.edge_of edge) rest uncertain)

  pub all_gathered : None ≡ edge_numbered graph number index → TellsEdges graph number (edges_of done)
  all_gathered numbered =
      let all = edges_at graph number in
      let end : Gathers graph all [] (edges_of done) = subst (λ l. Gathers graph all l (edges_of done)) (drop_none all index (sym (numbered ∙ numbered_there graph number index))) gathers in
      record {
        found = λ slot. sym (first_none (edge_in (edges_of done) slot)) ∙ end.found slot ∙ ap (if_certain graph) (sym (found_there graph number slot));
        ascend = end.ascend;
      }
