-- Edges of copies, set one after another.
use Rattle.std.proofs.Common.{◌≡◌, ℕ, zero, suc, ◌+◌, ◌<◌, ◌≤◌, List, [], ◌∷◌, length, drop, get_or, Contains, Option, Some, None, refl, sym, ap, subst, ◌∙◌, ◌⊎◌, inl, inr, arith, add-one, drop-cons}
use Rattle.std.proofs.lemmas.Bool.{true≢false, cases_lt}
use Rattle.std.proofs.lemmas.Option.{none-some, same_Some}
use Rattle.c_typed.specs.Layouts.{StructDef}
use Rattle.c_typed.specs.Table.{Interned}
use Rattle.heap_graph.specs.Structures.{AreMade}
use Rattle.heap_graph.specs.Graphs.{Target, Edge, Node, Name, Graph, node_at, OfCopy}
use Rattle.heap_graph.specs.Memory.{target_of}
use Rattle.heap_graph.specs.Targets.{has_target, edge_at}
use Rattle.heap_graph.specs.Merging.{IsSlot, IsSound, GraphMap, Maps, HasEdge}
use Rattle.heap_graph.proofs.MapsCompose.{target_in, mapped_there}
use Rattle.heap_graph.specs.declared.frozen.Edge as memory_edge
use Rattle.heap_graph.specs.declared.frozen.Node as memory_node
use Rattle.heap_graph.specs.declared.frozen.FrozenGraph.{FrozenGraph}
use Rattle.heap_graph.specs.Frozen.{edge_of, edges_of, node_in, node_there, bare}
use Rattle.heap_graph.specs.Edges.{EdgesAreFound}
use Rattle.heap_graph.proofs.Nodes.{node_before}
use Rattle.graph_unification.specs.Leading.{Least}
use Rattle.graph_unification.specs.Going.{GoesOn}
use Rattle.dsa_inlining.specs.Copied.{image, NodesCopied, EdgeCopied, EdgesCopied, NodeLinked, AreCopied}
use Rattle.dsa_inlining.specs.Adding.{AreClosed, AreFree, AreNumbered, NamesStay, LeadsCopied}
use Rattle.dsa_inlining.specs.Steps.{LeadsToSlot, EdgesAdded, LinksOne, NodesAdded}
use Rattle.graph_unification.proofs.Goes.{goes_same, goes_then, least_goes}
use Rattle.dsa_inlining.proofs.Carried.{Image, image_of, image_carried, edge_carried, node_kept, nodes_kept}
use Rattle.dsa_inlining.proofs.Placed.{place_of}

-- ---- one edge

module _ (structs : List StructDef) (made : AreMade structs) (old new : Graph) (copies : ℕ → Option ℕ) (number : ℕ) (edge : Edge) (from to : Target) (sound : IsSound structs old)
    (at_from : image old copies (record { node = number; shift = edge.slot }) ≡ Some from) (at_to : image old copies edge.to ≡ Some to) (end : IsSlot structs old to)
    (least : Least structs old new (HasEdge from.node from.shift to)) (same : (name : Name) → has_target (new.targets name) ≡ has_target (old.targets name)) where
  abbrev here : Target
  here = record { node = number; shift = edge.slot }

  abbrev last : Image structs made old new least.map sound least.maps to
  last = image_of structs made old new least.map sound least.maps to end

  linked_there : EdgeCopied new copies number edge
  linked_there =
      let there = mapped_there new least.map to last.image last.image_is in
      record {
        end = target_in least.map to last.image;
        is = image_carried structs made old new least.map sound least.maps copies edge.to to at_to ∙ there;
        leads = ap (edge_at new) (image_carried structs made old new least.map sound least.maps copies here from at_from) ∙ least.holds ∙ there;
      }

  asked_there : (other : Graph) (into : GraphMap) → Maps structs old other into → EdgeCopied other copies number edge → HasEdge from.node from.shift to other into
  asked_there other into maps its =
      ap (edge_at other) (sym (image_carried structs made old other into sound maps copies here from at_from)) ∙ its.leads ∙ sym its.is ∙ image_carried structs made old other into sound maps copies edge.to to at_to

  pub links_one : LinksOne structs old new copies number edge
  links_one = record {
    goes = least_goes structs made old new (HasEdge from.node from.shift to) least;
    names = same;
    linked = linked_there;
    leads = λ other into maps its.
        let rest = least.least other into maps (asked_there other into maps its) in
        (rest.0, rest.1);
  }

-- ---- the edges of a node

-- those that are left make them whole
pub record AreLinking (structs : List StructDef) (old new : Graph) (copies : ℕ → Option ℕ) (number : ℕ) (edges : List memory_edge.Edge) (index : ℕ) : Type 0 where
  pub goes : GoesOn structs old new
  pub names : (name : Name) → has_target (new.targets name) ≡ has_target (old.targets name)
  pub whole : (graph : Graph) → GoesOn structs new graph → EdgesCopied graph copies number (edges_of (drop index edges)) → EdgesCopied graph copies number (edges_of edges)
  pub leads : (other : Graph) (into : GraphMap) → Maps structs old other into → EdgesCopied other copies number (edges_of edges) → (rest : GraphMap) × Maps structs new other rest

drop_none : (edges : List memory_edge.Edge) → drop 0 edges ≡ edges
drop_none [] = refl
drop_none (edge ∷ edges) = refl

one_of : (other : Graph) (copies : ℕ → Option ℕ) (number : ℕ) (edges : List memory_edge.Edge) (index : ℕ) (d : memory_edge.Edge) → index < length edges → EdgesCopied other copies number (edges_of edges)
    → EdgeCopied other copies number (edge_of (get_or edges index d))
one_of other copies number [] index d less its = absurd (omega (arith, less))
one_of other copies number (edge ∷ edges) zero d less its = its.0
one_of other copies number (edge ∷ edges) (suc index) d less its = one_of other copies number edges index d (omega (arith, less)) its.1

next_edge : (edges : List memory_edge.Edge) (index : ℕ) (d : memory_edge.Edge) → index < length edges → drop index edges ≡ get_or edges index d ∷ drop (index + 1) edges
next_edge edges index d less = rw (add-one, drop-cons edges index d) refl

module _ (structs : List StructDef) (made : AreMade structs) (copies : ℕ → Option ℕ) (number : ℕ) where
  pub linking_none : (graph : Graph) (edges items : List memory_edge.Edge) → items ≡ edges → IsSound structs graph → AreLinking structs graph graph copies number edges 0
  linking_none graph edges items same sound = record {
    goes = goes_same structs made graph sound;
    names = λ name. refl;
    whole = λ other goes its. subst (λ l. EdgesCopied other copies number (edges_of l)) (drop_none edges) its;
    leads = λ other into maps its. (into, maps);
  }

  pub linking_more : (old middle new : Graph) (edges : List memory_edge.Edge) (index : ℕ) (d : memory_edge.Edge) → index < length edges → IsSound structs old → IsSound structs middle → IsSound structs new
      → AreLinking structs old middle copies number edges index → LinksOne structs middle new copies number (edge_of (get_or edges index d)) → AreLinking structs old new copies number edges (index + 1)
  linking_more old middle new edges index d less start sound fine its one = record {
    goes = goes_then structs made old middle new start its.goes one.goes;
    names = λ name. one.names name ∙ its.names name;
    whole = λ graph goes left.
        its.whole graph (goes_then structs made middle new graph sound one.goes goes)
        (subst (λ l. EdgesCopied graph copies number (edges_of l)) (sym (next_edge edges index d less))
        (edge_carried structs made new graph goes.map fine goes.maps copies number (edge_of (get_or edges index d)) one.linked, left));
    leads = λ other into maps copied.
        let rest = its.leads other into maps copied in
        one.leads other rest.0 rest.1 (one_of other copies number edges index d less copied);
  }

  pub linking_all : (old new : Graph) (edges : List memory_edge.Edge) (index : ℕ) → length edges ≤ index → IsSound structs new → AreLinking structs old new copies number edges index
      → EdgesCopied new copies number (edges_of edges)
  linking_all old new edges index long sound its =
      its.whole new (goes_same structs made new sound) (subst (λ l. EdgesCopied new copies number (edges_of l)) (sym (all_dropped edges index long)) tt)
    where
      all_dropped : (edges : List memory_edge.Edge) (index : ℕ) → length edges ≤ index → drop index edges ≡ []
      all_dropped [] zero le = refl
      all_dropped [] (suc index) le = refl
      all_dropped (edge ∷ edges) zero le = absurd (omega (arith, le))
      all_dropped (edge ∷ edges) (suc index) le = all_dropped edges index (omega (arith, le))

-- ---- where an edge lies

pub record EdgePlaced (structs : List StructDef) (graph : Graph) (copies : ℕ → Option ℕ) (number : ℕ) (edge : memory_edge.Edge) : Type 0 where
  pub from : LeadsToSlot structs graph (image graph copies (record { node = number; shift = edge.slot }))
  pub to : LeadsToSlot structs graph (image graph copies (target_of edge.to))

pub edge_placed : (structs : List StructDef) → AreMade structs → (table : Interned) (callee : FrozenGraph) (nodes : List ℕ) (graph : Graph) (copies : ℕ → Option ℕ) (first next number : ℕ) (node : memory_node.Node)
    (edge : memory_edge.Edge) → IsSound structs graph → IsSound structs (bare table callee) → EdgesAreFound callee → AreClosed callee.nodes.items nodes → AreNumbered (bare table callee) nodes copies first next
    → NodesCopied structs graph (bare table callee) copies → Contains nodes number → node_there callee.nodes.items number ≡ Some node → Contains node.edges.items edge
    → EdgePlaced structs graph copies number edge
edge_placed structs made table callee nodes graph copies first next number node edge sound fine found closed numbered copied among is has =
    let plain = bare table callee in
    let here = node_before table callee.nodes.items plain refl number node is in
    let own = numbered.all number (node_in table node) among here in
    let at = found number node edge is has in
    let less = fine.from number edge.slot (node_in table node) (target_of edge.to) here at in
    let end = fine.to number edge.slot (node_in table node) (target_of edge.to) here at in
    let there = closed number edge.to.node among (record { node = node; there = is; edge = edge; has = has; leads = refl }) in
    let other = numbered.all edge.to.node end.node there end.is in
    record {
      from = place_of structs made graph plain copies sound copied number own.0 edge.slot (node_in table node) own.1 here less;
      to = place_of structs made graph plain copies sound copied edge.to.node other.0 edge.to.shift end.node other.1 end.is end.inside;
    }

-- ---- all edges of a node

module _ (structs : List StructDef) (made : AreMade structs) (old new callee : Graph) (copies : ℕ → Option ℕ) (number : ℕ) where
  pub nothing_added : IsSound structs old → EdgesAdded structs old old callee copies
  nothing_added sound = record { goes = goes_same structs made old sound; names = λ name. refl; leads = λ other into maps its. (into, maps) }

  pub all_added : (edges : List memory_edge.Edge) (index copy : ℕ) (node : Node) → copies number ≡ Some copy → node_at callee number ≡ Some node → node.edges ≡ edges_of edges
      → AreLinking structs old new copies number edges index → EdgesAdded structs old new callee copies
  all_added edges index copy node of_node is same its = record {
    goes = its.goes;
    names = its.names;
    leads = λ other into maps copied. its.leads other into maps (subst (EdgesCopied other copies number) same (copied.edges number copy node of_node is));
  }

  pub none_linked : node_at callee number ≡ None → NodeLinked new callee copies number
  none_linked none copy node of_node is = absurd (none-some node (sym none ∙ is))

  pub node_linked : (edges : List memory_edge.Edge) (node : Node) → node_at callee number ≡ Some node → node.edges ≡ edges_of edges → EdgesCopied new copies number (edges_of edges) → NodeLinked new callee copies number
  node_linked edges node is same its copy other of_node at =
      subst (EdgesCopied new copies number) (sym same ∙ ap (λ (n : Node). n.edges) (same_Some node other (sym is ∙ at))) its

-- ---- all nodes

-- the first nodes of the list have their edges
pub record AreLinked (structs : List StructDef) (old new callee : Graph) (nodes : List ℕ) (copies : ℕ → Option ℕ) (count : ℕ) : Type 0 where
  pub added : EdgesAdded structs old new callee copies
  pub linked : (index number : ℕ) → index < count → get_or nodes index number ≡ number → NodeLinked new callee copies number

module _ (structs : List StructDef) (made : AreMade structs) (callee : Graph) (nodes : List ℕ) (copies : ℕ → Option ℕ) where
  pub linked_none : (graph : Graph) → IsSound structs graph → AreLinked structs graph graph callee nodes copies 0
  linked_none graph sound = record { added = nothing_added structs made graph graph callee copies 0 sound; linked = λ index number less is. absurd (omega (arith, less)) }

  pub added_then : (old middle new : Graph) → IsSound structs old → EdgesAdded structs old middle callee copies → EdgesAdded structs middle new callee copies → EdgesAdded structs old new callee copies
  added_then old middle new sound first then = record {
    goes = goes_then structs made old middle new sound first.goes then.goes;
    names = λ name. then.names name ∙ first.names name;
    leads = λ other into maps copied.
        let rest = first.leads other into maps copied in
        then.leads other rest.0 rest.1 copied;
  }

  pub linked_more : (old middle new : Graph) (count number : ℕ) → IsSound structs old → IsSound structs middle → AreLinked structs old middle callee nodes copies count
      → ((index : ℕ) (other : ℕ) → index ≡ count → get_or nodes index other ≡ other → other ≡ number) → EdgesAdded structs middle new callee copies → NodeLinked new callee copies number
      → AreLinked structs old new callee nodes copies (count + 1)
  linked_more old middle new count number start sound its it added own = record {
    added = added_then old middle new start its.added added;
    linked = λ index other less is. by index other is (cases_lt index count) less;
  }
    where
      by : (index other : ℕ) → get_or nodes index other ≡ other → (index < count) ⊎ (count ≤ index) → index < count + 1 → NodeLinked new callee copies other
      by index other is (inl lt) less = node_kept structs made middle new callee copies sound added.goes other (its.linked index other lt is)
      by index other is (inr le) less = subst (NodeLinked new callee copies) (sym (it index other (omega (arith, le, less)) is)) own

-- nodes and then edges
module _ (structs : List StructDef) (made : AreMade structs) (old middle new callee : Graph) (nodes : List ℕ) (copies : ℕ → Option ℕ) (first next count : ℕ) (long : length nodes ≤ count) (start : IsSound structs old)
    (sound : IsSound structs middle) (numbered : AreNumbered callee nodes copies first next) (noded : NodesAdded structs old middle callee copies first next)
    (edged : AreLinked structs middle new callee nodes copies count) where
  pub all_go : GoesOn structs old new
  all_go = goes_then structs made old middle new start noded.goes edged.added.goes

  pub all_stay : NamesStay old new first
  all_stay name differs = edged.added.names name ∙ noded.names name differs

  pub all_copied : AreCopied structs new callee copies
  all_copied = record {
    nodes = nodes_kept structs made middle new callee copies sound edged.added.goes noded.copied;
    edges = λ number copy node of_node is.
        let has = (numbered.only number copy of_node).0 in
        edged.linked has.0 number (omega (arith, long, has.1)) has.2 copy node of_node is;
  }

  pub all_lead : LeadsCopied structs old new callee copies
  all_lead other into maps copied =
      let rest = noded.leads other into maps copied.nodes in
      edged.added.leads other rest.0 rest.1 copied

  pub all_free : AreFree new next
  all_free copy from = by (new.targets (OfCopy copy)) refl
    where
      by : (o : Option Target) → new.targets (OfCopy copy) ≡ o → new.targets (OfCopy copy) ≡ None
      by None e = e
      by (Some target) e = absurd (true≢false (sym (ap has_target e) ∙ edged.added.names (OfCopy copy) ∙ ap has_target (noded.free copy from)))
