-- A node in memory became part of another, and its edges are asked of that one: a step of merging.
use Rattle.std.proofs.Common.{◌≡◌, ℕ, ◌+◌, ◌<◌, ◌≤◌, true, List, [], ◌∷◌, map, Some, refl, sym, ap, subst, ◌∙◌, arith}
use Rattle.std.specs.Prelude.{option_map, slice_get}
use Rattle.std.proofs.lemmas.Option.{same_Some}
use Rattle.c_typed.specs.Layouts.{StructDef}
use Rattle.c_typed.specs.Table.{Interned, structs_in}
use Rattle.heap_graph.specs.Structures.{AreMade}
use Rattle.heap_graph.specs.declared.graph.Element as memory_element
use Rattle.heap_graph.specs.Memory.{element_in, flags_of}
use Rattle.heap_graph.specs.Graphs.{Target, Flags, Edge, Node, Graph}
use Rattle.heap_graph.specs.Targets.{element_kept}
use Rattle.heap_graph.specs.Merging.{slots, IsSlot}
use Rattle.heap_graph.specs.Steps.{Ask, One, Points, AllAreOf, Step, asked_edges}
use Rattle.heap_graph.proofs.StepsCompose.{kept_itself}
use Rattle.heap_graph.proofs.Relate.{Lies}
use Rattle.graph_unification.specs.declared.ask.Ask as memory_ask
use Rattle.graph_unification.specs.declared.node.SlotEdge.{SlotEdge}
use Rattle.graph_unification.specs.declared.nodes.Nodes.{Nodes}
use Rattle.graph_unification.specs.declared.graph.Graph as memory_graph
use Rattle.graph_unification.specs.Memory.{held, content, edge_of, node_there, graph_in, IsGraph}
use Rattle.graph_unification.specs.Turns.{asks_in, element_of, element_at, edges_of_held, edges_in, WithElement, Retypes, Links, Lays, Itself, Turned, Goes}
use Rattle.graph_unification.proofs.HeldNodes.{HeldNode, there_in, held_some, at_held, AllSlots, held_slots}
use Rattle.graph_unification.proofs.AskedEdges.{asked_of, Asked, asked}
use Rattle.graph_unification.proofs.Joined as joined
use Rattle.graph_unification.proofs.Retyped as retyped
use Rattle.graph_unification.proofs.GoingOn.{goes_on, goes_turned}

-- what is asked behind edges
asked_behind : (structs : List StructDef) (graph : Graph) (holds : ℕ → Target) (node distance : ℕ) (edges : List SlotEdge) (asks : List Ask) → AllAreOf structs graph (asked_of holds node distance edges asks) → AllAreOf structs graph asks
asked_behind structs graph holds node distance [] asks its = its
asked_behind structs graph holds node distance (edge ∷ edges) asks its = asked_behind structs graph holds node distance edges asks its.1

module _ (table : Interned) (made : AreMade (structs_in table)) (old new : memory_graph.Graph) (fine : IsGraph table old) (same_names : new.names ≡ old.names) (a b : Target) (distance : ℕ)
    (differ : a.node ≡ b.node → ⊥) (slot : IsSlot (structs_in table) (graph_in table old) a) (other : IsSlot (structs_in table) (graph_in table old) b)
    (lies : Lies (structs_in table) slot.node.element other.node.element a.shift b.shift distance) (before after : List memory_ask.Ask)
    (its : AllAreOf (structs_in table) (graph_in table old) (asks_in old.nodes before)) (links : Links old.nodes new.nodes a.node b.node distance before after) where
  abbrev middle : memory_graph.Graph
  middle = record { nodes = links.middle; names = old.names }

  abbrev inner : Node
  inner = node_there table (content old.nodes) links.joins.inner

  abbrev outer : Node
  outer = node_there table (content old.nodes) links.joins.outer

  inner_is : inner ≡ slot.node
  inner_is = same_Some inner slot.node (sym (at_held table old a.node links.joins.inner (ap held links.joins.goes.was)) ∙ slot.is)

  outer_is : outer ≡ other.node
  outer_is = same_Some outer other.node (sym (at_held table old b.node links.joins.outer (ap held links.joins.whole_is)) ∙ other.is)

  kept : element_kept (structs_in table) inner.element outer distance ≡ true
  kept =
      subst (λ (n : Node). element_kept (structs_in table) n.element outer distance ≡ true) (sym inner_is)
      (subst (λ (n : Node). element_kept (structs_in table) slot.node.element (record { element = n.element; flags = outer.flags; edges = outer.edges }) distance ≡ true) (sym outer_is)
      (lies.kept outer.flags outer.edges))

  fits : distance + slots (structs_in table) inner.element ≤ slots (structs_in table) outer.element
  fits =
      subst (λ (n : Node). distance + slots (structs_in table) n.element ≤ slots (structs_in table) outer.element) (sym inner_is)
      (subst (λ (n : Node). distance + slots (structs_in table) slot.node.element ≤ slots (structs_in table) n.element) (sym outer_is) lies.fits)

  joined_graph : IsGraph table middle
  joined_graph = joined.graph_now table made old middle a.node b.node distance fine refl differ links.joins kept fits

  joined_step : Step (structs_in table) (graph_in table old) (graph_in table middle) (One a b ∷ asks_in old.nodes before) (asked_edges a.node b.node distance inner.edges (asks_in links.middle before))
  joined_step = joined.joins_step table made old middle a.node b.node distance fine refl differ links.joins kept fits a b refl refl lies.sum slot other before its

  -- the edges with the targets that their cells hold by then
  edges_asked : (edges : List SlotEdge) → AllSlots table old edges → (asks : List Ask)
      → asked_edges a.node b.node distance (map (edge_of (content old.nodes)) edges) asks ≡ asked_of (content links.middle) b.node distance edges asks
  unfolding AllSlots
  edges_asked [] all asks = refl
  edges_asked (edge ∷ edges) all asks =
      ap (λ t. Points b.node (edge.slot + distance) t ∷ asked_edges a.node b.node distance (map (edge_of (content old.nodes)) edges) asks)
      (sym (joined.moved_content table made old middle a.node b.node distance fine refl differ links.joins kept fits edge.to all.0))
      ∙ ap (λ rest. Points b.node (edge.slot + distance) (content links.middle edge.to) ∷ rest) (edges_asked edges all.1 asks)

  asked_now : asked_edges a.node b.node distance inner.edges (asks_in links.middle before) ≡ asked_of (content links.middle) b.node distance (edges_in old.nodes.list.items a.node) (asks_in links.middle before)
  asked_now =
      edges_asked links.joins.inner.edges.items (held_slots table old fine a.node links.joins.inner (ap held links.joins.goes.was)) (asks_in links.middle before)
      ∙ ap (λ o. asked_of (content links.middle) b.node distance (edges_of_held (held o)) (asks_in links.middle before)) (sym links.joins.goes.was)

  all_asked : AllAreOf (structs_in table) (graph_in table middle) (asked_of (content links.middle) b.node distance (edges_in old.nodes.list.items a.node) (asks_in links.middle before))
  all_asked = subst (AllAreOf (structs_in table) (graph_in table middle)) asked_now joined_step.asks

  known : Asked table middle (record middle { nodes = new.nodes }) b.node distance before (edges_in old.nodes.list.items a.node) after
  known =
      asked table middle b.node distance before joined_graph
      (asked_behind (structs_in table) (graph_in table middle) (content links.middle) b.node distance (edges_in old.nodes.list.items a.node) (asks_in links.middle before) all_asked)
      (edges_in old.nodes.list.items a.node) new.nodes after links.asks all_asked

  pub links_nodes : Goes table old new (One a b ∷ asks_in old.nodes before) (asks_in new.nodes after)
  links_nodes =
      subst (λ names. Goes table old (record new { names = names }) (One a b ∷ asks_in old.nodes before) (asks_in new.nodes after)) (sym same_names)
      (record {
        graph = known.graph;
        step =
            subst (λ graph. Step (structs_in table) (graph_in table old) graph (One a b ∷ asks_in old.nodes before) (asks_in new.nodes after)) (sym known.same)
            (subst (Step (structs_in table) (graph_in table old) (graph_in table middle) (One a b ∷ asks_in old.nodes before)) (asked_now ∙ sym known.asks) joined_step);
      })

-- a node gets the element of one in which it lies at the first slot, and that one becomes part of it
module _ (table : Interned) (made : AreMade (structs_in table)) (old new : memory_graph.Graph) (fine : IsGraph table old) (same_names : new.names ≡ old.names) (n m s : ℕ) (differ : n ≡ m → ⊥)
    (slot : IsSlot (structs_in table) (graph_in table old) (record { node = n; shift = s })) (other : IsSlot (structs_in table) (graph_in table old) (record { node = m; shift = s }))
    (fits : slots (structs_in table) slot.node.element ≤ slots (structs_in table) other.node.element)
    (kept : (flags : Flags) (edges : List Edge) → element_kept (structs_in table) slot.node.element (record { element = other.node.element; flags = flags; edges = edges }) 0 ≡ true)
    (before after : List memory_ask.Ask) (its : AllAreOf (structs_in table) (graph_in table old) (asks_in old.nodes before)) (nodes : Nodes) (element : memory_element.Element)
    (whole_element : element_at old.nodes.list.items m ≡ Some element) (gets : Retypes old.nodes nodes n element) (links : Links nodes new.nodes m n 0 before after) where
  abbrev at_n : Target
  at_n = record { node = n; shift = s }

  abbrev at_m : Target
  at_m = record { node = m; shift = s }

  abbrev typed : memory_graph.Graph
  typed = record { nodes = nodes; names = old.names }

  inner_held : HeldNode table old n slot.node
  inner_held = there_in table old n slot.node slot.is

  outer_held : HeldNode table old m other.node
  outer_held = there_in table old m other.node other.is

  element_is : element ≡ outer_held.held.element
  element_is = same_Some element outer_held.held.element (sym whole_element ∙ ap (option_map element_of) outer_held.is)

  inner_element : element_in table inner_held.held.element ≡ slot.node.element
  inner_element = ap (λ (x : Node). x.element) inner_held.means

  outer_element : element_in table outer_held.held.element ≡ other.node.element
  outer_element = ap (λ (x : Node). x.element) outer_held.means

  gets_element : WithElement old.nodes nodes n outer_held.held.element inner_held.held
  gets_element = subst (λ e. WithElement old.nodes nodes n e inner_held.held) element_is (gets inner_held.held (held_some (slice_get old.nodes.list.items n) inner_held.held inner_held.is))

  kept_there : (flags : Flags) (edges : List Edge) → element_kept (structs_in table) (element_in table inner_held.held.element) (record { element = element_in table outer_held.held.element; flags = flags; edges = edges }) 0 ≡ true
  kept_there flags edges =
      subst (λ e. element_kept (structs_in table) e (record { element = element_in table outer_held.held.element; flags = flags; edges = edges }) 0 ≡ true) (sym inner_element)
      (subst (λ e. element_kept (structs_in table) slot.node.element (record { element = e; flags = flags; edges = edges }) 0 ≡ true) (sym outer_element) (kept flags edges))

  fits_there : slots (structs_in table) (element_in table inner_held.held.element) ≤ slots (structs_in table) (element_in table outer_held.held.element)
  fits_there =
      subst (λ e. slots (structs_in table) e ≤ slots (structs_in table) (element_in table outer_held.held.element)) (sym inner_element)
      (subst (λ e. slots (structs_in table) slot.node.element ≤ slots (structs_in table) e) (sym outer_element) fits)

  typed_goes : Goes table old typed (One at_n at_m ∷ asks_in old.nodes before) (One at_n at_m ∷ asks_in old.nodes before)
  typed_goes = retyped.retypes table made old typed n m inner_held.held outer_held.held fine refl outer_held.is gets_element kept_there fits_there s before slot other its

  same_asks : asks_in nodes before ≡ asks_in old.nodes before
  same_asks = retyped.asks_same table made old typed n m inner_held.held outer_held.held fine refl outer_held.is gets_element kept_there fits_there before

  m_now : IsSlot (structs_in table) (graph_in table typed) at_m
  m_now = record {
    node = other.node;
    is = retyped.others table made old typed n m inner_held.held outer_held.held fine refl outer_held.is gets_element kept_there fits_there m (λ e. differ (sym e)) ∙ other.is;
    inside = other.inside;
  }

  n_now : IsSlot (structs_in table) (graph_in table typed) at_n
  n_now = record {
    node = record { element = element_in table outer_held.held.element; flags = flags_of inner_held.held.flags; edges = map (edge_of (content old.nodes)) inner_held.held.edges.items };
    is = retyped.node_is table made old typed n m inner_held.held outer_held.held fine refl outer_held.is gets_element kept_there fits_there;
    inside = subst (λ e. s < slots (structs_in table) e) (sym outer_element) other.inside;
  }

  lies_now : Lies (structs_in table) m_now.node.element n_now.node.element s s 0
  unfolding m_now n_now
  lies_now = record {
    sum = omega arith;
    fits = subst (λ e. 0 + slots (structs_in table) other.node.element ≤ slots (structs_in table) e) (sym outer_element) (omega arith);
    kept = λ flags edges.
        subst (λ e. element_kept (structs_in table) other.node.element (record { element = e; flags = flags; edges = edges }) 0 ≡ true) (sym outer_element)
        (kept_itself (structs_in table) made other.node.element flags edges);
  }

  its_now : AllAreOf (structs_in table) (graph_in table typed) (asks_in nodes before)
  its_now = subst (AllAreOf (structs_in table) (graph_in table typed)) (sym same_asks) typed_goes.step.asks.1

  then_goes : Goes table typed new (One at_n at_m ∷ asks_in old.nodes before) (asks_in new.nodes after)
  then_goes =
      subst (λ asks. Goes table typed new (One at_n at_m ∷ asks) (asks_in new.nodes after)) same_asks
      (goes_turned table made typed new typed_goes.graph (asks_in nodes before) (asks_in new.nodes after) its_now at_n at_m n_now m_now
      (links_nodes table made typed new typed_goes.graph same_names at_m at_n 0 (λ e. differ (sym e)) m_now n_now lies_now before after its_now links))

  pub turns_nodes : Goes table old new (One at_n at_m ∷ asks_in old.nodes before) (asks_in new.nodes after)
  turns_nodes =
      goes_on table made old typed new fine (One at_n at_m ∷ asks_in old.nodes before) (One at_n at_m ∷ asks_in old.nodes before) (asks_in new.nodes after) ((slot, other), its) typed_goes then_goes

-- a node lies in another, or takes its place
pub lays_nodes : (table : Interned) → AreMade (structs_in table) → (old new : memory_graph.Graph) → IsGraph table old → new.names ≡ old.names → (a b : Target) (distance : ℕ) → (a.node ≡ b.node → ⊥)
    → (slot : IsSlot (structs_in table) (graph_in table old) a) (other : IsSlot (structs_in table) (graph_in table old) b) → Lies (structs_in table) slot.node.element other.node.element a.shift b.shift distance
    → (before after : List memory_ask.Ask) → AllAreOf (structs_in table) (graph_in table old) (asks_in old.nodes before) → Lays old.nodes new.nodes a.node b.node distance before after
    → Goes table old new (One a b ∷ asks_in old.nodes before) (asks_in new.nodes after)
lays_nodes table made old new fine same_names a b distance differ slot other lies before after its (Itself links) = links_nodes table made old new fine same_names a b distance differ slot other lies before after its links
lays_nodes table made old new fine same_names a b distance differ slot other lies before after its (Turned nodes element zero whole_element gets links) =
    subst (λ t. Goes table old new (One a (record { node = b.node; shift = t }) ∷ asks_in old.nodes before) (asks_in new.nodes after)) same
    (turns_nodes table made old new fine same_names a.node b.node a.shift differ slot other_first
    (let fits = lies.fits in omega (arith, fits))
    (λ flags edges. subst (λ d. element_kept (structs_in table) slot.node.element (record { element = other.node.element; flags = flags; edges = edges }) d ≡ true) zero (lies.kept flags edges))
    before after its nodes element whole_element gets links)
  where
    same : a.shift ≡ b.shift
    same = let sum = lies.sum in omega (arith, sum, zero)

    other_first : IsSlot (structs_in table) (graph_in table old) (record { node = b.node; shift = a.shift })
    other_first = record { node = other.node; is = other.is; inside = let inside = other.inside in omega (arith, inside, same) }
