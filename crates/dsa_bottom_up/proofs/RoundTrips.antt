-- Maps there and back, between two families of which the groups below a number are closed, leave each node at its place: a node is that of a
-- name, or the image of a node of a group before.
use Rattle.std.proofs.Common.{◌≡◌, ℕ, zero, suc, ◌<◌, ◌≤◌, true, List, length, Option, Some, None, inl, inr, refl, sym, ap, subst, ◌∙◌, arith}
use Rattle.std.specs.Prelude.{slice_get}
use Rattle.std.proofs.lemmas.Bool.{false≢true, true≢false, eq-eqb}
use Rattle.std.proofs.lemmas.Option.{none-some, same_Some}
use Rattle.tac_ir.specs.Code.{Tac}
use Rattle.tac_ir.specs.States.{Owner, InStart, InFunction}
use Rattle.tac_ir.specs.Groups.{AreGroups, Makes, by_call}
use Rattle.heap_graph.specs.Graphs.{Target, Node, Name, Graph, Crossing, ProgramGraphs, node_at}
use Rattle.heap_graph.specs.Targets.{shifted}
use Rattle.heap_graph.specs.Escaping.{Reaches, here, along, Escapes}
use Rattle.heap_graph.specs.Closed.{Family, graph_of, group_of, group_from, or_no_graph, is_in, of_group, FunctionClosed, IsEmbedding, IsCrossing, IsNeeded, named, embedded, GraphClosed}
use Rattle.heap_graph.proofs.MapsCompose.{target_in, mapped_there, shifted_there}
use Rattle.heap_graph.proofs.GroupNumbers.{own_number, in_own_at}
use Rattle.heap_graph.specs.Completed.{HasNodes}
use Rattle.heap_graph.proofs.CompletedGraph.{closed_has_nodes}
use Rattle.heap_graph.specs.Faults.{GroupClosed}
use Rattle.dsa_bottom_up.specs.Mapping.{GroupMaps, MapsBelow}
use Rattle.dsa_bottom_up.proofs.Reaching.{IsThere, EndsThere, node_image}
use Rattle.dsa_bottom_up.proofs.SoundGraphs.{ends_there, name_there}
use Rattle.dsa_bottom_up.proofs.Callees.{callee_less}

-- ---- one graph

-- nodes to which others lead are there
reached_there : (graph : Graph) → EndsThere graph → (from last : ℕ) → Reaches graph from last → IsThere graph from → IsThere graph last
reached_there graph ends from last (here number) known = known
reached_there graph ends from last (along number end node slot to is edge rest) known = reached_there graph ends to.node end rest (ends number slot node to is edge)

pub escapes_there : (graph : Graph) → HasNodes graph → (owner : Owner) (number : ℕ) → Escapes graph owner number → IsThere graph number
escapes_there graph sound owner number escapes =
    reached_there graph (ends_there graph sound) escapes.target.node number escapes.reaches (name_there graph sound escapes.name escapes.target escapes.is)

-- what is so many slots behind a target is a slot of the same node
shifted_some : (graph : Graph) (slots : ℕ) (found : Option Target) (at : Target) → shifted graph slots found ≡ Some at → (target : Target) × (found ≡ Some target) × (target.node ≡ at.node)
shifted_some graph slots None at is = absurd (none-some at is)
shifted_some graph slots (Some target) at is = by (node_at graph target.node) refl
  where
    gone : node_at graph target.node ≡ None → shifted graph slots (Some target) ≡ None
    gone e = rw e refl

    by : (node : Option Node) → node_at graph target.node ≡ node → (own : Target) × (Some target ≡ Some own) × (own.node ≡ at.node)
    by None e = absurd (none-some at (sym (gone e) ∙ is))
    by (Some node) e = (target, refl, ap (λ (t : Target). t.node) (same_Some _ at (sym (shifted_there graph slots target node e) ∙ is)))

-- ---- families

abbrev pub family_with : Tac → List (List ℕ) → ProgramGraphs → Family
family_with tac groups graphs = record { tac = tac; groups = groups; graphs = graphs }

-- a function's group, and that its graph is closed
pub record Grouped (family : Family) (function : ℕ) : Type 0 where
  pub group : List ℕ
  pub row : slice_get family.groups (group_of family function) ≡ Some group
  pub inside : is_in function group ≡ true
  pub closed : GraphClosed family (graph_of family (InFunction function)) (of_group group) (InFunction function)
  pub sound : HasNodes (graph_of family (InFunction function))

pub grouped : (family : Family) (number : ℕ) → number ≤ length family.groups → ((at : ℕ) → at < number → GroupClosed family at) → (function : ℕ) → group_of family function < number → Grouped family function
grouped family number reach groups function below =
    let home = in_own_at function family.groups (group_of family function) refl (omega (arith, below, reach)) in
    let closed = (groups (group_of family function) below).graph function home.0 home.1 home.2 in
    record { group = home.0; row = home.1; inside = home.2; closed = closed; sound = closed_has_nodes family (graph_of family (InFunction function)) (of_group home.0) (InFunction function) closed }

module _ (tac : Tac) (groups : List (List ℕ)) (are : AreGroups tac groups) (first second : ProgramGraphs) (number : ℕ) (reach : number ≤ length groups)
    (closed : (at : ℕ) → at < number → GroupClosed (family_with tac groups first) at) (there back : GroupMaps) (to : MapsBelow (family_with tac groups first) (family_with tac groups second) number there)
    (from : MapsBelow (family_with tac groups second) (family_with tac groups first) number back) where
  abbrev one : Family
  one = family_with tac groups first

  abbrev two : Family
  two = family_with tac groups second

  abbrev own : ℕ → ℕ
  own function = group_from 0 groups function

  -- there and back
  abbrev trip : ℕ → ℕ → ℕ
  trip group node = (back group (there group node).node).node

  module _ (function : ℕ) (below : own function < number) where
    abbrev old : Graph
    old = graph_of one (InFunction function)

    abbrev new : Graph
    new = graph_of two (InFunction function)

    -- where a node goes, and where it comes back to
    record Trip (node : ℕ) : Type 0 where
      middle : Node
      middle_is : node_at new (there (own function) node).node ≡ Some middle
      last : Node
      last_is : node_at old (trip (own function) node) ≡ Some last

    trip_of : (node : ℕ) (its : Node) → node_at old node ≡ Some its → Trip node
    trip_of node its is =
        let image = node_image tac.structs old new (there (own function)) (to function below).shape node its is in
        let last = node_image tac.structs new old (back (own function)) (from function below).shape (there (own function) node).node image.node image.is in
        record { middle = image.node; middle_is = image.is; last = last.node; last_is = last.is }

    named_back : (name : Name) (target : Target) (its : Node) → old.targets name ≡ Some target → node_at old target.node ≡ Some its → trip (own function) target.node ≡ target.node
    named_back name target its is known =
        let t = trip_of target.node its known in
        let image : Target = target_in (there (own function)) target t.middle in
        let first_names : new.targets name ≡ Some image = (to function below).shape.names name target is ∙ mapped_there new (there (own function)) target t.middle t.middle_is in
        let then : old.targets name ≡ Some (target_in (back (own function)) image t.last) = (from function below).shape.names name image first_names ∙ mapped_there old (back (own function)) image t.last t.last_is in
        ap (λ (x : Target). x.node) (same_Some _ target (sym then ∙ is))

    -- a call out of the group, to a function whose nodes come back
    embedded_back : (site called node : ℕ) (target : Target) (its : Node) → one.graphs.embedding (record { owner = InFunction function; site = site; called = called }) node ≡ Some target → node_at old target.node ≡ Some its
        → trip (own called) node ≡ node → trip (own function) target.node ≡ target.node
    embedded_back site called node target its is known same =
        let at : Crossing = record { owner = InFunction function; site = site; called = called } in
        let t = trip_of target.node its known in
        let image : Target = target_in (there (own function)) target t.middle in
        let kept : shifted new (there (own called) node).shift (second.embedding at (there (own called) node).node) ≡ Some image =
        ((to function below).embeddings site called node target is).1 ∙ mapped_there new (there (own function)) target t.middle t.middle_is in
        let u = shifted_some new (there (own called) node).shift (second.embedding at (there (own called) node).node) image kept in
        let place : node_at old (back (own function) u.0.node).node ≡ Some t.last = ap (λ n. node_at old (back (own function) n).node) u.2 ∙ t.last_is in
        let returned : Target = target_in (back (own function)) u.0 t.last in
        let comes : shifted old (back (own called) (there (own called) node).node).shift (first.embedding at (trip (own called) node)) ≡ Some returned =
        ((from function below).embeddings site called (there (own called) node).node u.0 u.1).1 ∙ mapped_there old (back (own function)) u.0 t.last place in
        let v = shifted_some old (back (own called) (there (own called) node).node).shift (first.embedding at (trip (own called) node)) returned comes in
        let last : target ≡ v.0 = same_Some target v.0 (sym is ∙ (ap (first.embedding at) (sym same) ∙ v.1)) in
        sym (ap (λ (x : Target). x.node) last ∙ (v.2 ∙ ap (λ n. (back (own function) n).node) u.2))

  -- a node with an image is there
  image_there : (function : ℕ) → own function < number → (site called node : ℕ) (target : Target) → IsEmbedding one (InFunction function) site called → HasNodes (graph_of one (InFunction called))
      → one.graphs.embedding (record { owner = InFunction function; site = site; called = called }) node ≡ Some target → IsThere (graph_of one (InFunction called)) node
  image_there function below site called node target embeds sound is = by (node_at (graph_of one (InFunction called)) node) refl
    where
      by : (found : Option Node) → node_at (graph_of one (InFunction called)) node ≡ found → IsThere (graph_of one (InFunction called)) node
      by (Some its) e = (its, e)
      by None e =
          absurd (none-some target (sym (embeds.others node (λ escapes.
          let known = escapes_there (graph_of one (InFunction called)) sound (InFunction called) node escapes in
          none-some known.0 (sym e ∙ known.1))) ∙ is))

  -- nodes of groups below come back
  abbrev Trips : ℕ → Type 0
  Trips bound = (function : ℕ) → own function < bound → own function < number → (node : ℕ) (its : Node) → node_at (graph_of one (InFunction function)) node ≡ Some its → trip (own function) node ≡ node

  trips : (bound : ℕ) → Trips bound
  trips zero function less below node its is = absurd (omega (arith, less))
  trips (suc bound) function less below node its is = by (trips bound) (home.closed.needed node its is)
    where
      home : Grouped one function
      home = grouped one number reach closed function below

      crossed : Trips bound → (owner : Owner) (site called last : ℕ) (target : Target) → of_group home.group owner ≡ true → IsCrossing one (record { owner = owner; site = site; called = called })
          → first.embedding (record { owner = owner; site = site; called = called }) last ≡ Some target → node_at (graph_of one (InFunction function)) target.node ≡ Some its → trip (own function) target.node ≡ target.node
      crossed before InStart site called last target inside crossing image known = absurd (false≢true inside)
      crossed before (InFunction caller) site called last target inside crossing image known =
          let same : own caller ≡ own function = own_number tac groups are (own function) caller home.group home.row inside in
          let caller_below : own caller < number = omega (arith, same, below) in
          let its_closed : FunctionClosed one (InFunction caller) crossing.function = (closed (own function) below).functions caller crossing.function crossing.is same in
          let embeds = its_closed.embeddings site crossing.callee crossing.arguments crossing.point called crossing.call crossing.target crossing.outer in
          let makes : Makes tac caller crossing.callee = record { function = crossing.function; is = crossing.is; at = crossing.point; site = site; arguments = crossing.arguments; point = crossing.call } in
          let called_less : own called < own function = elim (callee_less tac groups are (own function) caller called home.group home.row inside (by_call crossing.callee makes crossing.target)) [
            | inl inner ↦ absurd (true≢false (sym (eq-eqb (own caller) (own called) (same ∙ sym (own_number tac groups are (own function) called home.group home.row inner))) ∙ crossing.outer))
            | inr earlier ↦ earlier
          ] in
          let callee = grouped one number reach closed called (omega (arith, called_less, below)) in
          let node_known = image_there caller caller_below site called last target embeds callee.sound image in
          let returns = before called (omega (arith, called_less, less)) (omega (arith, called_less, below)) last node_known.0 node_known.1 in
          subst (λ n. trip n target.node ≡ target.node) same
          (embedded_back caller caller_below site called last target its image (subst (λ n. node_at (or_no_graph (slice_get first.graphs n)) target.node ≡ Some its) (sym same) known) returns)

      by : Trips bound → IsNeeded one (graph_of one (InFunction function)) (of_group home.group) node → trip (own function) node ≡ node
      by before (named name target told same) = subst (λ n. trip (own function) n ≡ n) same (named_back function below name target its told (ap (node_at (graph_of one (InFunction function))) same ∙ is))
      by before (embedded at last target inside crossing image same) =
          subst (λ n. trip (own function) n ≡ n) same
          (crossed before at.owner at.site at.called last target inside crossing image (ap (node_at (graph_of one (InFunction function))) same ∙ is))

  -- each node of a group below comes back
  pub comes_back : (function : ℕ) → own function < number → (node : ℕ) (its : Node) → node_at (graph_of (family_with tac groups first) (InFunction function)) node ≡ Some its → trip (own function) node ≡ node
  comes_back function below node its is = trips (suc (own function)) function (omega arith) below node its is
