-- What is known of the functions of groups before is told of them in the graphs of a program that begin with those of these groups.
use Rattle.std.proofs.Common.{◌≡◌, ℕ, ◌<◌, Bool, true, false, List, [], ◌∷◌, map, length, get_or, Option, Some, None, option_map, Vec, Global, refl, sym, ap, subst, ◌∙◌, arith}
use Rattle.std.specs.Prelude.{slice_get, not, ◌==◌}
use Rattle.std.proofs.lemmas.List.{length-map}
use Rattle.std.proofs.lemmas.Option.{none-some, slice_get-map, slice_get_read, get_or_from_slice_get, slice_get_within}
use Rattle.tac_ir.specs.declared.register.FunctionId.{FunctionId}
use Rattle.tac_ir.specs.States.{InFunction}
use Rattle.tac_ir.specs.Views.{tac_of, function_in}
use Rattle.call_graph.specs.ClassLists.{numbers_of}
use Rattle.call_graph.proofs.RowLists.{some_at}
use Rattle.heap_graph.specs.Graphs.{Target, Node, Name, OfGlobal, OfLiteral, Graph, there, node_at, edge_in}
use Rattle.heap_graph.specs.Targets.{has_target, implies, is_collapsed}
use Rattle.heap_graph.specs.Escaping.{Reaches, here, along, Escapes}
use Rattle.heap_graph.specs.Closed.{Family, GraphClosed, graph_of, group_from, group_of, is_in, is_slot, of_group}
use Rattle.heap_graph.proofs.MapsCompose.{at_there}
use Rattle.heap_graph.specs.Frozen.{bare, optional_node}
use Rattle.heap_graph.specs.declared.program.ProgramGraphs.{ProgramGraphs}
use Rattle.heap_graph.specs.Shows.{ShowsGraph, ShowsNames}
use Rattle.heap_graph.proofs.Showing.{shown_node}
use Rattle.heap_graph.proofs.GroupNumbers.{is_then_in, own_number}
use Rattle.call_graph.specs.GroupViews.{lists_of, groups_of, IsOf}
use Rattle.dsa_inlining.specs.declared.before.Before.{Before}
use Rattle.dsa_inlining.specs.Before.{GraphsBefore, IsReached, graphs_before, is_inside}
use Rattle.dsa_inlining.specs.GroupStatics.Groups.{HaveStatics}
use Rattle.dsa_inlining.specs.Live.{AreLive}
use Rattle.dsa_inlining.specs.Crossings.{owners_in}
use Rattle.dsa_inlining.specs.Counting.{total, group_count, start_count}
use Rattle.dsa_inlining.specs.Tallies.{IsKnown}
use Rattle.dsa_inlining.specs.Sums.{outside_of, graph_at, graph_before, told_in, is_told}
use Rattle.dsa_bottom_up.specs.AssembledGroups.Making.{IsGrouped, family_at, BeginsWith, IsMaking}
use Rattle.dsa_bottom_up.proofs.Growing.{begins_shows}
use Rattle.dsa_bottom_up.proofs.Members.{inside_is}
use Rattle.dsa_bottom_up.specs.Making.{AreKeptBelow}
use Rattle.dsa_bottom_up.specs.Refused.{AreEscaping, IsOutsideOf, GroupCounts, StartCounts}

-- ---- nodes that are there

abbrev IsThere : Graph → ℕ → Type 0
IsThere graph number = (node : Node) × (node_at graph number ≡ Some node)

reached_there : (graph : Graph) → ((number slot : ℕ) (node : Node) (to : Target) → node_at graph number ≡ Some node → edge_in node.edges slot ≡ Some to → IsThere graph to.node) → (from last : ℕ) → Reaches graph from last → IsThere graph from
    → IsThere graph last
reached_there graph ends from last (here number) known = known
reached_there graph ends from last (along number end node slot to is edge rest) known = reached_there graph ends to.node end rest (ends number slot node to is edge)

slot_there : (graph : Graph) (target : Target) → is_slot graph (Some target) ≡ true → IsThere graph target.node
slot_there graph target slot = let found = at_there graph target (λ node shift. implies (is_collapsed node.element) (shift == 0)) slot in (found.node, found.is)

node_within : (graph : Graph) (number : ℕ) (node : Node) → node_at graph number ≡ Some node → number < length graph.nodes
node_within graph number node is = by (slice_get graph.nodes number) refl is
  where
    by : (found : Option (Option Node)) → slice_get graph.nodes number ≡ found → there found ≡ Some node → number < length graph.nodes
    by None e is = absurd (none-some node is)
    by (Some own) e is = slice_get_within graph.nodes number own e

-- ---- functions of groups before

-- the group of a function, in memory and in the graphs of a program
pub record IsGroupOf (before : GraphsBefore) (called : ℕ) : Type 0 where
  pub group : ℕ
  pub of : slice_get before.groups.group_of.items called ≡ Some group
  pub list : List ℕ
  pub is : slice_get (groups_of before.groups) group ≡ Some list
  pub inside : is_in called list ≡ true
  pub told : group_from 0 (groups_of before.groups) called ≡ group

pub group_is : (before : GraphsBefore) → IsGrouped before.tac before.groups → (called : ℕ) → called < length (tac_of before.tac).functions → IsGroupOf before called
group_is before grouped called within =
    let long = grouped.of.each in
    let many : length (tac_of before.tac).functions ≡ length before.tac.functions.items = length-map before.tac.functions.items (function_in before.tac.types) in
    let found = some_at before.groups.group_of.items called (omega (arith, within, long, many)) in
    let place = grouped.of.group called found.0 found.1 in
    let inside = is_then_in called place.0 place.2 in
    record {
      group = found.0;
      of = found.1;
      list = place.0;
      is = place.1;
      inside = inside;
      told = own_number (tac_of before.tac) (groups_of before.groups) grouped.groups found.0 called place.0 place.1 inside;
    }

module _ (before : GraphsBefore) (grouped : IsGrouped before.tac before.groups) (number : ℕ) (making : IsMaking before number) (all : ProgramGraphs) (begins : BeginsWith before number all) where
  abbrev family : Family
  family = family_at before all

  -- one of a group before
  record Known (called : ℕ) : Type 0 where
    of : IsGroupOf before called
    less : of.group < number
    reached : IsReached before called
    shown : ShowsGraph before.tac.types family (InFunction called) reached.graph
    names : ShowsNames family (InFunction called) reached.own.names
    closed : GraphClosed family (graph_of family (InFunction called)) (of_group of.list) (InFunction called)

  known : (called : ℕ) → called < length family.tac.functions → group_of family called < number → Known called
  known called within less =
      let of = group_is before grouped called within in
      let told = of.told in
      let below : of.group < number = omega (arith, less, told) in
      let reached = making.reached called of.group of.of below in
      let shows = begins_shows before number all grouped making begins called reached in
      record {
        of = of;
        less = below;
        reached = reached;
        shown = shows.0;
        names = shows.1;
        closed = (making.closed all begins of.group below).graph called of.list of.is of.inside;
      }

  ends_there : (called : ℕ) (k : Known called) (number slot : ℕ) (node : Node) (to : Target) → node_at (graph_of family (InFunction called)) number ≡ Some node → edge_in node.edges slot ≡ Some to
      → IsThere (graph_of family (InFunction called)) to.node
  ends_there called k number slot node to is edge =
      let at = k.reached.ready.sound.to number slot node to (sym (shown_node before.tac.types family (InFunction called) k.reached.graph k.shown number) ∙ is) edge in
      (at.node, shown_node before.tac.types family (InFunction called) k.reached.graph k.shown to.node ∙ at.is)

  escapes_there : (called : ℕ) (k : Known called) (number : ℕ) → Escapes (graph_of family (InFunction called)) (InFunction called) number → IsThere (graph_of family (InFunction called)) number
  escapes_there called k number escapes =
      let own = graph_of family (InFunction called) in
      let start = slot_there own escapes.target (subst (λ target. is_slot own target ≡ true) escapes.is (k.closed.names escapes.name)) in
      reached_there own (ends_there called k) escapes.target.node number escapes.reaches start

  are_escaping : (called : ℕ) (k : Known called) → AreEscaping family called k.reached.numbers
  are_escaping called k =
      let ready = k.reached.ready in
      let escapes = ready.escapes family k.shown k.names in
      record {
        rises = ready.rises;
        exactly = λ number. (
          (λ contains.
              let its = (escapes number (ready.within number contains)).0 ((ready.listed number).1 contains) in
              let node = escapes_there called k number its in
              (node.0, node.1, its)),
          (λ found.
              let less = node_within (bare before.tac.types k.reached.graph) number found.0 (sym (shown_node before.tac.types family (InFunction called) k.reached.graph k.shown number) ∙ found.1) in
              let many : length (map (optional_node before.tac.types) k.reached.graph.nodes.items) ≡ length k.reached.graph.nodes.items = length-map k.reached.graph.nodes.items (optional_node before.tac.types) in
              (ready.listed number).0 ((escapes number (omega (arith, less, many))).1 found.2)),
        );
      }

  tells_is : (called : ℕ) (k : Known called) (name : Name) → told_in (graph_before before called) name ≡ is_told k.reached.graph name
  tells_is called k name = ap (λ group. told_in (graph_at before.graphs group) name) k.reached.of ∙ ap (λ graph. told_in graph name) k.reached.graph_is

  tells_global : (called : ℕ) (k : Known called) (place : ℕ) → told_in (graph_before before called) (OfGlobal place) ≡ has_target ((graph_of family (InFunction called)).targets (OfGlobal place))
  tells_global called k place = tells_is called k (OfGlobal place) ∙ ap has_target (sym (k.shown.globals place))

  tells_literal : (called : ℕ) (k : Known called) (place : ℕ) → told_in (graph_before before called) (OfLiteral place) ≡ has_target ((graph_of family (InFunction called)).targets (OfLiteral place))
  tells_literal called k place = tells_is called k (OfLiteral place) ∙ ap has_target (sym (k.shown.literals place))

  -- the functions outside a group, or outside none
  pub outside_told : (group : Option ℕ) (own : ℕ → Bool) → ((called : ℕ) → called < length family.tac.functions → is_inside before.groups group called ≡ own called) → IsOutsideOf family own number (outside_of before group)
  outside_told group own inside = record {
    is_out = λ called within. ap not (inside called within);
    escaping = λ called within less.
        let k = known called within less in
        (k.reached.numbers, are_escaping called k, ap length (get_or_from_slice_get before.escaping called k.reached.numbers [] k.reached.numbers_are));
    globals = λ called place within less. let k = known called within less in tells_global called k place;
    literals = λ called place within less. let k = known called within less in tells_literal called k place;
  }

-- ---- counts

owners_are : (members : List FunctionId) → owners_in (map Some members) ≡ map InFunction (numbers_of members)
owners_are [] = refl
owners_are (first ∷ members) = ap (λ owners. InFunction first.0 ∷ owners) (owners_are members)

module _ (before : GraphsBefore) (grouped : IsGrouped before.tac before.groups) where
  -- a group begins with as many nodes as are counted of its members
  pub counts_group : (number : ℕ) (members : List FunctionId) → slice_get (groups_of before.groups) number ≡ Some (numbers_of members) → IsMaking before number → (counts : List ℕ) (own count : ℕ)
      → own ≡ total (λ function. get_or counts function 0) (numbers_of members) → count ≡ group_count (tac_of before.tac) (outside_of before (Some number)) own (owners_in (map Some members))
      → (all : ProgramGraphs) → BeginsWith before number all → GroupCounts (family_at before all) counts number count
  counts_group number members row making counts own count own_is is all begins = record {
    group = numbers_of members;
    is = row;
    outside = outside_of before (Some number);
    told =
        outside_told before grouped number making all begins (Some number) (λ called. is_in called (numbers_of members))
        (λ called within. inside_is before.tac before.groups grouped number (numbers_of members) row called);
    so_many =
        is
        ∙ (ap (λ n. group_count (tac_of before.tac) (outside_of before (Some number)) n (owners_in (map Some members))) own_is
        ∙ ap (group_count (tac_of before.tac) (outside_of before (Some number)) (total (λ function. get_or counts function 0) (numbers_of members))) (owners_are members));
  }

  pub counts_start : IsMaking before (length (groups_of before.groups)) → (own count : ℕ) → count ≡ start_count (tac_of before.tac) (outside_of before None) own → (all : ProgramGraphs)
      → BeginsWith before (length (groups_of before.groups)) all → StartCounts (family_at before all) own count
  counts_start making own count is all begins = record {
    outside = outside_of before None;
    told = outside_told before grouped (length (groups_of before.groups)) making all begins None (λ called. false) (λ called within. refl);
    so_many = is;
  }

-- ---- the same of what was read

-- a group that was read stands at its number
pub row_read : (lists : List (Vec FunctionId Global)) (number : ℕ) (list : Vec FunctionId Global) (members : List FunctionId) → number < length lists → list ≡ get_or lists number list → members ≡ list.items
    → slice_get (lists_of lists) number ≡ Some (numbers_of members)
row_read lists number list members less is same =
    slice_get-map (λ (l : Vec FunctionId Global). numbers_of l.items) lists number
    ∙ (ap (option_map (λ (l : Vec FunctionId Global). numbers_of l.items)) (slice_get_read lists (length lists) number list refl less is) ∙ ap (λ (l : List FunctionId). Some (numbers_of l)) (sym same))

-- what is known of the functions of groups before
pub known_of : (before : Before) (made : GraphsBefore) → graphs_before before ≡ made → IsGrouped made.tac made.groups → (number : ℕ) → IsMaking made number → AreKeptBelow made number → IsKnown before
known_of before made same grouped number making below = record {
  groups = subst (λ (g : GraphsBefore). IsOf g.tac g.groups) (sym same) grouped.of;
  live = subst (λ (g : GraphsBefore). AreLive g.tac g.escaping g.live) (sym same) below.live;
  statics = subst (λ (g : GraphsBefore). HaveStatics g.tac.types g.graphs g.statics) (sym same) below.statics;
  reached = subst (λ (g : GraphsBefore). (called group : ℕ) → slice_get g.groups.group_of.items called ≡ Some group → group < length g.graphs → IsReached g called) (sym same)
      (λ called group of less. let long = making.graphs in making.reached called group of (omega (arith, less, long)));
}

pub group_told : (before shown : GraphsBefore) → shown ≡ before → (number : ℕ) (members : List FunctionId) (owners : List (Option FunctionId)) → owners ≡ map Some members → (own count : ℕ)
    → count ≡ group_count (tac_of shown.tac) (outside_of shown (Some number)) own (owners_in owners) → count ≡ group_count (tac_of before.tac) (outside_of before (Some number)) own (owners_in (map Some members))
group_told before shown same number members owners are own count is =
    is
    ∙ (ap (λ (b : GraphsBefore). group_count (tac_of b.tac) (outside_of b (Some number)) own (owners_in owners)) same
    ∙ ap (λ os. group_count (tac_of before.tac) (outside_of before (Some number)) own (owners_in os)) are)

pub start_told : (before shown : GraphsBefore) → shown ≡ before → (own count : ℕ) → count ≡ start_count (tac_of shown.tac) (outside_of shown None) own → count ≡ start_count (tac_of before.tac) (outside_of before None) own
start_told before shown same own count is = is ∙ ap (λ (b : GraphsBefore). start_count (tac_of b.tac) (outside_of b None) own) same
