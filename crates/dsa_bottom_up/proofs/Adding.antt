-- With each group that gets its graph one group more is mapped to each other closed family.
use Rattle.std.proofs.Common.{◌≡◌, ℕ, suc, ◌<◌, ◌==◌, ◌⊎◌, inl, inr, Bool, true, false, cond, List, [], ◌∷◌, map, Option, Some, refl, sym, ap, subst, ◌∙◌, arith, eq-eqb}
use Rattle.std.specs.Prelude.{slice_get, option_map}
use Rattle.std.proofs.lemmas.Option.{same_Some, slice_get-map, slice_get_within}
use Rattle.std.proofs.lemmas.Bool.{false≢true, cond-true, cond-false, cases_eq, ne_eqb}
use Rattle.tac_ir.specs.declared.register.FunctionId.{FunctionId}
use Rattle.tac_ir.specs.Code.{Function}
use Rattle.tac_ir.specs.States.{Owner, InStart, InFunction, function_of}
use Rattle.tac_ir.specs.Views.{tac_of}
use Rattle.call_graph.specs.ClassLists.{numbers_of}
use Rattle.heap_graph.specs.Graphs.{Graph, ProgramGraphs}
use Rattle.heap_graph.specs.Merging.{GraphMap, Maps}
use Rattle.heap_graph.specs.Steps.{unmoved}
use Rattle.heap_graph.specs.Least.{embedded}
use Rattle.heap_graph.specs.Closed.{Family, graph_of, group_of, group_from, is_in, of_group, or_no_graph, same_group, crossing, FunctionClosed, GraphClosed}
use Rattle.graph_unification.specs.Memory.{owner_of}
use Rattle.heap_graph.specs.declared.frozen.FrozenGraph.{FrozenGraph}
use Rattle.heap_graph.specs.declared.program.FunctionGraph.{FunctionGraph}
use Rattle.heap_graph.specs.declared.program.ProgramGraphs as memory_graphs
use Rattle.heap_graph.proofs.GroupNumbers.{is_then_in, own_number, in_own_at}
use Rattle.heap_graph.specs.Faults.{GroupClosed}
use Rattle.heap_graph.specs.Completed.{completed}
use Rattle.heap_graph.proofs.CompletedGraph.{closed_has_nodes}
use Rattle.call_graph.specs.GroupViews.{groups_of}
use Rattle.heap_graph.specs.Complete.{numbers}
use Rattle.dsa_local.specs.Mentioned.{is_among}
use Rattle.dsa_local.specs.Told.{NoCopies}
use Rattle.dsa_local.proofs.GroupBegins.Completing.{closed_fits}
use Rattle.dsa_inlining.proofs.ShownKept.{owners_are}
use Rattle.dsa_local.specs.Local.{LeadsJoined}
use Rattle.dsa_inlining.specs.declared.told_statics.GroupStatics.{GroupStatics}
use Rattle.dsa_inlining.specs.declared.live.LiveTargets.{LiveTargets}
use Rattle.dsa_inlining.specs.Before.{GraphsBefore, is_inside, is_out}
use Rattle.dsa_inlining.specs.Crossings.{owners_in}
use Rattle.dsa_bottom_up.specs.Assembled.{kept_graph, IsAssembled}
use Rattle.dsa_bottom_up.specs.AssembledGroups.Making.{IsGrouped, family_at, BeginsWith, IsMaking, AddsGroup}
use Rattle.dsa_bottom_up.specs.Shown.{function_in, ShowsOwners}
use Rattle.dsa_bottom_up.proofs.Placed.{among_is}
use Rattle.dsa_bottom_up.proofs.Members.{listed_inside, inside_is, inside_within, inside_same, out_apart}
use Rattle.dsa_bottom_up.proofs.Growing.{begins_before, begins_graph, begins_own}
use Rattle.dsa_bottom_up.proofs.Closing.{HasGroup, member_at, owner_shown}
use Rattle.dsa_bottom_up.proofs.Whole.{member_owner}
use Rattle.dsa_bottom_up.specs.Mapping.{GroupMaps, EmbeddingsKept, MapsOwner, MapsBelow, KeepsCertain, FlagsBelow}
use Rattle.dsa_bottom_up.specs.LeastGraphs.Making.{other_at, AreLeast}
use Rattle.dsa_bottom_up.specs.Below.{ClosedBelow}
use Rattle.dsa_bottom_up.proofs.Below.{closed_less}
use Rattle.dsa_bottom_up.proofs.InnerCalls.{classes_below, calls_below}
use Rattle.dsa_bottom_up.proofs.FullFlags.{full_keeps}
use Rattle.dsa_bottom_up.proofs.OneGroup.{group_kept, group_mapped}

-- ---- maps of groups

abbrev pub with_map : ℕ → GraphMap → GroupMaps → GroupMaps
with_map number map maps group = cond (group == number) map (maps group)

with_here : (number : ℕ) (map : GraphMap) (maps : GroupMaps) (group : ℕ) → group ≡ number → with_map number map maps group ≡ map
with_here number map maps group same = cond-true (group == number) map (maps group) (eq-eqb group number same)

with_other : (number : ℕ) (map : GraphMap) (maps : GroupMaps) (group : ℕ) → (group ≡ number → ⊥) → with_map number map maps group ≡ maps group
with_other number map maps group differs = cond-false (group == number) map (maps group) (ne_eqb group number differs)

-- maps of the groups below are those of the groups below one more
embeddings_more : (family other : Family) (number : ℕ) (map : GraphMap) (maps : GroupMaps) (owner : Owner) (own : GraphMap) → EmbeddingsKept family other number maps owner own
    → EmbeddingsKept family other (suc number) (with_map number map maps) owner own
embeddings_more family other number map maps owner own kept site called node target held =
    let its = kept site called node target held in
    let less = its.0 in (
      omega (arith, less),
      ap (λ (m : GraphMap). embedded other (crossing other owner site called) (Some (m node))) (with_other number map maps (group_of family called) (λ same. omega (arith, less, same))) ∙ its.1,
    )

below_more : (family other : Family) (number : ℕ) (map : GraphMap) (maps : GroupMaps) → MapsBelow family other number maps
    → ((function : ℕ) → group_of family function ≡ number → MapsOwner family other number maps (InFunction function) map) → MapsBelow family other (suc number) (with_map number map maps)
below_more family other number map maps below here function less = by (cases_eq (group_of family function) number)
  where
    more : (own : GraphMap) → MapsOwner family other number maps (InFunction function) own → MapsOwner family other (suc number) (with_map number map maps) (InFunction function) own
    more own its = record { shape = its.shape; embeddings = embeddings_more family other number map maps (InFunction function) own its.embeddings }

    by : (group_of family function ≡ number) ⊎ (group_of family function ≡ number → ⊥) → MapsOwner family other (suc number) (with_map number map maps) (InFunction function) (with_map number map maps (group_of family function))
    by (inl same) = subst (MapsOwner family other (suc number) (with_map number map maps) (InFunction function)) (sym (with_here number map maps (group_of family function) same)) (more map (here function same))
    by (inr differs) =
        subst (MapsOwner family other (suc number) (with_map number map maps) (InFunction function)) (sym (with_other number map maps (group_of family function) differs))
        (more (maps (group_of family function)) (below function (omega (arith, less, differs))))

-- ---- a group

module _ (before : GraphsBefore) (start : (tac_of before.tac).start.parameters ≡ 0) (grouped : IsGrouped before.tac before.groups) (number : ℕ) (making : IsMaking before number) (first : FunctionId) (others : List FunctionId)
    (row : slice_get (groups_of before.groups) number ≡ Some (numbers_of (first ∷ others))) (begun : Graph) (graph : FrozenGraph) (functions : List FunctionGraph)
    (assembled : IsAssembled before (Some number) (map Some (first ∷ others)) begun graph functions)
    (leads : LeadsJoined (tac_of before.tac) (owners_in (map Some (first ∷ others))) (is_inside before.groups (Some number)) begun) (none : NoCopies begun) (all : memory_graphs.ProgramGraphs)
    (begins : BeginsWith before number all) (has : HasGroup before number (first ∷ others) graph functions all) (graphs : ProgramGraphs) (closed : ClosedBelow (other_at before graphs) (suc number))
    (maps : GroupMaps) (below : MapsBelow (family_at before all) (other_at before graphs) number maps) (flags : FlagsBelow (family_at before all) (other_at before graphs) number maps) where
  abbrev members : List FunctionId
  members = first ∷ others

  abbrev owners : List (Option FunctionId)
  owners = map Some members

  abbrev family : Family
  family = family_at before all

  abbrev other : Family
  other = other_at before graphs

  abbrev one : Owner
  one = InFunction first.0

  abbrev inside : ℕ → Bool
  inside = is_inside before.groups (Some number)

  pub first_in : is_in first.0 (numbers members) ≡ true
  first_in = is_then_in first.0 (numbers members) (inl refl)

  -- an owner is a function of the group
  in_group : (function : ℕ) → is_among (InFunction function) (owners_in owners) ≡ true → is_in function (numbers members) ≡ true
  in_group function among = sym (among_is owners (InFunction function) ∙ owners_are members (InFunction function)) ∙ among

  pub of_number : (function : ℕ) → is_in function (numbers members) ≡ true → group_from 0 (groups_of before.groups) function ≡ number
  of_number function is = own_number (tac_of before.tac) (groups_of before.groups) grouped.groups number function (numbers members) row is

  one_graph : (function : ℕ) → is_in function (numbers members) ≡ true → graph_of other (InFunction function) ≡ graph_of other one
  one_graph function is = ap (λ n. or_no_graph (slice_get graphs.graphs n)) (of_number function is ∙ sym (of_number first.0 first_in))

  inside_of : (function : ℕ) → is_in function (numbers members) ≡ true → inside function ≡ true
  inside_of function is = listed_inside before.tac before.groups grouped number function (numbers members) row is

  in_of : (function : ℕ) → inside function ≡ true → is_in function (numbers members) ≡ true
  in_of function is = sym (inside_is before.tac before.groups grouped number (numbers members) row function) ∙ is

  pub same : (owner : Owner) → is_among owner (owners_in owners) ≡ true → graph_of other owner ≡ graph_of other one
  same InStart among = absurd (false≢true (sym (among_is owners InStart ∙ owners_are members InStart) ∙ among))
  same (InFunction function) among = one_graph function (in_group function among)

  pub apart : (owner : Owner) → is_among owner (owners_in owners) ≡ true → (called : ℕ) → is_out before.groups (Some number) called ≡ true → same_group other owner called ≡ false
  apart InStart among called out = refl
  apart (InFunction function) among called out = out_apart before all grouped number function called (inside_of function (in_group function among)) out

  group : GroupClosed other number
  group = closed.groups number (omega arith)

  pub its_closed : GraphClosed other (graph_of other one) (of_group (numbers members)) one
  its_closed = group.graph first.0 (numbers members) row first_in

  own_closed : (owner : Owner) (function : Function) → is_among owner (owners_in owners) ≡ true → function_of other.tac owner ≡ Some function → FunctionClosed other owner function
  own_closed InStart function among is = absurd (false≢true (sym (among_is owners InStart ∙ owners_are members InStart) ∙ among))
  own_closed (InFunction own) function among is = group.functions own function is (of_number own (in_group own among))

  below_next : (function : ℕ) → inside function ≡ true → group_of other function < suc number
  below_next function is = let same = of_number function (in_of function is) in omega (arith, same)

  begin : (some : ℕ) → (map : GraphMap) × Maps (tac_of before.tac).structs begun (completed some (graph_of other one)) map
  begin some =
      leads (completed some (graph_of other one))
      (closed_fits other (owners_in owners) one (of_group (numbers members)) some start its_closed
      (λ owner function among is. record { closed = own_closed owner function among is; graph = same owner among }))
      (classes_below some other (suc number) closed inside (graph_of other one) (λ function is. one_graph function (in_of function is)) below_next)
      (calls_below some other inside (λ caller function inside is. group.functions caller function is (of_number caller (in_of caller inside))) (graph_of other one) (closed_has_nodes other (graph_of other one) (of_group (numbers members)) one its_closed) (λ function is. one_graph function (in_of function is))
      (λ function is. inside_within before.tac before.groups grouped number function is) (λ a b is also. inside_same before all grouped number a b is also))

  pub shows : ShowsOwners all owners functions
  shows place owner at =
      let its = member_owner members place owner at in
      subst (λ o. function_in all (owner_of o) ≡ slice_get functions place) (sym its.2) (has.own place its.0 its.1)

  pub kept_shown : (owner : Owner) → is_among owner (owners_in owners) ≡ true → graph_of family owner ≡ kept_graph before owners graph functions
  kept_shown = owner_shown before number members graph functions all grouped has

  -- what was told of its objects once types were final is told there
  pub group_told : (new : GraphMap) × ((place : ℕ) (owner : Option FunctionId) → slice_get (map Some (first ∷ others)) place ≡ Some owner → MapsOwner (family_at before all) (other_at before graphs) number maps (owner_of owner) new)
      × KeepsCertain assembled.typed (graph_of (other_at before graphs) (InFunction first.0)) new
  group_told = group_kept before grouped number making all begins graphs maps below (Some number) owners begun graph functions assembled one same apart own_closed (of_group (numbers members)) its_closed flags none begin shows kept_shown

  pub group_added : (new : GroupMaps) × MapsBelow (family_at before all) (other_at before graphs) (suc number) new
  group_added =
      let its = group_mapped before grouped number making all begins graphs maps below (Some number) owners begun graph functions assembled one same apart own_closed (of_group (numbers members)) its_closed flags none begin shows kept_shown in (
        with_map number its.0 maps,
        below_more family other number its.0 maps below (λ function is. by its.0 its.1 function (member_at members function (listed function is))),
      )
    where
      -- a function of the group stands in its list
      listed : (function : ℕ) → group_of family function ≡ number → is_in function (numbers members) ≡ true
      listed function is =
          let home = in_own_at function (groups_of before.groups) number is (slice_get_within (groups_of before.groups) number (numbers members) row) in
          ap (is_in function) (same_Some (numbers members) home.0 (sym row ∙ home.1)) ∙ home.2

      by : (map : GraphMap) → ((place : ℕ) (owner : Option FunctionId) → slice_get owners place ≡ Some owner → MapsOwner family other number maps (owner_of owner) map) → (function : ℕ)
          → (place : ℕ) × (member : FunctionId) × (slice_get members place ≡ Some member) × (member.0 ≡ function) → MapsOwner family other number maps (InFunction function) map
      by map each function found =
          subst (λ n. MapsOwner family other number maps (InFunction n) map) found.3 (each found.0 (Some found.1) (slice_get-map Some members found.0 ∙ ap (option_map Some) found.2))

-- a group without functions adds nothing
none_added : (before : GraphsBefore) (number : ℕ) (all : memory_graphs.ProgramGraphs) (graphs : ProgramGraphs) (maps : GroupMaps) → slice_get (groups_of before.groups) number ≡ Some []
    → MapsBelow (family_at before all) (other_at before graphs) number maps → MapsBelow (family_at before all) (other_at before graphs) (suc number) (with_map number unmoved maps)
none_added before number all graphs maps row below =
    below_more (family_at before all) (other_at before graphs) number unmoved maps below
    (λ function is.
    let home = in_own_at function (groups_of before.groups) number is (slice_get_within (groups_of before.groups) number [] row) in
    absurd (false≢true (ap (is_in function) (same_Some [] home.0 (sym row ∙ home.1)) ∙ home.2)))

-- ---- group after group

-- what is known of the graph with which a group was begun
pub record IsBegun (before : GraphsBefore) (group : Option ℕ) (owners : List (Option FunctionId)) (begun : Graph) : Type 0 where
  pub leads : LeadsJoined (tac_of before.tac) (owners_in owners) (is_inside before.groups group) begun
  pub copies : NoCopies begun

abbrev with_lists : GraphsBefore → List FrozenGraph → List FunctionGraph → List (List ℕ) → LiveTargets → List GroupStatics → GraphsBefore
with_lists before graphs functions escaping live statics = record { tac = before.tac; groups = before.groups; graphs = graphs; functions = functions; escaping = escaping; live = live; statics = statics }

module _ (before : GraphsBefore) (start : (tac_of before.tac).start.parameters ≡ 0) (grouped : IsGrouped before.tac before.groups) (number : ℕ) (making : IsMaking before number) (begun : Graph) (graph : FrozenGraph)
    (functions : List FunctionGraph) where
  grows : (members : List FunctionId) → slice_get (groups_of before.groups) number ≡ Some (numbers_of members) → IsAssembled before (Some number) (map Some members) begun graph functions
      → IsBegun before (Some number) (map Some members) begun → AreLeast before number → (graphs : List FrozenGraph) (known : List FunctionGraph) (escaping : List (List ℕ)) (live : LiveTargets) (statics : List GroupStatics)
      → AddsGroup before (with_lists before graphs known escaping live statics) members graph functions → AreLeast (with_lists before graphs known escaping live statics) (suc number)
  grows members row assembled begins_so least graphs known escaping live statics adds all begins others closed full =
      let after = with_lists before graphs known escaping live statics in
      let earlier = begins_before before after number members graph functions grouped row making.graphs adds all begins in
      let maps = least all earlier others (closed_less (other_at before others) (suc number) number (omega arith) closed) full in
      by members row assembled begins_so (record {
        group = row;
        stored = begins_graph before after number members graph functions grouped row making.graphs adds all begins;
        own = begins_own before after number members graph functions grouped row making.graphs adds all begins;
        each = earlier.functions;
      }) earlier maps.0 maps.1
    where
      by : (members : List FunctionId) → slice_get (groups_of before.groups) number ≡ Some (numbers_of members) → IsAssembled before (Some number) (map Some members) begun graph functions
          → IsBegun before (Some number) (map Some members) begun → HasGroup before number members graph functions all → BeginsWith before number all → (maps : GroupMaps)
          → MapsBelow (family_at before all) (other_at before others) number maps → (new : GroupMaps) × MapsBelow (family_at before all) (other_at before others) (suc number) new
      by [] row assembled begins_so has earlier maps below = (with_map number unmoved maps, none_added before number all others maps row below)
      by (first ∷ rest) row assembled begins_so has earlier maps below =
          group_added before start grouped number making first rest row begun graph functions assembled begins_so.leads begins_so.copies all earlier has others closed maps below
          (full_keeps (family_at before all) (other_at before others) number maps full below)

  pub least_grows : (members : List FunctionId) → slice_get (groups_of before.groups) number ≡ Some (numbers_of members) → IsAssembled before (Some number) (map Some members) begun graph functions
      → IsBegun before (Some number) (map Some members) begun → (after : GraphsBefore) → AddsGroup before after members graph functions → AreLeast before number → AreLeast after (suc number)
  least_grows members row assembled begins_so after adds least =
      subst (λ made. AreLeast made (suc number)) (sym same)
      (grows members row assembled begins_so least after.graphs after.functions after.escaping after.live after.statics (subst (λ made. AddsGroup before made members graph functions) same adds))
    where
      same : after ≡ with_lists before after.graphs after.functions after.escaping after.live after.statics
      same = λ i. record { tac = adds.tac i; groups = adds.groups i; graphs = after.graphs; functions = after.functions; escaping = after.escaping; live = after.live; statics = after.statics }

-- no group has its graph yet
pub least_begins : (before : GraphsBefore) → AreLeast before 0
least_begins before all begins graphs closed full = ((λ group. unmoved), λ function less. absurd (omega (arith, less)))
