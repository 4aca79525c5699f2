-- No flag can be taken away from the graph of a group that was assembled.
use Rattle.std.proofs.Common.{◌≡◌, ℕ, suc, ◌<◌, ◌≤◌, true, List, ◌∷◌, length, map, Option, Some, refl, sym, ap, subst, ◌∙◌, arith}
use Rattle.std.specs.Prelude.{slice_get}
use Rattle.std.proofs.lemmas.Option.{slice_get_within}
use Rattle.tac_ir.specs.declared.register.FunctionId.{FunctionId}
use Rattle.tac_ir.specs.States.{Owner, InFunction}
use Rattle.tac_ir.specs.Views.{tac_of}
use Rattle.call_graph.specs.ClassLists.{numbers_of}
use Rattle.heap_graph.specs.Graphs.{Flags, Node, Graph, ProgramGraphs, node_at}
use Rattle.heap_graph.specs.Steps.{unmoved}
use Rattle.heap_graph.specs.Closed.{Family, graph_of, group_of, of_group, or_no_graph, IsNeeded, GraphClosed, Closed}
use Rattle.heap_graph.specs.Least.{AreFewer, with_flags, changed, graph_at}
use Rattle.heap_graph.specs.declared.frozen.FrozenGraph.{FrozenGraph}
use Rattle.heap_graph.specs.declared.program.FunctionGraph.{FunctionGraph}
use Rattle.heap_graph.specs.declared.program.ProgramGraphs as memory_graphs
use Rattle.call_graph.specs.GroupViews.{groups_of}
use Rattle.heap_graph.specs.Complete.{numbers}
use Rattle.dsa_local.specs.Mentioned.{is_among}
use Rattle.dsa_local.specs.Told.{NoCopies}
use Rattle.dsa_inlining.specs.Owners.{is_owner}
use Rattle.dsa_inlining.proofs.ShownKept.{owners_are}
use Rattle.dsa_local.specs.Local.{LeadsJoined}
use Rattle.dsa_inlining.specs.Before.{GraphsBefore, is_inside}
use Rattle.dsa_inlining.specs.Crossings.{owners_in}
use Rattle.dsa_bottom_up.specs.Assembled.{kept_graph, IsAssembled}
use Rattle.dsa_bottom_up.specs.AssembledGroups.Making.{IsGrouped, family_at, BeginsWith, IsMaking}
use Rattle.dsa_bottom_up.proofs.Closing.{HasGroup}
use Rattle.dsa_bottom_up.proofs.Placed.{among_there}
use Rattle.dsa_bottom_up.specs.Mapping.{GroupMaps, MapsBelow, FlagsBelow}
use Rattle.dsa_bottom_up.specs.LeastGraphs.Making.{other_at, AreLeast}
use Rattle.dsa_bottom_up.proofs.Below.{closed_below}
use Rattle.dsa_bottom_up.proofs.Adding as adding
use Rattle.dsa_bottom_up.specs.Bare.{IsBareAt}
use Rattle.dsa_bottom_up.proofs.ChangedFlags.{function_here, function_other}
use Rattle.dsa_bottom_up.proofs.SameMaps.{maps_same, flags_below}
use Rattle.dsa_bottom_up.proofs.BelowSame.{calls_below, sound_below}
use Rattle.dsa_bottom_up.proofs.OneBare.{none_fewer}

module _ (before : GraphsBefore) (start : (tac_of before.tac).start.parameters ≡ 0) (grouped : IsGrouped before.tac before.groups) (number : ℕ) (making : IsMaking before number) (first : FunctionId) (others : List FunctionId)
    (row : slice_get (groups_of before.groups) number ≡ Some (numbers_of (first ∷ others))) (begun : Graph) (graph : FrozenGraph) (functions : List FunctionGraph)
    (assembled : IsAssembled before (Some number) (map Some (first ∷ others)) begun graph functions)
    (leads : LeadsJoined (tac_of before.tac) (owners_in (map Some (first ∷ others))) (is_inside before.groups (Some number)) begun) (none : NoCopies begun) (all : memory_graphs.ProgramGraphs)
    (begins : BeginsWith before number all) (has : HasGroup before number (first ∷ others) graph functions all) (least : AreLeast before number)
    (shut : GraphClosed (family_at before all) (graph_of (family_at before all) (InFunction first.0)) (of_group (numbers (first ∷ others))) (InFunction first.0)) where
  abbrev members : List FunctionId
  members = first ∷ others

  abbrev owners : List (Option FunctionId)
  owners = map Some members

  abbrev one : Owner
  one = InFunction first.0

  abbrev family : Family
  family = family_at before all

  abbrev kept : Graph
  kept = kept_graph before owners graph functions

  module _ (place : ℕ) (its : Graph) (node : Node) (few : Flags) (its_is : graph_at (family_at before all) (Some number) ≡ Some its) (node_is : node_at its place ≡ Some node) (fewer : AreFewer few node.flags)
      (closed : Closed (changed (Some number) place few (family_at before all))) where
    abbrev graphs : ProgramGraphs
    graphs = (changed (Some number) place few family).graphs

    abbrev other : Family
    other = other_at before graphs

    abbrev maps : GroupMaps
    maps = λ group. unmoved

    same_below : (function : ℕ) → group_of family function < number → graph_of other (InFunction function) ≡ graph_of family (InFunction function)
    same_below function less = function_other family number place few function (λ same. omega (arith, less, same))

    within : number ≤ length (groups_of before.groups)
    within = let less = slice_get_within (groups_of before.groups) number (numbers_of members) row in omega (arith, less)

    below : MapsBelow family other number maps
    below = maps_same family other number grouped.stands.code.made same_below refl (sound_below before number making within all begins) (calls_below before number least all begins graphs closed)

    flags : FlagsBelow family other number maps
    flags = flags_below family other number grouped.stands.code.made same_below

    first_in : is_owner owners one ≡ true
    first_in = owners_are members one ∙ adding.first_in before start grouped number making first others row begun graph functions assembled leads none all begins has graphs (closed_below (other_at before graphs) closed (suc number)) maps below flags

    of_first : group_of family first.0 ≡ number
    of_first =
        adding.of_number before start grouped number making first others row begun graph functions assembled leads none all begins has graphs (closed_below (other_at before graphs) closed (suc number)) maps below flags first.0
        (adding.first_in before start grouped number making first others row begun graph functions assembled leads none all begins has graphs (closed_below (other_at before graphs) closed (suc number)) maps below flags)

    shown : (owner : Owner) → is_among owner (owners_in owners) ≡ true → graph_of family owner ≡ kept
    shown = adding.kept_shown before start grouped number making first others row begun graph functions assembled leads none all begins has graphs (closed_below (other_at before graphs) closed (suc number)) maps below flags

    one_shown : graph_of family one ≡ kept
    one_shown = shown one (among_there owners 0 (Some first) refl)

    its_kept : its ≡ kept
    its_kept = sym (ap (λ n. or_no_graph (slice_get family.graphs.graphs n)) of_first ∙ ap or_no_graph its_is) ∙ one_shown

    here : node_at kept place ≡ Some node
    here = subst (λ g. node_at g place ≡ Some node) its_kept node_is

    changes : graph_of other one ≡ with_flags place few kept
    changes = function_here family number place few its first.0 its_is of_first ∙ ap (with_flags place few) its_kept

    needed : IsNeeded family kept (of_group (numbers members)) place
    needed = subst (λ g. IsNeeded family g (of_group (numbers members)) place) one_shown (shut.needed place node (ap (λ g. node_at g place) one_shown ∙ here))

    pub bare : few ≡ node.flags
    bare =
        let told = adding.group_told before start grouped number making first others row begun graph functions assembled leads none all begins has graphs (closed_below (other_at before graphs) closed (suc number)) maps below flags in
        none_fewer before grouped number making all begins graphs closed refl same_below (Some number) owners begun graph functions assembled one
        (adding.same before start grouped number making first others row begun graph functions assembled leads none all begins has graphs (closed_below (other_at before graphs) closed (suc number)) maps below flags)
        (adding.apart before start grouped number making first others row begun graph functions assembled leads none all begins has graphs (closed_below (other_at before graphs) closed (suc number)) maps below flags) (of_group (numbers members))
        (adding.its_closed before start grouped number making first others row begun graph functions assembled leads none all begins has graphs (closed_below (other_at before graphs) closed (suc number)) maps below flags) (λ owner is. owners_are members owner ∙ is)
        (adding.shows before start grouped number making first others row begun graph functions assembled leads none all begins has graphs (closed_below (other_at before graphs) closed (suc number)) maps below flags) place node few here fewer changes told.0 told.1 told.2 (Some first)
        refl shown needed

  pub group_bare : IsBareAt (family_at before all) (Some number)
  group_bare = λ place its node few its_is node_is fewer closed. bare place its node few its_is node_is fewer closed
