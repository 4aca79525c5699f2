-- No flag can be taken away from the graph of `start`.
use Rattle.std.proofs.Common.{◌≡◌, ℕ, zero, suc, ◌<◌, true, List, [], ◌∷◌, length, Option, Some, None, refl, sym, ap, subst, ◌∙◌, arith}
use Rattle.std.proofs.lemmas.Bool.{false≢true}
use Rattle.std.proofs.lemmas.Option.{none-some, same_Some}
use Rattle.std.specs.Prelude.{slice_get}
use Rattle.tac_ir.specs.declared.register.FunctionId.{FunctionId}
use Rattle.tac_ir.specs.States.{Owner, InStart, InFunction}
use Rattle.tac_ir.specs.Views.{tac_of}
use Rattle.heap_graph.specs.Graphs.{Flags, Node, Graph, ProgramGraphs, node_at}
use Rattle.heap_graph.specs.Merging.{GraphMap}
use Rattle.heap_graph.specs.Steps.{unmoved}
use Rattle.heap_graph.specs.Closed.{Family, graph_of, group_of, is_start, IsNeeded, GraphClosed, Closed}
use Rattle.heap_graph.specs.Least.{AreFewer, with_flags, changed, graph_at}
use Rattle.graph_unification.specs.Memory.{owner_of}
use Rattle.heap_graph.specs.declared.frozen.FrozenGraph.{FrozenGraph}
use Rattle.heap_graph.specs.declared.program.FunctionGraph.{FunctionGraph}
use Rattle.heap_graph.specs.declared.program.ProgramGraphs as memory_graphs
use Rattle.call_graph.specs.GroupViews.{groups_of}
use Rattle.dsa_inlining.specs.Owners.{is_owner}
use Rattle.dsa_inlining.specs.Before.{GraphsBefore}
use Rattle.dsa_bottom_up.specs.Assembled.{kept_graph, IsAssembled}
use Rattle.dsa_bottom_up.specs.AssembledGroups.Making.{IsGrouped, family_at, BeginsWith, IsMaking}
use Rattle.dsa_bottom_up.proofs.Starting.{HasStart, start_shown, start_owner_shown}
use Rattle.dsa_bottom_up.specs.Mapping.{GroupMaps, MapsOwner, MapsBelow, FlagsBelow}
use Rattle.dsa_bottom_up.specs.LeastGraphs.Making.{other_at, AreLeast}
use Rattle.dsa_bottom_up.proofs.StartGraph as starting
use Rattle.dsa_bottom_up.proofs.StartGraph.{IsStartBegun}
use Rattle.dsa_bottom_up.specs.Bare.{IsBareAt}
use Rattle.dsa_bottom_up.proofs.SameMaps.{maps_same, flags_below}
use Rattle.dsa_bottom_up.proofs.BelowSame.{calls_below, sound_below}
use Rattle.dsa_bottom_up.proofs.OneBare.{none_fewer}

module _ (before : GraphsBefore) (start : (tac_of before.tac).start.parameters ≡ 0) (grouped : IsGrouped before.tac before.groups) (making : IsMaking before (length (groups_of before.groups))) (begun : Graph)
    (graph : FrozenGraph) (own : FunctionGraph) (assembled : IsAssembled before None (None ∷ []) begun graph (own ∷ [])) (begins_so : IsStartBegun before begun) (all : memory_graphs.ProgramGraphs)
    (begins : BeginsWith before (length (groups_of before.groups)) all) (has : HasStart graph own all) (least : AreLeast before (length (groups_of before.groups)))
    (shut : GraphClosed (family_at before all) (family_at before all).graphs.start is_start InStart) where
  abbrev alone : List (Option FunctionId)
  alone = None ∷ []

  abbrev number : ℕ
  number = length (groups_of before.groups)

  abbrev family : Family
  family = family_at before all

  abbrev kept : Graph
  kept = kept_graph before alone graph (own ∷ [])

  module _ (place : ℕ) (its : Graph) (node : Node) (few : Flags) (its_is : graph_at (family_at before all) None ≡ Some its) (node_is : node_at its place ≡ Some node) (fewer : AreFewer few node.flags)
      (closed : Closed (changed None place few (family_at before all))) where
    abbrev graphs : ProgramGraphs
    graphs = (changed None place few family).graphs

    abbrev other : Family
    other = other_at before graphs

    abbrev maps : GroupMaps
    maps = λ group. unmoved

    same_below : (function : ℕ) → group_of family function < number → graph_of other (InFunction function) ≡ graph_of family (InFunction function)
    same_below function less = refl

    below : MapsBelow family other number maps
    below = maps_same family other number grouped.stands.code.made same_below refl (sound_below before number making (omega arith) all begins) (calls_below before number least all begins graphs closed)

    flags : FlagsBelow family other number maps
    flags = flags_below family other number grouped.stands.code.made same_below

    shown : family.graphs.start ≡ kept
    shown = start_shown before graph own all grouped has

    its_kept : its ≡ kept
    its_kept = sym (same_Some family.graphs.start its its_is) ∙ shown

    here : node_at kept place ≡ Some node
    here = subst (λ g. node_at g place ≡ Some node) its_kept node_is

    needed : IsNeeded family kept is_start place
    needed = subst (λ g. IsNeeded family g is_start place) shown (shut.needed place node (ap (λ g. node_at g place) shown ∙ here))

    listed : (owner : Owner) → is_start owner ≡ true → is_owner alone owner ≡ true
    listed InStart is = refl
    listed (InFunction function) is = absurd (false≢true is)

    each : (map : GraphMap) → MapsOwner family other number maps InStart map → (at : ℕ) (owner : Option FunctionId) → slice_get alone at ≡ Some owner → MapsOwner family other number maps (owner_of owner) map
    each map its zero owner is = subst (λ o. MapsOwner family other number maps (owner_of o) map) (same_Some None owner is) its
    each map its (suc at) owner is = absurd (none-some owner is)

    pub bare : few ≡ node.flags
    bare =
        let told = starting.start_told before start grouped making begun graph own assembled begins_so all begins has graphs closed maps below flags in
        none_fewer before grouped number making all begins graphs closed refl same_below None alone begun graph (own ∷ []) assembled InStart
        (starting.same before start grouped making begun graph own assembled begins_so all begins has graphs closed maps below flags)
        (starting.apart before start grouped making begun graph own assembled begins_so all begins has graphs closed maps below flags) is_start closed.last listed
        (starting.shows before start grouped making begun graph own assembled begins_so all begins has graphs closed maps below flags) place node few here fewer (ap (with_flags place few) shown) told.0 (each told.0 told.1) told.2
        None refl (start_owner_shown before graph own all grouped has) needed

  pub start_bare : IsBareAt (family_at before all) None
  start_bare = λ place its node few its_is node_is fewer closed. bare place its node few its_is node_is fewer closed
