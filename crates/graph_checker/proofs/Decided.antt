-- What is decided of a group's graph, part by part.
use Rattle.std.proofs.Common.{◌≡◌, ℕ, ◌<◌, ◌↔◌, ◌||◌, ◌⊎◌, Bool, true, false, List, [], ◌∷◌, length, Some, refl, sym, ap, subst, ◌∙◌, arith, eq-eqb}
use Rattle.std.specs.Prelude.{slice_get, get_or}
use Rattle.std.proofs.lemmas.Bool.{false≢true}
use Rattle.std.proofs.lemmas.Option.{same_Some}
use Rattle.c_typed.specs.Table.{Interned}
use Rattle.tac_ir.specs.declared.register.FunctionId.{FunctionId}
use Rattle.tac_ir.specs.Code as O
use Rattle.tac_ir.specs.States.{Owner, InFunction}
use Rattle.tac_ir.specs.Groups.{IsAscending}
use Rattle.call_graph.specs.ClassLists.{numbers_of}
use Rattle.call_graph.specs.GroupViews.{groups_of}
use Rattle.heap_graph.specs.Closed.{Family, graph_of, is_in, of_group, GraphClosed}
use Rattle.heap_graph.specs.Frozen.{bare}
use Rattle.heap_graph.specs.declared.frozen.FrozenGraph.{FrozenGraph}
use Rattle.heap_graph.specs.declared.program.FunctionGraph.{FunctionGraph}
use Rattle.heap_graph.specs.Shows.{ShowsGraph, ShowsGroup}
use Rattle.heap_graph.proofs.GroupNumbers.{stands}
use Rattle.heap_graph.specs.declared.marks.NodeMarks.{NodeMarks}
use Rattle.heap_graph.specs.Marks.{IsFresh, IsMentionedBy, Adds}
use Rattle.heap_graph.specs.Edges.{EdgesAreFound}
use Rattle.heap_graph.specs.Complete.{AreComplete, AreAllMarked}
use Rattle.heap_graph.proofs.Adding.{adds_both}
use Rattle.heap_graph.proofs.Marking.{these_of_none}
use Rattle.heap_graph.proofs.Nodes.{node_behind, node_before, node_within}
use Rattle.graph_checker.specs.declared.program.Program.{Program}
use Rattle.graph_checker.specs.Programs.{family_of}
use Rattle.graph_checker.specs.Fits.{IsFit}
use Rattle.graph_checker.proofs.CallSteps.{has_item}
use Rattle.graph_checker.proofs.GroupsFit.{as_many}
use Rattle.graph_checker.specs.Needed.{AnyOf, IsNeededIn, AreNeeded}
use Rattle.graph_checker.specs.ClosedGroups.Sound.{IsSoundGraph, AreSoundNames, IsSoundMember, AreSoundMembers}
use Rattle.graph_checker.proofs.Leading.{edges_found}
use Rattle.graph_checker.proofs.ClosedGroups.Groups.{has_in, within, shows, graph_closed, sound_graph, sound_members, needed_members}

-- ---- tests

-- a part that doesn't hold
pub fails_by : {P Q : Type 0} (test : Bool) → (test ≡ true) ↔ P → (Q → P) → test ≡ false → (false ≡ true → Q) × (Q → false ≡ true)
fails_by test decides part fails = ((λ h. absurd (false≢true h)), (λ whole. sym fails ∙ decides.1 (part whole)))

-- a test that is another
pub holds_or : (test other : Bool) → test ≡ other → (test ≡ true → other ≡ true) × (other ≡ true → test ≡ true)
holds_or test other is = ((λ t. sym is ∙ t), (λ t. is ∙ t))

-- ---- nodes

pub marks_needed : (table : Interned) (graph : FrozenGraph) (Needs : ℕ → Type 0) (fresh mid final : NodeMarks) → IsFresh graph.nodes.items fresh → Adds fresh mid (IsMentionedBy graph) → Adds mid final Needs
    → (test : Bool) → (test ≡ true) ↔ AreAllMarked (bare table graph) final → (test ≡ true → AreNeeded graph Needs) × (AreNeeded graph Needs → test ≡ true)
marks_needed table graph Needs fresh mid final none one two test decides =
    let nodes = graph.nodes.items in
    let these = these_of_none nodes fresh final (λ number. IsMentionedBy graph number ⊎ Needs number) none (adds_both fresh mid final (IsMentionedBy graph) Needs one two) in (
      (λ t number node there.
          (these.exactly number (node_within nodes number node there)).0 (decides.0 t number _ (node_before table nodes (bare table graph) refl number node there))),
      (λ needed. decides.1
          (λ number node is.
          let own = node_behind table nodes (bare table graph) refl number node is in
          (these.exactly number (node_within nodes number own.0 own.1)).1 (needed number own.0 own.1))),
    )

-- ---- a group

-- a group has a function
pub one_of : (group : List ℕ) → IsAscending group → (one : ℕ) × (is_in one group ≡ true)
one_of [] is = absurd is
one_of (one ∷ others) is = (one, ap (λ t. t || is_in one others) (eq-eqb one one refl))

module _ (program : Program) (fit : IsFit program) (at : ℕ) where
  abbrev groups : List (List ℕ)
  groups = groups_of program.groups.now

  abbrev family : Family
  family = family_of program

  abbrev table : Interned
  table = program.tac.now.types

  abbrev functions : List FunctionGraph
  functions = program.graphs.now.functions.items

  abbrev AllClosed : List ℕ → Type 0
  AllClosed members = (one : ℕ) → is_in one members ≡ true → GraphClosed family (graph_of family (InFunction one)) (of_group members) (InFunction one)

  abbrev Judges : List ℕ → Bool → Type 0
  Judges members test = (test ≡ true → AllClosed members) × (AllClosed members → test ≡ true)

  pub judged_of : (own : List ℕ) → slice_get groups at ≡ Some own → (test : Bool) → Judges own test → (members : List ℕ) → slice_get groups at ≡ Some members → Judges members test
  judged_of own found test judged members other = subst (λ l. Judges l test) (same_Some own members (sym found ∙ other)) judged

  pub member_of : (group : List ℕ) → slice_get groups at ≡ Some group → (one : ℕ) × (is_in one group ≡ true)
  member_of group found = let place = stands groups at group found in one_of group (fit.whole.groups.ascending place.before place.after group place.is)

  module _ (members : List ℕ) (found : slice_get groups at ≡ Some members) (graph : FrozenGraph) (stored : slice_get program.graphs.now.graphs.items at ≡ Some graph) where
    abbrev SoundIf : Bool → Type 0
    SoundIf test = (owner : Owner) → ShowsGraph table family owner graph → (test ≡ true) ↔ IsSoundGraph table family owner graph

    abbrev CompleteIf : Bool → Type 0
    CompleteIf test = (table : Interned) (family : Family) → ShowsGroup table family members graph functions → (one : ℕ) → is_in one members ≡ true → (test ≡ true) ↔ AreComplete (graph_of family (InFunction one)) (of_group members)

    abbrev Needs : ℕ → Type 0
    Needs number = AnyOf (IsNeededIn family functions) members number

    group_shows : ShowsGroup table family members graph functions
    group_shows = shows program fit at members found graph stored

    pub sound_fails : (test : Bool) → SoundIf test → test ≡ false → Judges members false
    sound_fails test decides fails =
        let one = member_of members found in
        fails_by test (decides (InFunction one.0) (group_shows.one one.0 one.1)) (λ all. sound_graph program fit at members found graph stored one.0 one.1 (all one.0 one.1)) fails

    pub members_fail : (test : Bool) → (test ≡ true) ↔ AreSoundMembers table family graph functions members → test ≡ false → Judges members false
    members_fail test decides fails =
        let one = member_of members found in
        fails_by test decides (λ all. sound_members program fit at members found graph stored one.0 one.1 (all one.0 one.1)) fails

    pub complete_fails : (test : Bool) → CompleteIf test → test ≡ false → Judges members false
    complete_fails test decides fails =
        let one = member_of members found in
        fails_by test (decides table family group_shows one.0 one.1) (λ all. (all one.0 one.1).complete) fails

    pub edges_known : (sound : Bool) → SoundIf sound → sound ≡ true → EdgesAreFound graph
    edges_known sound decides holds =
        let one = member_of members found in
        edges_found table graph ((decides (InFunction one.0) (group_shows.one one.0 one.1)).0 holds).edges

    pub needed_judged : (sound : Bool) → SoundIf sound → sound ≡ true → (names : Bool) → (names ≡ true) ↔ AreSoundMembers table family graph functions members → names ≡ true
        → (complete : Bool) → CompleteIf complete → complete ≡ true → (test : Bool) → (test ≡ true) ↔ AreNeeded graph Needs → Judges members test
    needed_judged sound sound_is sound_holds names names_are names_hold complete complete_is complete_holds test needed = (
      (λ t one inside.
          graph_closed program fit at members found graph stored one inside ((sound_is (InFunction one) (group_shows.one one inside)).0 sound_holds) (names_are.0 names_hold)
          ((complete_is table family group_shows one inside).0 complete_holds) (needed.0 t)),
      (λ all.
          let one = member_of members found in
          needed.1 (needed_members program fit at members found graph stored one.0 one.1 (all one.0 one.1))),
    )

-- ---- the functions of a group

module _ (program : Program) (fit : IsFit program) (at : ℕ) (items : List FunctionId) (found : slice_get (groups_of program.groups.now) at ≡ Some (numbers_of items)) (graph : FrozenGraph)
    (stored : slice_get program.graphs.now.graphs.items at ≡ Some graph) where
  pub all_within : (k : ℕ) (d : FunctionId) → k < length items → (get_or items k d).0 < length program.tac.now.functions.items
  all_within k d less =
      let below = within program fit at (numbers_of items) found graph stored (get_or items k d).0 (has_in (get_or items k d).0 (numbers_of items) (has_item items k d less)) in
      omega (arith, below, as_many program fit)

-- ---- the names of one function

pub member_judged : (types : Interned) (whole : Family) (graph : FrozenGraph) (graphs : List FunctionGraph) (number : ℕ) (own : FunctionGraph) (function : O.Function) → slice_get graphs number ≡ Some own
    → slice_get whole.tac.functions number ≡ Some function → (test : Bool) → (test ≡ true) ↔ AreSoundNames types graph function own.names
    → (test ≡ true → IsSoundMember types whole graph graphs number) × (IsSoundMember types whole graph graphs number → test ≡ true)
member_judged types whole graph graphs number own function there code test decides = (
  (λ t other another also coded.
      subst (λ (f : O.Function). AreSoundNames types graph f other.names) (same_Some function another (sym code ∙ coded))
      (subst (λ (g : FunctionGraph). AreSoundNames types graph function g.names) (same_Some own other (sym there ∙ also)) (decides.0 t))),
  (λ member. decides.1 (member own function there code)),
)
