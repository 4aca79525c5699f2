-- What is judged of a group's graph and of the names of its functions is what is asked of the graph.
use Rattle.std.proofs.Common.{◌≡◌, ℕ, ◌<◌, ◌==◌, ◌||◌, Bool, true, false, ◌⊎◌, inl, inr, List, [], ◌∷◌, length, Option, Some, None, refl, sym, ap, subst, ◌∙◌, arith, eqb-true, eq-eqb}
use Rattle.std.specs.Prelude.{slice_get}
use Rattle.std.specs.List.{AllByRecursion}
use Rattle.std.proofs.lemmas.Bool.{false≢true}
use Rattle.std.proofs.lemmas.Option.{slice_get_cases}
use Rattle.c_typed.specs.Table.{Interned}
use Rattle.tac_ir.specs.Code as O
use Rattle.tac_ir.specs.States.{Owner, InStart, InFunction, function_of}
use Rattle.call_graph.specs.RowLists.{Has}
use Rattle.call_graph.specs.GroupViews.{groups_of}
use Rattle.heap_graph.specs.Graphs.{OfRegister, OfResult, OfObject, Graph}
use Rattle.heap_graph.specs.Closed.{Family, graph_of, is_in, of_group, is_start, GraphClosed}
use Rattle.heap_graph.specs.declared.frozen.FunctionNames.{FunctionNames}
use Rattle.heap_graph.specs.declared.frozen.FrozenGraph.{FrozenGraph}
use Rattle.heap_graph.specs.declared.program.FunctionGraph.{FunctionGraph}
use Rattle.heap_graph.specs.Frozen.{bare}
use Rattle.heap_graph.specs.Shows.{ShowsGraph, ShowsNames, HasNoNames, ShowsGroup}
use Rattle.heap_graph.specs.Marks.{IsMentionedBy}
use Rattle.graph_checker.specs.SoundGraphs.Sound.{NamesAreSlots}
use Rattle.heap_graph.proofs.GroupNumbers.{in_is, stands, among_at}
use Rattle.heap_graph.proofs.GroupGraphs.{shows_group, shows_start, start_shows_names, start_alone}
use Rattle.heap_graph.specs.Complete.{AreComplete}
use Rattle.graph_checker.proofs.GroupsShown.{group_slots, members_slots, statics_slots, group_own, members_own, statics_own, group_edges, edges_group, start_slots, start_names_slots, start_statics_slots, start_own, start_names_own, start_statics_own, start_edges, edges_start}
use Rattle.graph_checker.specs.declared.program.Program.{Program}
use Rattle.graph_checker.specs.Programs.{family_of}
use Rattle.graph_checker.specs.Fits.{IsFit}
use Rattle.graph_checker.specs.Needed.{AnyOf, IsNeededBy, IsNeededIn, AreNeeded}
use Rattle.graph_checker.specs.ClosedGroups.Sound.{IsSoundGraph, AreSoundNames, IsSoundMember, AreSoundMembers}
use Rattle.graph_checker.proofs.Needing.{any_has, has_any, NeededIf}
use Rattle.graph_checker.proofs.Owners.{HasNames, IsOwned, OwnerNeeds, needed_nodes, nodes_needed}

-- ---- lists

pub each_in : (P : ℕ → Type 0) (xs : List ℕ) → AllByRecursion P xs → (number : ℕ) → is_in number xs ≡ true → P number
each_in P [] all number is = absurd (false≢true is)
each_in P (first ∷ xs) all number is = by (each_in P xs all.1 number) (first == number) refl is
  where
    by : (is_in number xs ≡ true → P number) → (test : Bool) → (first == number) ≡ test → (test || is_in number xs) ≡ true → P number
    by later true same _ = subst P (eqb-true first number same) all.0
    by later false same rest = later rest

pub in_each : (P : ℕ → Type 0) (xs : List ℕ) → ((number : ℕ) → is_in number xs ≡ true → P number) → AllByRecursion P xs
in_each P [] all = tt
in_each P (first ∷ xs) all = (all first (here first xs), in_each P xs (λ number is. all number (later first number xs is)))
  where
    own : (number : ℕ) (b : Bool) → (number == number) ≡ true → ((number == number) || b) ≡ true
    own number b same = ap (λ t. t || b) same

    here : (first : ℕ) (xs : List ℕ) → is_in first (first ∷ xs) ≡ true
    here first xs = own first (is_in first xs) (eq-eqb first first refl)

    later : (first number : ℕ) (xs : List ℕ) → is_in number xs ≡ true → is_in number (first ∷ xs) ≡ true
    later first number xs is = by (first == number) is
      where
        by : (b : Bool) → is_in number xs ≡ true → (b || is_in number xs) ≡ true
        by true is = refl
        by false is = is

pub has_in : (number : ℕ) (xs : List ℕ) → Has xs number → is_in number xs ≡ true
has_in number [] has = absurd has
has_in number (first ∷ xs) (inl same) = ap (λ t. t || is_in number xs) (eq-eqb first number (sym same))
has_in number (first ∷ xs) (inr has) = by (first == number) (has_in number xs has)
  where
    by : (b : Bool) → is_in number xs ≡ true → (b || is_in number xs) ≡ true
    by true is = refl
    by false is = is

in_has : (number : ℕ) (xs : List ℕ) → is_in number xs ≡ true → Has xs number
in_has number [] is = absurd (false≢true is)
in_has number (first ∷ xs) is = by (in_has number xs) (first == number) refl is
  where
    by : (is_in number xs ≡ true → Has xs number) → (test : Bool) → (first == number) ≡ test → (test || is_in number xs) ≡ true → Has (first ∷ xs) number
    by later true same _ = inl (sym (eqb-true first number same))
    by later false same rest = inr (later rest)

pub there_within : {X : Type 0} (xs : List X) (at : ℕ) → at < length xs → (x : X) × (slice_get xs at ≡ Some x)
there_within xs at less = elim (slice_get_cases xs at).1 [ inl found ↦ (found.0, found.2) | inr past ↦ absurd (omega (arith, past.0, less)) ]

-- ---- a group

-- the names and the code of a function of the program
abbrev Knows : List FunctionGraph → List O.Function → Owner → FunctionNames → O.Function → Type 0
Knows graphs functions InStart names function = ⊥
Knows graphs functions (InFunction number) names function = (own : FunctionGraph) × (slice_get graphs number ≡ Some own) × (own.names ≡ names) × (slice_get functions number ≡ Some function)

module _ (program : Program) (fit : IsFit program) (at : ℕ) (members : List ℕ) (found : slice_get (groups_of program.groups.now) at ≡ Some members) (graph : FrozenGraph)
    (stored : slice_get program.graphs.now.graphs.items at ≡ Some graph) where
  abbrev family : Family
  family = family_of program

  abbrev table : Interned
  table = program.tac.now.types

  abbrev functions : List FunctionGraph
  functions = program.graphs.now.functions.items

  pub shows : ShowsGroup table family members graph functions
  shows = shows_group program.tac.now (groups_of program.groups.now) program.graphs.now fit.whole.groups fit.whole.functions at members graph found stored

  pub within : (number : ℕ) → is_in number members ≡ true → number < length family.tac.functions
  within number here =
      let place = stands (groups_of program.groups.now) at members found in
      fit.whole.groups.only number (among_at place.before place.after members number (groups_of program.groups.now) place.is (in_is number members here))

  abbrev Needs : ℕ → Type 0
  Needs number = AnyOf (IsNeededIn family functions) members number

  module _ (one : ℕ) (in_group : is_in one members ≡ true) where
    abbrev shown : Graph
    shown = graph_of family (InFunction one)

    names_in : (owner : Owner) (names : FunctionNames) (function : O.Function) → of_group members owner ≡ true → Knows functions family.tac.functions owner names function → HasNames shown owner names
    names_in InStart names function is known = absurd known
    names_in (InFunction number) names function is known =
        let same = shows.same one number in_group is in
        let told = shows.names number known.0 is known.1 in
        subst (HasNames shown (InFunction number)) known.2
        (record {
          registers = λ register. ap (λ (g : Graph). g.targets (OfRegister (InFunction number) register)) same ∙ told.registers register;
          returned = ap (λ (g : Graph). g.targets (OfResult (InFunction number))) same ∙ told.returned;
          objects = λ local. ap (λ (g : Graph). g.targets (OfObject (InFunction number) local)) same ∙ told.objects local;
        })

    owned : IsOwned table family shown (of_group members) graph (Knows functions family.tac.functions)
    owned = record {
      nodes = (shows.one one in_group).nodes;
      globals = (shows.one one in_group).globals;
      literals = (shows.one one in_group).literals;
      copies = (shows.one one in_group).copies;
      names_of = names_in;
      code = code;
      others = λ owner out. shows.others one owner in_group out;
      there = there;
    }
      where
        code : (owner : Owner) (names : FunctionNames) (function : O.Function) → of_group members owner ≡ true → Knows functions family.tac.functions owner names function → function_of family.tac owner ≡ Some function
        code InStart names function is known = absurd known
        code (InFunction number) names function is known = known.3

        there : (owner : Owner) → of_group members owner ≡ true → (names : FunctionNames) × (function : O.Function) × Knows functions family.tac.functions owner names function
        there InStart is = absurd (false≢true is)
        there (InFunction number) is =
            let own = there_within functions number (shows.there number is) in
            let function = there_within family.tac.functions number (within number is) in
            (own.0.names, function.0, (own.0, own.1, refl, function.1))

    -- ---- which nodes are needed

    abbrev Owners : ℕ → Type 0
    Owners number = OwnerNeeds family (of_group members) (Knows functions family.tac.functions) number

    owner_of : (number own : ℕ) → is_in own members ≡ true → IsNeededIn family functions own number → Owners number
    owner_of number own is needed = by (slice_get functions own) refl (slice_get family.tac.functions own) refl needed
      where
        by : (graph : Option FunctionGraph) → slice_get functions own ≡ graph → (function : Option O.Function) → slice_get family.tac.functions own ≡ function → NeededIf family number own graph function → Owners number
        by None e function f needed = absurd needed
        by (Some graph) e None f needed = absurd needed
        by (Some graph) e (Some function) f needed = record {
          owner = InFunction own;
          is = is;
          own = graph.names;
          function = function;
          known = (graph, e, refl, f);
          needs = needed;
        }

    needs_owner : (number : ℕ) → Needs number → Owners number
    needs_owner number any =
        let one = any_has (IsNeededIn family functions) members number any in
        owner_of number one.0 (has_in one.0 members one.1) one.2

    owner_needs : (number : ℕ) → Owners number → Needs number
    owner_needs number owner = by owner.owner owner.is owner.known owner.needs
      where
        if_there : (own : ℕ) (graph : FunctionGraph) → slice_get functions own ≡ Some graph → slice_get family.tac.functions own ≡ Some owner.function
            → IsNeededBy family (InFunction own) graph.names owner.function.points number → IsNeededIn family functions own number
        if_there own graph e f needs = subst (λ o. NeededIf family number own o (slice_get family.tac.functions own)) (sym e) (subst (λ o. NeededIf family number own (Some graph) o) (sym f) needs)

        by : (own : Owner) → of_group members own ≡ true → Knows functions family.tac.functions own owner.own owner.function → IsNeededBy family own owner.own owner.function.points number → Needs number
        by InStart is known needs = absurd known
        by (InFunction own) is known needs =
            has_any (IsNeededIn family functions) members number own (in_has own members is)
            (if_there own known.0 known.1 known.3 (subst (λ n. IsNeededBy family (InFunction own) n owner.function.points number) (sym known.2) needs))

    or_owner : (number : ℕ) → IsMentionedBy graph number ⊎ Needs number → IsMentionedBy graph number ⊎ Owners number
    or_owner number (inl is) = inl is
    or_owner number (inr is) = inr (needs_owner number is)

    or_needs : (number : ℕ) → IsMentionedBy graph number ⊎ Owners number → IsMentionedBy graph number ⊎ Needs number
    or_needs number (inl is) = inl is
    or_needs number (inr is) = inr (owner_needs number is)

    -- ---- all that is asked

    pub graph_closed : IsSoundGraph table family (InFunction one) graph → AreSoundMembers table family graph functions members → AreComplete shown (of_group members) → AreNeeded graph Needs
        → GraphClosed family shown (of_group members) (InFunction one)
    graph_closed sound names complete needed = record {
      names = group_slots shows slots sound.slots one in_group;
      own = group_own shows within (λ number own function is there code. (each number own function is there code).own) sound.own one in_group;
      edges = group_edges shows sound.edges one in_group;
      globals = sound.globals;
      literals = sound.literals;
      complete = complete;
      needed = needed_nodes table family shown (of_group members) graph (Knows functions family.tac.functions) owned (λ number node there. or_owner number (needed number node there));
    }
      where
        each : (number : ℕ) (own : FunctionGraph) (function : O.Function) → is_in number members ≡ true → slice_get functions number ≡ Some own → slice_get family.tac.functions number ≡ Some function
            → AreSoundNames table graph function own.names
        each number own function is there code = each_in (IsSoundMember table family graph functions) members names number is own function there code

        slots : (number : ℕ) (own : FunctionGraph) → is_in number members ≡ true → slice_get functions number ≡ Some own → NamesAreSlots (bare table graph) own.names
        slots number own is there = let function = there_within family.tac.functions number (within number is) in (each number own function.0 is there function.1).slots

    module _ (closed : GraphClosed family shown (of_group members) (InFunction one)) where
      pub sound_graph : IsSoundGraph table family (InFunction one) graph
      sound_graph = record {
        slots = statics_slots shows one in_group closed.names;
        own = statics_own shows one in_group closed.own;
        edges = edges_group shows one in_group closed.edges;
        globals = closed.globals;
        literals = closed.literals;
      }

      pub sound_members : AreSoundMembers table family graph functions members
      sound_members =
          in_each (IsSoundMember table family graph functions) members
          (λ number is own function there code.
          record { slots = members_slots shows one in_group closed.names number own is there; own = members_own shows one in_group closed.own number own function is there code })

      pub needed_members : AreNeeded graph Needs
      needed_members number node there =
          or_needs number (nodes_needed table family shown (of_group members) graph (Knows functions family.tac.functions) owned closed.needed number node there)

-- ---- `start`

module _ (program : Program) where
  abbrev own_family : Family
  own_family = family_of program

  abbrev own_table : Interned
  own_table = program.tac.now.types

  abbrev start_graph : FrozenGraph
  start_graph = program.graphs.now.start

  abbrev start_names : FunctionNames
  start_names = program.graphs.now.start_function.names

  abbrev KnowsStart : Owner → FunctionNames → O.Function → Type 0
  KnowsStart InStart names function = (start_names ≡ names) × (own_family.tac.start ≡ function)
  KnowsStart (InFunction number) names function = ⊥

  abbrev StartNeeds : ℕ → Type 0
  StartNeeds number = IsNeededBy own_family InStart start_names own_family.tac.start.points number

  start_owned : IsOwned own_table own_family own_family.graphs.start is_start start_graph KnowsStart
  start_owned = record {
    nodes = refl;
    globals = λ number. refl;
    literals = λ number. refl;
    copies = λ number. refl;
    names_of = names_of;
    code = code;
    others = others;
    there = there;
  }
    where
      names_of : (owner : Owner) (names : FunctionNames) (function : O.Function) → is_start owner ≡ true → KnowsStart owner names function → HasNames own_family.graphs.start owner names
      names_of InStart names function is known = subst (HasNames own_family.graphs.start InStart) known.0 (record { registers = λ register. refl; returned = refl; objects = λ local. refl })
      names_of (InFunction number) names function is known = absurd known

      code : (owner : Owner) (names : FunctionNames) (function : O.Function) → is_start owner ≡ true → KnowsStart owner names function → function_of own_family.tac owner ≡ Some function
      code InStart names function is known = ap Some known.1
      code (InFunction number) names function is known = absurd known

      others : (owner : Owner) → is_start owner ≡ false → HasNoNames own_family.graphs.start owner
      others InStart out = absurd (false≢true (sym out))
      others (InFunction number) out = start_alone program.tac.now (groups_of program.groups.now) program.graphs.now number

      there : (owner : Owner) → is_start owner ≡ true → (names : FunctionNames) × (function : O.Function) × KnowsStart owner names function
      there InStart is = (start_names, own_family.tac.start, (refl, refl))
      there (InFunction number) is = absurd (false≢true is)

  abbrev StartOwners : ℕ → Type 0
  StartOwners number = OwnerNeeds own_family is_start KnowsStart number

  start_needs : (number : ℕ) → StartOwners number → StartNeeds number
  start_needs number owner = by owner.owner owner.known owner.needs
    where
      by : (own : Owner) → KnowsStart own owner.own owner.function → IsNeededBy own_family own owner.own owner.function.points number → StartNeeds number
      by InStart known needs =
          subst (λ (f : O.Function). IsNeededBy own_family InStart start_names f.points number) (sym known.1)
          (subst (λ n. IsNeededBy own_family InStart n owner.function.points number) (sym known.0) needs)
      by (InFunction own) known needs = absurd known

  needs_start : (number : ℕ) → StartNeeds number → StartOwners number
  needs_start number needs = record { owner = InStart; is = refl; own = start_names; function = own_family.tac.start; known = (refl, refl); needs = needs }

  or_start : (number : ℕ) → IsMentionedBy start_graph number ⊎ StartNeeds number → IsMentionedBy start_graph number ⊎ StartOwners number
  or_start number (inl is) = inl is
  or_start number (inr is) = inr (needs_start number is)

  start_or : (number : ℕ) → IsMentionedBy start_graph number ⊎ StartOwners number → IsMentionedBy start_graph number ⊎ StartNeeds number
  start_or number (inl is) = inl is
  start_or number (inr is) = inr (start_needs number is)

  pub start_shows : ShowsGraph own_table own_family InStart start_graph
  start_shows = shows_start program.tac.now (groups_of program.groups.now) program.graphs.now

  start_named : ShowsNames own_family InStart start_names
  start_named = start_shows_names program.tac.now (groups_of program.groups.now) program.graphs.now

  no_others : (number : ℕ) → HasNoNames own_family.graphs.start (InFunction number)
  no_others = start_alone program.tac.now (groups_of program.groups.now) program.graphs.now

  pub start_graph_closed : IsSoundGraph own_table own_family InStart start_graph → AreSoundNames own_table start_graph own_family.tac.start start_names
      → AreComplete own_family.graphs.start is_start → AreNeeded start_graph StartNeeds → GraphClosed own_family own_family.graphs.start is_start InStart
  start_graph_closed sound names complete needed = record {
    names = start_slots start_shows start_named no_others names.slots sound.slots;
    own = start_own start_shows start_named no_others names.own sound.own;
    edges = start_edges start_shows start_named no_others sound.edges;
    globals = sound.globals;
    literals = sound.literals;
    complete = complete;
    needed = needed_nodes own_table own_family own_family.graphs.start is_start start_graph KnowsStart start_owned (λ number node there. or_start number (needed number node there));
  }

  module _ (closed : GraphClosed own_family own_family.graphs.start is_start InStart) where
    pub start_sound : IsSoundGraph own_table own_family InStart start_graph
    start_sound = record {
      slots = start_statics_slots start_shows start_named no_others closed.names;
      own = start_statics_own start_shows start_named no_others closed.own;
      edges = edges_start start_shows start_named no_others closed.edges;
      globals = closed.globals;
      literals = closed.literals;
    }

    pub start_names_sound : AreSoundNames own_table start_graph own_family.tac.start start_names
    start_names_sound = record {
      slots = start_names_slots start_shows start_named no_others closed.names;
      own = start_names_own start_shows start_named no_others closed.own;
    }

    pub start_needed : AreNeeded start_graph StartNeeds
    start_needed number node there =
        start_or number (nodes_needed own_table own_family own_family.graphs.start is_start start_graph KnowsStart start_owned closed.needed number node there)
