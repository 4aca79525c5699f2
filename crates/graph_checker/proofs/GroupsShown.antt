-- What holds of the names of each function of a group holds of all names of the group's graph, and back; so does what holds of `start`.
use Rattle.std.proofs.Common.{◌≡◌, ℕ, zero, suc, ◌<◌, true, false, List, [], ◌∷◌, length, Some, refl, sym, ap, subst, ◌∙◌, arith}
use Rattle.std.specs.Prelude.{slice_get}
use Rattle.std.proofs.lemmas.Bool.{false≢true}
use Rattle.std.proofs.lemmas.Option.{same_Some}
use Rattle.c_typed.specs.Table.{Interned}
use Rattle.tac_ir.specs.declared.register.Local.{Local}
use Rattle.tac_ir.specs.declared.register.Register.{Register}
use Rattle.tac_ir.specs.Code as O
use Rattle.tac_ir.specs.States.{Owner, InStart, InFunction, function_of}
use Rattle.heap_graph.specs.Graphs.{Node, Name, OfRegister, OfResult, OfObject, Graph, node_at}
use Rattle.heap_graph.specs.Targets.{has_target}
use Rattle.heap_graph.specs.Closed.{Family, graph_of, is_in, of_group, is_start, is_slot, is_name, edges_sound}
use Rattle.heap_graph.specs.Frozen.{optional_target, register_target, object_target, bare}
use Rattle.heap_graph.specs.declared.frozen.FunctionNames.{FunctionNames}
use Rattle.heap_graph.specs.declared.frozen.FrozenGraph.{FrozenGraph}
use Rattle.heap_graph.specs.declared.program.FunctionGraph.{FunctionGraph}
use Rattle.heap_graph.specs.Shows.{ShowsGraph, ShowsNames, HasNoNames, ShowsGroup}
use Rattle.graph_checker.specs.SoundGraphs.Sound.{NamesAreSlots, StaticsAreSlots, NamesAreOwn, StaticsAreOwn, EdgesAreSound}
use Rattle.graph_checker.proofs.SoundGraphs.Shown.{IsShown, all_slots, member_slots, static_slots, all_own, member_own, static_own, all_edges, own_edges}

-- ---- groups

-- what memory tells of a function of the group
abbrev HasMember : List FunctionGraph → Owner → FunctionNames → Type 0
HasMember functions InStart names = ⊥
HasMember functions (InFunction number) names = (own : FunctionGraph) × (slice_get functions number ≡ Some own) × (own.names ≡ names)

within : {X : Type 0} (xs : List X) (number : ℕ) → number < length xs → (x : X) × (slice_get xs number ≡ Some x)
within [] number less = absurd (omega (arith, less))
within (x ∷ xs) zero less = (x, refl)
within (x ∷ xs) (suc number) less = within xs number (omega (arith, less))

-- what is said of each function's entry, of its names
each_member : (P : FunctionNames → Type 0) (functions : List FunctionGraph) (group : List ℕ)
    → ((number : ℕ) (own : FunctionGraph) → is_in number group ≡ true → slice_get functions number ≡ Some own → P own.names)
    → (owner : Owner) (names : FunctionNames) → of_group group owner ≡ true → HasMember functions owner names → P names
each_member P functions group members InStart names is has = absurd has
each_member P functions group members (InFunction number) names is has = subst P has.2 (members number has.0 is has.1)

module _ {table : Interned} {family : Family} {group : List ℕ} {graph : FrozenGraph} {functions : List FunctionGraph} (shows : ShowsGroup table family group graph functions) where
  module _ (one : ℕ) (in_group : is_in one group ≡ true) where
    abbrev whole : Graph
    whole = graph_of family (InFunction one)

    there : (owner : Owner) → of_group group owner ≡ true → (names : FunctionNames) × HasMember functions owner names
    there InStart is = absurd (false≢true is)
    there (InFunction number) is = let found = within functions number (shows.there number is) in (found.0.names, (found.0, found.1, refl))

    registers : (owner : Owner) (names : FunctionNames) → of_group group owner ≡ true → HasMember functions owner names → (register : Register) → whole.targets (OfRegister owner register) ≡ register_target names register
    registers InStart names is has register = absurd has
    registers (InFunction number) names is has register =
        ap (λ graph. graph.targets (OfRegister (InFunction number) register)) (shows.same one number in_group is)
        ∙ ((shows.names number has.0 is has.1).registers register ∙ ap (λ names. register_target names register) has.2)

    returned : (owner : Owner) (names : FunctionNames) → of_group group owner ≡ true → HasMember functions owner names → whole.targets (OfResult owner) ≡ optional_target names.returned
    returned InStart names is has = absurd has
    returned (InFunction number) names is has =
        ap (λ graph. graph.targets (OfResult (InFunction number))) (shows.same one number in_group is)
        ∙ ((shows.names number has.0 is has.1).returned ∙ ap (λ names. optional_target names.returned) has.2)

    objects : (owner : Owner) (names : FunctionNames) → of_group group owner ≡ true → HasMember functions owner names → (local : Local) → whole.targets (OfObject owner local) ≡ object_target names local
    objects InStart names is has local = absurd has
    objects (InFunction number) names is has local =
        ap (λ graph. graph.targets (OfObject (InFunction number) local)) (shows.same one number in_group is)
        ∙ ((shows.names number has.0 is has.1).objects local ∙ ap (λ names. object_target names local) has.2)

    group_shown : IsShown table whole graph (of_group group) (HasMember functions)
    group_shown = record {
      nodes = (shows.one one in_group).nodes;
      globals = (shows.one one in_group).globals;
      literals = (shows.one one in_group).literals;
      copies = (shows.one one in_group).copies;
      there = there;
      registers = registers;
      returned = returned;
      objects = objects;
      others = λ owner is. shows.others one owner in_group is;
    }

  -- ---- slots

  pub group_slots : ((number : ℕ) (own : FunctionGraph) → is_in number group ≡ true → slice_get functions number ≡ Some own → NamesAreSlots (bare table graph) own.names) → StaticsAreSlots table graph
      → (one : ℕ) → is_in one group ≡ true → (name : Name) → is_slot (graph_of family (InFunction one)) ((graph_of family (InFunction one)).targets name) ≡ true
  group_slots members statics one in_group = all_slots (group_shown one in_group) (each_member (NamesAreSlots (bare table graph)) functions group members) statics

  module _ (one : ℕ) (in_group : is_in one group ≡ true) (slots : (name : Name) → is_slot (graph_of family (InFunction one)) ((graph_of family (InFunction one)).targets name) ≡ true) where
    pub members_slots : (number : ℕ) (own : FunctionGraph) → is_in number group ≡ true → slice_get functions number ≡ Some own → NamesAreSlots (bare table graph) own.names
    members_slots number own is found = member_slots (group_shown one in_group) slots (InFunction number) own.names is (own, found, refl)

    pub statics_slots : StaticsAreSlots table graph
    statics_slots = static_slots (group_shown one in_group) slots

  -- ---- names

  pub group_own : ((number : ℕ) → is_in number group ≡ true → number < length family.tac.functions)
      → ((number : ℕ) (own : FunctionGraph) (function : O.Function) → is_in number group ≡ true → slice_get functions number ≡ Some own → slice_get family.tac.functions number ≡ Some function → NamesAreOwn function own.names)
      → StaticsAreOwn family.tac graph
      → (one : ℕ) → is_in one group ≡ true → (name : Name) → has_target ((graph_of family (InFunction one)).targets name) ≡ true → is_name family.tac (of_group group) name ≡ true
  group_own numbers members statics one in_group = all_own (group_shown one in_group) family.tac function each statics
    where
      function : (owner : Owner) → of_group group owner ≡ true → (function : O.Function) × (function_of family.tac owner ≡ Some function)
      function InStart is = absurd (false≢true is)
      function (InFunction number) is = within family.tac.functions number (numbers number is)

      each : (owner : Owner) (names : FunctionNames) (function : O.Function) → of_group group owner ≡ true → HasMember functions owner names → function_of family.tac owner ≡ Some function → NamesAreOwn function names
      each InStart names function is has found = absurd has
      each (InFunction number) names function is has found = subst (NamesAreOwn function) has.2 (members number has.0 function is has.1 found)

  module _ (one : ℕ) (in_group : is_in one group ≡ true) (names : (name : Name) → has_target ((graph_of family (InFunction one)).targets name) ≡ true → is_name family.tac (of_group group) name ≡ true) where
    pub members_own : (number : ℕ) (own : FunctionGraph) (function : O.Function) → is_in number group ≡ true → slice_get functions number ≡ Some own → slice_get family.tac.functions number ≡ Some function
        → NamesAreOwn function own.names
    members_own number own function is found code = member_own (group_shown one in_group) family.tac names (InFunction number) own.names function is (own, found, refl) code

    pub statics_own : StaticsAreOwn family.tac graph
    statics_own = static_own (group_shown one in_group) family.tac names

  -- ---- edges

  pub group_edges : EdgesAreSound table graph → (one : ℕ) → is_in one group ≡ true
      → (number : ℕ) (node : Node) → node_at (graph_of family (InFunction one)) number ≡ Some node → edges_sound (graph_of family (InFunction one)) node node.edges ≡ true
  group_edges sound one in_group = all_edges (group_shown one in_group) sound

  pub edges_group : (one : ℕ) → is_in one group ≡ true
      → ((number : ℕ) (node : Node) → node_at (graph_of family (InFunction one)) number ≡ Some node → edges_sound (graph_of family (InFunction one)) node node.edges ≡ true) → EdgesAreSound table graph
  edges_group one in_group sound = own_edges (group_shown one in_group) sound

-- ---- `start`

abbrev HasStart : FunctionNames → Owner → FunctionNames → Type 0
HasStart own InStart names = own ≡ names
HasStart own (InFunction number) names = ⊥

module _ {table : Interned} {family : Family} {graph : FrozenGraph} {own : FunctionNames} (shows : ShowsGraph table family InStart graph) (names : ShowsNames family InStart own)
    (others : (number : ℕ) → HasNoNames family.graphs.start (InFunction number)) where
  start_shown : IsShown table family.graphs.start graph is_start (HasStart own)
  start_shown = record {
    nodes = shows.nodes;
    globals = shows.globals;
    literals = shows.literals;
    copies = shows.copies;
    there = there;
    registers = registers;
    returned = returned;
    objects = objects;
    others = other;
  }
    where
      there : (owner : Owner) → is_start owner ≡ true → (names : FunctionNames) × HasStart own owner names
      there InStart is = (own, refl)
      there (InFunction number) is = absurd (false≢true is)

      registers : (owner : Owner) (other : FunctionNames) → is_start owner ≡ true → HasStart own owner other → (register : Register) → family.graphs.start.targets (OfRegister owner register) ≡ register_target other register
      registers InStart other is has register = names.registers register ∙ ap (λ names. register_target names register) has
      registers (InFunction number) other is has register = absurd has

      returned : (owner : Owner) (other : FunctionNames) → is_start owner ≡ true → HasStart own owner other → family.graphs.start.targets (OfResult owner) ≡ optional_target other.returned
      returned InStart other is has = names.returned ∙ ap (λ names. optional_target names.returned) has
      returned (InFunction number) other is has = absurd has

      objects : (owner : Owner) (other : FunctionNames) → is_start owner ≡ true → HasStart own owner other → (local : Local) → family.graphs.start.targets (OfObject owner local) ≡ object_target other local
      objects InStart other is has local = names.objects local ∙ ap (λ names. object_target names local) has
      objects (InFunction number) other is has local = absurd has

      other : (owner : Owner) → is_start owner ≡ false → HasNoNames family.graphs.start owner
      other InStart is = absurd (false≢true (sym is))
      other (InFunction number) is = others number

  pub start_slots : NamesAreSlots (bare table graph) own → StaticsAreSlots table graph → (name : Name) → is_slot family.graphs.start (family.graphs.start.targets name) ≡ true
  start_slots slots statics = all_slots start_shown each statics
    where
      each : (owner : Owner) (other : FunctionNames) → is_start owner ≡ true → HasStart own owner other → NamesAreSlots (bare table graph) other
      each InStart other is has = subst (NamesAreSlots (bare table graph)) has slots
      each (InFunction number) other is has = absurd has

  module _ (slots : (name : Name) → is_slot family.graphs.start (family.graphs.start.targets name) ≡ true) where
    pub start_names_slots : NamesAreSlots (bare table graph) own
    start_names_slots = member_slots start_shown slots InStart own refl refl

    pub start_statics_slots : StaticsAreSlots table graph
    start_statics_slots = static_slots start_shown slots

  pub start_own : NamesAreOwn family.tac.start own → StaticsAreOwn family.tac graph → (name : Name) → has_target (family.graphs.start.targets name) ≡ true → is_name family.tac is_start name ≡ true
  start_own owned statics = all_own start_shown family.tac function each statics
    where
      function : (owner : Owner) → is_start owner ≡ true → (function : O.Function) × (function_of family.tac owner ≡ Some function)
      function InStart is = (family.tac.start, refl)
      function (InFunction number) is = absurd (false≢true is)

      each : (owner : Owner) (other : FunctionNames) (function : O.Function) → is_start owner ≡ true → HasStart own owner other → function_of family.tac owner ≡ Some function → NamesAreOwn function other
      each InStart other function is has found = subst (λ f. NamesAreOwn f other) (same_Some _ _ found) (subst (NamesAreOwn family.tac.start) has owned)
      each (InFunction number) other function is has found = absurd has

  module _ (named : (name : Name) → has_target (family.graphs.start.targets name) ≡ true → is_name family.tac is_start name ≡ true) where
    pub start_names_own : NamesAreOwn family.tac.start own
    start_names_own = member_own start_shown family.tac named InStart own family.tac.start refl refl refl

    pub start_statics_own : StaticsAreOwn family.tac graph
    start_statics_own = static_own start_shown family.tac named

  pub start_edges : EdgesAreSound table graph → (number : ℕ) (node : Node) → node_at family.graphs.start number ≡ Some node → edges_sound family.graphs.start node node.edges ≡ true
  start_edges sound = all_edges start_shown sound

  pub edges_start : ((number : ℕ) (node : Node) → node_at family.graphs.start number ≡ Some node → edges_sound family.graphs.start node node.edges ≡ true) → EdgesAreSound table graph
  edges_start sound = own_edges start_shown sound
