-- The functions of a group that was put together are ready for their callers.
use Rattle.std.proofs.Common.{◌≡◌, ℕ, zero, suc, ◌<◌, ◌||◌, ◌&&◌, Bool, true, false, cond, List, [], ◌∷◌, map, length, Option, Some, None, option_map, Vec, Global, inl, inr, refl, sym, ap, subst, ◌∙◌, arith, eq-eqb}
use Rattle.std.specs.Prelude.{slice_get}
use Rattle.std.proofs.lemmas.Bool.{cond-true, cond-false, ltb-true, ne_eqb, or_right}
use Rattle.std.proofs.lemmas.Option.{none-some, same_Some, slice_get-map}
use Rattle.c_typed.specs.Types.{CType}
use Rattle.c_typed.specs.Layouts.{StructDef}
use Rattle.c_typed.specs.Table.{Interned}
use Rattle.tac_ir.specs.declared.program.Tac as memory_tac
use Rattle.tac_ir.specs.declared.register.FunctionId.{FunctionId}
use Rattle.tac_ir.specs.declared.register.Local.TheVariants as L
use Rattle.tac_ir.specs.declared.register.Register.TheVariants as R
use Rattle.tac_ir.specs.Code.{Function, Tac}
use Rattle.tac_ir.specs.States.{Owner, InFunction, function_of}
use Rattle.tac_ir.specs.Views.{tac_of}
use Rattle.tac_ir.specs.Groups.{IsIn, IsAscending}
use Rattle.call_graph.specs.ClassLists.{numbers_of}
use Rattle.heap_graph.specs.Graphs.{Target, Node, Name, OfRegister, OfResult, OfObject, OfGlobal, OfLiteral, OfCopy, Graph, edge_in, node_at}
use Rattle.heap_graph.specs.Targets.{has_target}
use Rattle.heap_graph.specs.Points.{is_data_pointer}
use Rattle.heap_graph.specs.Escaping.{same_owner}
use Rattle.heap_graph.specs.Closed.{Family, no_graph, parameters_of, type_of, function_type, formal, has_register, of_function}
use Rattle.heap_graph.specs.Merging.{slots, IsSlot, IsSound}
use Rattle.graph_unification.specs.Memory.{owner_of}
use Rattle.heap_graph.specs.declared.frozen.FunctionNames.{FunctionNames}
use Rattle.heap_graph.specs.declared.frozen.FrozenGraph.{FrozenGraph}
use Rattle.heap_graph.specs.Frozen.{named, optional_target, register_target, object_target, static_in, graph_with, bare, own_graph}
use Rattle.heap_graph.specs.Asks.{is_certain}
use Rattle.heap_graph.specs.Restricted.{if_certain}
use Rattle.heap_graph.proofs.Certain.{certain_there, has_if}
use Rattle.heap_graph.specs.declared.program.FunctionGraph.{FunctionGraph}
use Rattle.heap_graph.specs.Shows.{ShowsGraph, ShowsNames}
use Rattle.heap_graph.proofs.GroupNumbers.{stands, among_at}
use Rattle.graph_unification.specs.Going.{AllNamed}
use Rattle.graph_unification.proofs.Fitting.{found_below}
use Rattle.dsa_local.specs.Mentioned.{is_among}
use Rattle.dsa_local.proofs.Telling.{certain_has}
use Rattle.call_graph.specs.declared.group_lists.Groups.{Groups}
use Rattle.call_graph.specs.GroupViews.{groups_of}
use Rattle.dsa_inlining.specs.Adding.{HaveSlots}
use Rattle.dsa_inlining.proofs.Listed.{listed_closed}
use Rattle.dsa_inlining.proofs.Escaping.{outside_listed}
use Rattle.dsa_inlining.specs.Owners.{is_owner, names_in}
use Rattle.dsa_inlining.specs.Kept.{is_own, IsFrozen}
use Rattle.dsa_inlining.proofs.KeptNodes.{before as made_of, after as kept_of}
use Rattle.dsa_inlining.specs.Before.{GraphsBefore, IsReady}
use Rattle.dsa_inlining.specs.Crossings.{owners_in}
use Rattle.dsa_bottom_up.specs.Assembled.{kept_graph, IsAssembled}
use Rattle.dsa_bottom_up.specs.AssembledGroups.Making.{IsGrouped, ListsEscaping}

-- ---- members of a group

-- a group in memory, as a list of numbers
pub row_at : (groups : Groups) (number : ℕ) (row : Vec FunctionId Global) → slice_get groups.members.items number ≡ Some row → slice_get (groups_of groups) number ≡ Some (numbers_of row.items)
row_at groups number row is =
    slice_get-map (λ (list : Vec FunctionId Global). numbers_of list.items) groups.members.items number ∙ ap (option_map (λ (list : Vec FunctionId Global). numbers_of list.items)) is

pub member_in : (members : List FunctionId) (place : ℕ) (member : FunctionId) → slice_get members place ≡ Some member → IsIn member.0 (numbers_of members)
member_in [] place member at = absurd (none-some member at)
member_in (first ∷ members) zero member at = inl (ap (λ (f : FunctionId). f.0) (sym (same_Some first member at)))
member_in (first ∷ members) (suc place) member at = inr (member_in members place member at)

pub in_members : (members : List FunctionId) (number : ℕ) → IsIn number (numbers_of members) → (place : ℕ) × (member : FunctionId) × (slice_get members place ≡ Some member) × (member.0 ≡ number)
in_members [] number is = absurd is
in_members (first ∷ members) number (inl same) = (0, first, refl, sym same)
in_members (first ∷ members) number (inr is) = let found = in_members members number is in (suc found.0, found.1, found.2, found.3)

member_among : (members : List FunctionId) (place : ℕ) (member : FunctionId) → slice_get members place ≡ Some member → is_among (InFunction member.0) (owners_in (map Some members)) ≡ true
member_among [] place member at = absurd (none-some member at)
member_among (first ∷ members) zero member at =
    ap (λ b. b || is_among (InFunction member.0) (owners_in (map Some members))) (eq-eqb first.0 member.0 (ap (λ (f : FunctionId). f.0) (same_Some first member at)))
member_among (first ∷ members) (suc place) member at = or_right (same_owner (InFunction first.0) (InFunction member.0)) (is_among (InFunction member.0) (owners_in (map Some members))) (member_among members place member at)

among_is : (owners : List (Option FunctionId)) (owner : Owner) → is_owner owners owner ≡ is_among owner (owners_in owners)
among_is [] owner = refl
among_is (first ∷ owners) owner = ap (λ b. same_owner (owner_of first) owner || b) (among_is owners owner)

-- ---- names of members

-- none, or in the order of the text
abbrev Ascends : List ℕ → Type 0
Ascends [] = Unit {0}
Ascends (first ∷ others) = IsAscending (first ∷ others)

ascends : (numbers : List ℕ) → IsAscending numbers → Ascends numbers
ascends [] h = absurd h
ascends (first ∷ others) h = h

others_ascend : (first : ℕ) (others : List ℕ) → IsAscending (first ∷ others) → Ascends others
others_ascend first [] h = tt
others_ascend first (next ∷ others) h = h.1

later : (first : ℕ) (members : List FunctionId) → IsAscending (first ∷ numbers_of members) → (place : ℕ) (member : FunctionId) → slice_get members place ≡ Some member → first < member.0
later first [] h place member at = absurd (none-some member at)
later first (next ∷ members) h zero member at = subst (λ (f : FunctionId). first < f.0) (same_Some next member at) h.0
later first (next ∷ members) h (suc place) member at =
    let less : first < next.0 = h.0 in
    let more : next.0 < member.0 = later next.0 members h.1 place member at in
    omega (arith, less, more)

abbrev names_of : List FunctionGraph → List FunctionNames
names_of functions = map (λ (function : FunctionGraph). function.names) functions

-- the names of a member stand at its place
pub names_at : (members : List FunctionId) (functions : List FunctionGraph) → Ascends (numbers_of members) → (place : ℕ) (member : FunctionId) (own : FunctionGraph) → slice_get members place ≡ Some member
    → slice_get functions place ≡ Some own → names_in (map Some members) (names_of functions) (InFunction member.0) ≡ Some own.names
names_at [] functions h place member own at told = absurd (none-some member at)
names_at (first ∷ members) [] h place member own at told = absurd (none-some own told)
names_at (first ∷ members) (function ∷ functions) h zero member own at told =
    cond-true (same_owner (InFunction first.0) (InFunction member.0)) (Some function.names) (names_in (map Some members) (names_of functions) (InFunction member.0))
    (eq-eqb first.0 member.0 (ap (λ (f : FunctionId). f.0) (same_Some first member at)))
    ∙ ap (λ (f : FunctionGraph). Some f.names) (same_Some function own told)
names_at (first ∷ members) (function ∷ functions) h (suc place) member own at told =
    let less : first.0 < member.0 = later first.0 members h place member at in
    cond-false (same_owner (InFunction first.0) (InFunction member.0)) (Some function.names) (names_in (map Some members) (names_of functions) (InFunction member.0))
    (ne_eqb first.0 member.0 (λ same. omega (arith, less, same)))
    ∙ names_at members functions (others_ascend first.0 (numbers_of members) h) place member own at told

-- ---- what is kept of a sound graph is sound

if_some : (graph : Graph) (target : Option Target) (to : Target) → if_certain graph target ≡ Some to → (target ≡ Some to) × (is_certain graph (Some to) ≡ true)
if_some graph None to e = absurd (none-some to e)
if_some graph (Some target) to e = by (is_certain graph (Some target)) refl e
  where
    by : (b : Bool) → is_certain graph (Some target) ≡ b → cond b (Some target) None ≡ Some to → (Some target ≡ Some to) × (is_certain graph (Some to) ≡ true)
    by true certain h = (h, ap (is_certain graph) (sym h) ∙ certain)
    by false certain h = absurd (none-some to h)

module _ (tac : Tac) (owners : Owner → Bool) (made kept : Graph) (frozen : IsFrozen tac owners made kept) where
  -- what has a target has it in the graph that was made, at a certain node
  kept_target : (name : Name) (target : Target) → kept.targets name ≡ Some target → (made.targets name ≡ Some target) × (is_certain made (Some target) ≡ true)
  kept_target name target is = by (is_own tac owners name) (sym (frozen.names name) ∙ is)
    where
      by : (b : Bool) → cond b (if_certain made (made.targets name)) None ≡ Some target → (made.targets name ≡ Some target) × (is_certain made (Some target) ≡ true)
      by true e = if_some made (made.targets name) target e
      by false e = absurd (none-some target e)

  module _ (structs : List StructDef) (sound : IsSound structs made) where
    slot_kept : (target : Target) → IsSlot structs made target → is_certain made (Some target) ≡ true → IsSlot structs kept target
    slot_kept target slot certain =
        let there = certain_there made target certain in
        let new = kept_of made kept frozen.nodes target.node there.node there.is there.so in
        let same : slot.node ≡ there.node = same_Some slot.node there.node (sym slot.is ∙ there.is) in
        record { node = new.node; is = new.is; inside = subst (λ e. target.shift < slots structs e) (ap (λ (n : Node). n.element) same ∙ sym new.keeps.element) slot.inside }

    pub kept_sound : IsSound structs kept
    kept_sound = record {
      names = λ name target is. let was = kept_target name target is in slot_kept target (sound.names name target was.0) was.1;
      from = λ number slot node to at is.
          let was = made_of made kept frozen.nodes number node at in
          let edge = if_some made (edge_in was.old.edges slot) to (sym (was.keeps.edges slot) ∙ is) in
          subst (λ e. slot < slots structs e) (sym was.keeps.element) (sound.from number slot was.old to was.is edge.0);
      to = λ number slot node to at is.
          let was = made_of made kept frozen.nodes number node at in
          let edge = if_some made (edge_in was.old.edges slot) to (sym (was.keeps.edges slot) ∙ is) in
          slot_kept to (sound.to number slot was.old to was.is edge.0) edge.1;
    }

    -- each node is a name's, and so has a slot
    pub kept_slots : AllNamed made → HaveSlots structs kept
    kept_slots every number node at =
        let was = made_of made kept frozen.nodes number node at in
        let name = every number was.old was.is in
        let slot = sound.names name.0 name.1 name.2 in
        let same : slot.node ≡ was.old = same_Some slot.node was.old (sym slot.is ∙ ap (node_at made) name.3 ∙ was.is) in
        let inside : name.1.shift < slots structs node.element = subst (λ e. name.1.shift < slots structs e) (ap (λ (n : Node). n.element) same ∙ sym was.keeps.element) slot.inside in
        omega (arith, inside)

-- ---- other names

-- where all that has a target in a graph has it by some name in another with the same nodes, it is sound too
others_sound : (structs : List StructDef) (table : Interned) (graph : FrozenGraph) (known other : Owner → Option FunctionNames) → IsSound structs (graph_with table graph known)
    → ((name : Name) (target : Target) → (graph_with table graph other).targets name ≡ Some target → (old : Name) × ((graph_with table graph known).targets old ≡ Some target))
    → IsSound structs (graph_with table graph other)
others_sound structs table graph known other sound found = record {
  names = λ name target is.
      let old = found name target is in
      let slot = sound.names old.0 target old.1 in
      record { node = slot.node; is = slot.is; inside = slot.inside };
  from = λ number slot node to at is. sound.from number slot node to at is;
  to = λ number slot node to at is. let end = sound.to number slot node to at is in record { node = end.node; is = end.is; inside = end.inside };
}

module _ (table : Interned) (graph : FrozenGraph) (known : Owner → Option FunctionNames) where
  own_found : (called : ℕ) (own : FunctionNames) → known (InFunction called) ≡ Some own → (name : Name) (target : Target) → (own_graph table graph own).targets name ≡ Some target
      → (old : Name) × ((graph_with table graph known).targets old ≡ Some target)
  own_found called own told (OfRegister owner register) target is = (OfRegister (InFunction called) register, ap (named (λ names. register_target names register)) told ∙ is)
  own_found called own told (OfResult owner) target is = (OfResult (InFunction called), ap (named (λ names. optional_target names.returned)) told ∙ is)
  own_found called own told (OfObject owner local) target is = (OfObject (InFunction called) local, ap (named (λ names. object_target names local)) told ∙ is)
  own_found called own told (OfGlobal number) target is = (OfGlobal number, is)
  own_found called own told (OfLiteral number) target is = (OfLiteral number, is)
  own_found called own told (OfCopy number) target is = absurd (none-some target is)

  bare_found : (name : Name) (target : Target) → (bare table graph).targets name ≡ Some target → (old : Name) × ((graph_with table graph known).targets old ≡ Some target)
  bare_found (OfRegister owner register) target is = absurd (none-some target is)
  bare_found (OfResult owner) target is = absurd (none-some target is)
  bare_found (OfObject owner local) target is = absurd (none-some target is)
  bare_found (OfGlobal number) target is = (OfGlobal number, is)
  bare_found (OfLiteral number) target is = (OfLiteral number, is)
  bare_found (OfCopy number) target is = absurd (none-some target is)

-- ---- a family that has the function's graph alone

module _ (tac : memory_tac.Tac) (called : ℕ) (graph : FrozenGraph) (names : FunctionNames) where
  abbrev alone : Family
  alone = record { tac = tac_of tac; groups = []; graphs = record { graphs = own_graph tac.types graph names ∷ []; start = no_graph; embedding = λ at number. None } }

  alone_graph : ShowsGraph tac.types alone (InFunction called) graph
  alone_graph = record { structs = refl; nodes = refl; globals = λ number. refl; literals = λ number. refl; copies = λ number. refl }

  alone_names : ShowsNames alone (InFunction called) names
  alone_names = record { registers = λ register. refl; returned = refl; objects = λ local. refl }

-- ---- a function of the group

module _ (before : GraphsBefore) (number : ℕ) (members : List FunctionId) (begun : Graph) (graph : FrozenGraph) (functions : List FunctionGraph)
    (assembled : IsAssembled before (Some number) (map Some members) begun graph functions) (grouped : IsGrouped before.tac before.groups) (row : slice_get (groups_of before.groups) number ≡ Some (numbers_of members)) where
  abbrev tac : Tac
  tac = tac_of before.tac

  abbrev groups : List (List ℕ)
  groups = groups_of before.groups

  abbrev owners : Owner → Bool
  owners = is_owner (map Some members)

  abbrev known : Owner → Option FunctionNames
  known = names_in (map Some members) (names_of functions)

  abbrev kept : Graph
  kept = kept_graph before (map Some members) graph functions

  abbrev made : Graph
  made = assembled.made

  sound : IsSound tac.structs kept
  sound = kept_sound tac owners made kept assembled.frozen tac.structs assembled.sound

  plain_sound : IsSound tac.structs (bare before.tac.types graph)
  plain_sound = others_sound tac.structs before.tac.types graph known (λ owner. None) sound (bare_found before.tac.types graph known)

  module _ (place : ℕ) (member : FunctionId) (own : FunctionGraph) (at : slice_get members place ≡ Some member) (there : slice_get functions place ≡ Some own) where
    abbrev called : ℕ
    called = member.0

    names_are : known (InFunction called) ≡ Some own.names
    names_are =
        let group = stands groups number (numbers_of members) row in
        names_at members functions (ascends (numbers_of members) (grouped.groups.ascending group.before group.after (numbers_of members) group.is)) place member own at there

    own_sound : IsSound tac.structs (own_graph before.tac.types graph own.names)
    own_sound = others_sound tac.structs before.tac.types graph known (λ owner. Some own.names) sound (own_found before.tac.types graph known called own.names names_are)

    -- the member is a function of the program
    member_there : (function : Function) × (slice_get tac.functions called ≡ Some function)
    member_there =
        let group = stands groups number (numbers_of members) row in
        found_below tac.functions called (grouped.groups.only called (among_at group.before group.after (numbers_of members) called groups group.is (member_in members place member at)))

    -- formals that are pointers are certain, and so kept
    formals_kept : (index : ℕ) (c_type : CType) → slice_get (parameters_of (function_type tac called)) index ≡ Some c_type → is_data_pointer c_type ≡ true
        → has_target ((own_graph before.tac.types graph own.names).targets (formal called index)) ≡ true
    formals_kept index c_type is pointer =
        let function = member_there in
        let told = assembled.told.functions (InFunction called) function.0 (member_among members place member at) function.1 in
        let certain : is_certain made (made.targets (formal called index)) ≡ true =
        told.formals called refl index c_type (ap (λ f. slice_get (parameters_of (type_of f)) index) (sym function.1) ∙ is) pointer in
        let only = assembled.told.only (formal called index) refl (certain_has made (made.targets (formal called index)) certain) in
        let its : is_own tac owners (formal called index) ≡ true =
        ap (λ b. b && of_function (function_of tac (InFunction called)) (λ f. has_register f (R.Local (L.Parameter index)))) (among_is (map Some members) (InFunction called)) ∙ only in
        ap (λ o. has_target (named (λ names. register_target names (R.Local (L.Parameter index))) o)) (sym names_are)
        ∙ (ap has_target (assembled.frozen.names (formal called index))
        ∙ (ap (λ b. has_target (cond b (if_certain made (made.targets (formal called index))) None)) its ∙ (has_if made (made.targets (formal called index)) ∙ certain)))

    globals_within : (global : ℕ) (target : Target) → static_in graph.globals global ≡ Some target → global < length tac.globals
    globals_within global target is =
        let was = kept_target tac owners made kept assembled.frozen (OfGlobal global) target is in
        ltb-true global (length tac.globals) (assembled.told.only (OfGlobal global) refl (ap has_target was.0))

    literals_within : (literal : ℕ) (target : Target) → static_in graph.literals literal ≡ Some target → literal < length tac.literals
    literals_within literal target is =
        let was = kept_target tac owners made kept assembled.frozen (OfLiteral literal) target is in
        ltb-true literal (length tac.literals) (assembled.told.only (OfLiteral literal) refl (ap has_target was.0))

    -- all that is asked of a function before its callers have their graphs
    pub function_ready : (numbers : List ℕ) → ListsEscaping before.tac called graph own.names numbers → IsReady before.tac called graph own.names numbers
    function_ready numbers lists =
        let family = alone before.tac called graph own.names in
        let shows = alone_graph before.tac called graph own.names in
        let shows_names = alone_names before.tac called graph own.names in
        let escaping = lists.escapes family shows shows_names in
        record {
          sound = own_sound;
          slots = kept_slots tac owners made kept assembled.frozen tac.structs assembled.sound assembled.named;
          found = assembled.found;
          formals = formals_kept;
          globals = globals_within;
          literals = literals_within;
          marks = lists.marks;
          listed = lists.listed;
          rises = lists.rises;
          within = lists.within;
          escapes = lists.escapes;
          closed = listed_closed before.tac.types family called graph shows plain_sound assembled.found lists.marks escaping numbers lists.listed;
          outside = outside_listed before.tac.types called graph own.names family shows shows_names own_sound plain_sound assembled.found lists.marks escaping numbers lists.listed;
        }
