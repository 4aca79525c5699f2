-- All that is told of a group's graph closes the group in each family of graphs that has it.
use Rattle.std.proofs.Common.{◌≡◌, ℕ, Bool, true, false, ◌==◌, ◌||◌, cond, List, [], ◌∷◌, length, map, suc, zero-le, Option, Some, None, refl, sym, ap, subst, ◌∙◌, eqb-true}
use Rattle.std.specs.Prelude.{slice_get, option_map}
use Rattle.std.proofs.lemmas.Bool.{false≢true}
use Rattle.std.proofs.lemmas.Option.{none-some, same_Some, slice_get-map, slice_get_past, slice_get_within}
use Rattle.c_typed.specs.Types.{CType}
use Rattle.tac_ir.specs.declared.register.FunctionId.{FunctionId}
use Rattle.tac_ir.specs.declared.register.Register.{Register}
use Rattle.tac_ir.specs.Code.{Through, Function}
use Rattle.tac_ir.specs.States.{Owner, InStart, InFunction, function_of}
use Rattle.tac_ir.specs.Views.{tac_of}
use Rattle.tac_ir.specs.Groups.{Makes, Reaches, itself, through, in_class}
use Rattle.tac_ir.specs.Targets.{is_target}
use Rattle.heap_graph.specs.Graphs.{Graph}
use Rattle.heap_graph.specs.Escaping.{same_owner}
use Rattle.heap_graph.specs.Closed.{Family, is_in, of_group, graph_of, same_group, FunctionClosed, GraphClosed}
use Rattle.graph_unification.specs.Memory.{owner_of}
use Rattle.heap_graph.specs.declared.frozen.FunctionNames.{FunctionNames}
use Rattle.heap_graph.specs.declared.frozen.FrozenGraph.{FrozenGraph}
use Rattle.heap_graph.specs.declared.program.FunctionGraph.{FunctionGraph}
use Rattle.heap_graph.specs.declared.program.ProgramGraphs.{ProgramGraphs}
use Rattle.heap_graph.proofs.GroupNumbers.{in_is, is_then_in, stands}
use Rattle.heap_graph.proofs.GroupGraphs.{shows_group}
use Rattle.call_graph.specs.GroupViews.{groups_of}
use Rattle.heap_graph.specs.Complete.{numbers}
use Rattle.heap_graph.specs.Faults.{GroupClosed}
use Rattle.dsa_local.specs.Mentioned.{is_among}
use Rattle.dsa_local.specs.Joined.{IsCalled}
use Rattle.dsa_inlining.specs.Owners.{is_owner, names_in}
use Rattle.dsa_inlining.specs.Embedded.{CopiesAreImages}
use Rattle.dsa_inlining.proofs.ShownKept.{owners_are, owners_same, shown_is}
use Rattle.dsa_inlining.proofs.ClosedGraph.{graph_closed}
use Rattle.dsa_bottom_up.specs.MadeGroups.Made.{IsGroup, IsMade, AreClassesOne, AreOuterClosed}
use Rattle.dsa_bottom_up.proofs.MadeGroups.Classes.{classes_hold}
use Rattle.dsa_bottom_up.proofs.MadeGroups.Functions.{function_closes}
use Rattle.dsa_bottom_up.proofs.Points.{globals_hold, literals_hold}
use Rattle.dsa_inlining.specs.Before.{GraphsBefore, is_inside}
use Rattle.dsa_inlining.specs.Crossings.{owners_in}
use Rattle.dsa_bottom_up.specs.Assembled.{IsAssembled, kept_graph}
use Rattle.dsa_bottom_up.specs.AssembledGroups.Making.{IsGrouped, family_at, is_before, AreAt}
use Rattle.dsa_bottom_up.proofs.Placed.{among_is, all_told}
use Rattle.dsa_bottom_up.proofs.Crossing.{kept_restricts}
use Rattle.dsa_bottom_up.proofs.Members.{listed_inside, inside_listed, inside_is, inside_number, same_inside, number_inside}
use Rattle.dsa_bottom_up.proofs.AssembledGroups.Classes.{callees_known, callees_are_one, start_calls_none}

-- ---- what was assembled

module _ (before : GraphsBefore) (group : Option ℕ) (owners : List (Option FunctionId)) (begun : Graph) (graph : FrozenGraph) (functions : List FunctionGraph)
    (assembled : IsAssembled before group owners begun graph functions) where
  -- where a family has that graph, all is told that closes it
  pub assembled_made : (all : ProgramGraphs) → ((owner : Owner) → is_among owner (owners_in owners) ≡ true → graph_of (family_at before all) owner ≡ kept_graph before owners graph functions)
      → IsMade (family_at before all) (owners_in owners) (is_inside before.groups group) assembled.made (kept_graph before owners graph functions)
  assembled_made all shown = record {
    told = assembled.told;
    classes = assembled.classes;
    calls = assembled.calls;
    settled = assembled.settled;
    sizes = assembled.sizes;
    shown = shown;
    restricts = kept_restricts before group owners begun graph functions assembled;
    copies = λ number. refl;
  }

-- ---- the names of a group's functions

-- where a function stands
pub member_at : (members : List FunctionId) (function : ℕ) → is_in function (numbers members) ≡ true → (place : ℕ) × (member : FunctionId) × (slice_get members place ≡ Some member) × (member.0 ≡ function)
member_at [] function is = absurd (false≢true is)
member_at (first ∷ members) function is = by (first.0 == function) refl is (λ rest. member_at members function rest)
  where
    by : (b : Bool) → (first.0 == function) ≡ b → (b || is_in function (numbers members)) ≡ true
        → (is_in function (numbers members) ≡ true → (place : ℕ) × (member : FunctionId) × (slice_get members place ≡ Some member) × (member.0 ≡ function))
        → (place : ℕ) × (member : FunctionId) × (slice_get (first ∷ members) place ≡ Some member) × (member.0 ≡ function)
    by true same h later = (0, first, refl, eqb-true first.0 function same)
    by false same h later = let found = later h in (suc found.0, found.1, found.2, found.3)

abbrev names_of : List FunctionGraph → List FunctionNames
names_of functions = map (λ (function : FunctionGraph). function.names) functions

names_there : (members : List FunctionId) (functions all : List FunctionGraph) → AreAt all members functions → (function : ℕ) (own : FunctionGraph) → is_in function (numbers members) ≡ true
    → slice_get all function ≡ Some own → names_in (map Some members) (names_of functions) (InFunction function) ≡ Some own.names
names_there [] functions all at function own is stored = absurd (false≢true is)
names_there (first ∷ members) [] all at function own is stored =
    let place = member_at (first ∷ members) function is in
    absurd (none-some own (sym (slice_get_past [] place.0 zero-le) ∙ (sym (at place.0 place.1 place.2) ∙ (ap (slice_get all) place.3 ∙ stored))))
names_there (first ∷ members) (its ∷ functions) all at function own is stored =
    by (first.0 == function) refl is (λ rest. names_there members functions all (λ place member. at (suc place) member) function own rest stored)
  where
    by : (b : Bool) → (first.0 == function) ≡ b → (b || is_in function (numbers members)) ≡ true
        → (is_in function (numbers members) ≡ true → names_in (map Some members) (names_of functions) (InFunction function) ≡ Some own.names)
        → cond b (Some its.names) (names_in (map Some members) (names_of functions) (InFunction function)) ≡ Some own.names
    by true same h later = ap (λ f. Some f.names) (same_Some its own (sym (at 0 first refl) ∙ (ap (slice_get all) (eqb-true first.0 function same) ∙ stored)))
    by false same h later = later h

pub no_names : (owners : List (Option FunctionId)) (names : List FunctionNames) (owner : Owner) → is_owner owners owner ≡ false → names_in owners names owner ≡ None
no_names [] names owner out = refl
no_names (first ∷ owners) [] owner out = refl
no_names (first ∷ owners) (own ∷ names) owner out = by (same_owner (owner_of first) owner) out (λ rest. no_names owners names owner rest)
  where
    by : (b : Bool) → (b || is_owner owners owner) ≡ false → (is_owner owners owner ≡ false → names_in owners names owner ≡ None) → cond b (Some own) (names_in owners names owner) ≡ None
    by true h later = absurd (false≢true (sym h))
    by false h later = later h

-- ---- a group among the graphs of a program

-- The group has these members. Its graph is at its number, and what is told of its functions at theirs.
pub record HasGroup (before : GraphsBefore) (number : ℕ) (members : List FunctionId) (graph : FrozenGraph) (functions : List FunctionGraph) (all : ProgramGraphs) : Type 0 where
  pub group : slice_get (groups_of before.groups) number ≡ Some (numbers members)
  pub stored : slice_get all.graphs.items number ≡ Some graph
  pub own : AreAt all.functions.items members functions
  pub each : length all.functions.items ≡ length before.tac.functions.items

module _ (before : GraphsBefore) (number : ℕ) (members : List FunctionId) (graph : FrozenGraph) (functions : List FunctionGraph) (all : ProgramGraphs) (grouped : IsGrouped before.tac before.groups)
    (has : HasGroup before number members graph functions all) where
  abbrev family : Family
  family = family_at before all

  abbrev owners : List (Option FunctionId)
  owners = map Some members

  abbrev inside : ℕ → Bool
  inside = is_inside before.groups (Some number)

  -- each of its functions has the graph in which its functions have their names
  pub member_shown : (one : ℕ) → is_in one (numbers members) ≡ true → graph_of (family_at before all) (InFunction one) ≡ kept_graph before (map Some members) graph functions
  member_shown one is =
      shown_is before.tac.types family (numbers members) graph all.functions.items
      (shows_group before.tac (groups_of before.groups) all grouped.groups has.each number (numbers members) graph has.group has.stored)
      one is (names_in owners (names_of functions))
      (λ function own here stored. names_there members functions all.functions.items has.own function own here stored)
      (λ owner out. no_names owners (names_of functions) owner (owners_are members owner ∙ out))

  pub owner_shown : (owner : Owner) → is_among owner (owners_in (map Some members)) ≡ true → graph_of (family_at before all) owner ≡ kept_graph before (map Some members) graph functions
  owner_shown InStart is = absurd (false≢true (sym (among_is owners InStart ∙ owners_are members InStart) ∙ is))
  owner_shown (InFunction one) is = member_shown one (sym (among_is owners (InFunction one) ∙ owners_are members (InFunction one)) ∙ is)

  among_inside : (caller : ℕ) → is_among (InFunction caller) (owners_in owners) ≡ inside caller
  among_inside caller = among_is owners (InFunction caller) ∙ (owners_are members (InFunction caller) ∙ sym (inside_is before.tac before.groups grouped number (numbers members) has.group caller))

  -- the functions of one class are of one group
  class_inside : (caller : ℕ) (pointer : Register) (c_type : CType) → Makes (tac_of before.tac) caller (Through pointer c_type) → (a b : ℕ) → is_target (tac_of before.tac) (Through pointer c_type) a ≡ true
      → is_target (tac_of before.tac) (Through pointer c_type) b ≡ true → inside a ≡ true → inside b ≡ true
  class_inside caller pointer c_type makes a b first second is =
      let place = inside_listed before.tac before.groups grouped number a is in
      let at = stands (groups_of before.groups) number place.0 place.1 in
      let to : Reaches (tac_of before.tac) a b = through a b b (in_class caller pointer c_type makes first second) (itself b) in
      let from : Reaches (tac_of before.tac) b a = through b a a (in_class caller pointer c_type makes second first) (itself a) in
      listed_inside before.tac before.groups grouped number b place.0 place.1
      (is_then_in b place.0 (grouped.groups.together at.before at.after place.0 a b at.is (in_is a place.0 place.2) (to, from)))

  together : (pointer : Register) (c_type : CType) (a b : ℕ) → IsCalled (tac_of before.tac) (Through pointer c_type) → is_target (tac_of before.tac) (Through pointer c_type) a ≡ true
      → is_target (tac_of before.tac) (Through pointer c_type) b ≡ true → inside a ≡ true → inside b ≡ true
  together pointer c_type a b called first second is = by called.caller called.is
    where
      by : (caller : Owner) → function_of (tac_of before.tac) caller ≡ Some called.function → inside b ≡ true
      by InStart found = absurd (start_calls_none before grouped called.function called.at called.site pointer c_type called.arguments found called.point)
      by (InFunction caller) found =
          class_inside caller pointer c_type (record { function = called.function; is = found; at = called.at; site = called.site; arguments = called.arguments; point = called.point }) a b first second is

  same : (owner : Owner) (called : ℕ) → is_among owner (owners_in owners) ≡ true → same_group family owner called ≡ true → inside called ≡ true
  same InStart called among alike = absurd (false≢true alike)
  same (InFunction own) called among alike = same_inside before all grouped number own called (sym (among_inside own) ∙ among) alike

  -- it is a group of the program
  pub is_group : IsGroup (family_at before all) (owners_in (map Some members)) (is_inside before.groups (Some number))
  is_group = record {
    code = grouped.stands.code;
    own = among_inside;
    same = same;
    members = λ a b one other. inside_number before.tac before.groups grouped number a one ∙ sym (inside_number before.tac before.groups grouped number b other);
    together = together;
  }

  module _ (begun : Graph) (assembled : IsAssembled before (Some number) (map Some members) begun graph functions) where
    made : IsMade family (owners_in owners) inside assembled.made (kept_graph before owners graph functions)
    made = assembled_made before (Some number) owners begun graph functions assembled all owner_shown

    pub classes_closed : AreClassesOne (family_at before all) (is_inside before.groups (Some number))
    classes_closed = classes_hold family (owners_in owners) inside assembled.made (kept_graph before owners graph functions) is_group made

    module _ (outer : (place : ℕ) (owner : Option FunctionId) → slice_get (map Some members) place ≡ Some owner → AreOuterClosed (family_at before all) (owner_of owner))
        (images : CopiesAreImages (family_at before all) (is_owner (map Some members)) assembled.made) (earlier : AreClassesOne (family_at before all) (is_before before.groups number)) where
      outer_at : (own : ℕ) → is_in own (numbers members) ≡ true → AreOuterClosed family (InFunction own)
      outer_at own is =
          let place = member_at members own is in
          subst (λ n. AreOuterClosed family (InFunction n)) place.3 (outer place.0 (Some place.1) (slice_get-map Some members place.0 ∙ ap (option_map Some) place.2))

      member_closes : (own : ℕ) (function : Function) → slice_get family.tac.functions own ≡ Some function → inside own ≡ true → FunctionClosed family (InFunction own) function
      member_closes own function is here =
          let listed = sym (inside_is before.tac before.groups grouped number (numbers members) has.group own) ∙ here in
          function_closes family (owners_in owners) inside assembled.made (kept_graph before owners graph functions) is_group made (InFunction own) (among_inside own ∙ here) (outer_at own listed)
          (callees_are_one before all number (InFunction own) classes_closed earlier (callees_known before grouped number own here)) function is

      member_graph : (one : ℕ) → is_in one (numbers members) ≡ true → GraphClosed family (graph_of family (InFunction one)) (of_group (numbers members)) (InFunction one)
      member_graph one is =
          let among : is_among (InFunction one) (owners_in owners) ≡ true = among_is owners (InFunction one) ∙ (owners_are members (InFunction one) ∙ is) in
          let kept = kept_graph before owners graph functions in
          let closed : GraphClosed family kept (is_owner owners) (InFunction one) =
          graph_closed family (is_owner owners) assembled.made kept assembled.frozen (all_told (tac_of before.tac) owners assembled.made assembled.told.only) assembled.named images assembled.sound (InFunction one)
          (globals_hold family (owners_in owners) inside assembled.made kept made (InFunction one) among) (literals_hold family (owners_in owners) inside assembled.made kept made (InFunction one) among) in
          subst (λ g. GraphClosed family g (of_group (numbers members)) (InFunction one)) (sym (member_shown one is))
          (subst (λ test. GraphClosed family kept test (InFunction one)) (owners_same members) closed)

      pub group_closed : GroupClosed (family_at before all) number
      group_closed = record {
        functions = λ own function is of. member_closes own function is (number_inside before.tac before.groups grouped number own (slice_get_within family.tac.functions own function is) of);
        graph = λ one group at is.
            let same = same_Some (numbers members) group (sym has.group ∙ at) in
            subst (λ g. GraphClosed family (graph_of family (InFunction one)) (of_group g) (InFunction one)) same (member_graph one (ap (is_in one) same ∙ is));
      }

      pub group_closes : GroupClosed (family_at before all) number × AreClassesOne (family_at before all) (is_inside before.groups (Some number))
      group_closes = (group_closed, classes_closed)
