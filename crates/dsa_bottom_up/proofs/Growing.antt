-- With each group that gets its graph one group more is known and closed.
use Rattle.std.proofs.Common.{◌≡◌, ℕ, zero, suc, ◌+◌, ◌<◌, ◌⊎◌, inl, inr, Bool, true, false, cond, List, [], ◌∷◌, ◌++◌, map, length, Option, Some, None, option_map, refl, sym, ap, subst, ◌∙◌, arith, eqb-true, eq-eqb}
use Rattle.std.specs.Prelude.{slice_get, not}
use Rattle.std.proofs.lemmas.Bool.{false≢true, ltb-true, lt-ltb, cases_lt}
use Rattle.std.proofs.lemmas.List.{length-map}
use Rattle.std.proofs.lemmas.Option.{none-some, same_Some, slice_get-map, slice_get_within}
use Rattle.c_typed.specs.Types.{CType}
use Rattle.tac_ir.specs.declared.register.FunctionId.{FunctionId}
use Rattle.tac_ir.specs.declared.register.Register.{Register}
use Rattle.tac_ir.specs.Code as O
use Rattle.tac_ir.specs.Code.{Callee, Known, Through, Function}
use Rattle.tac_ir.specs.States.{InFunction, function_of}
use Rattle.tac_ir.specs.Views.{tac_of, function_in}
use Rattle.tac_ir.specs.Groups.{IsIn, IsAmong, Calls, by_call}
use Rattle.tac_ir.specs.Targets.{is_target}
use Rattle.call_graph.specs.ClassLists.{numbers_of}
use Rattle.heap_graph.specs.Graphs.{Graph}
use Rattle.heap_graph.specs.Closed.{is_in, group_from, AreOne}
use Rattle.graph_unification.specs.Memory.{owner_of}
use Rattle.heap_graph.specs.declared.frozen.FrozenGraph.{FrozenGraph}
use Rattle.heap_graph.specs.Orders.{EdgesAscend}
use Rattle.heap_graph.specs.declared.program.FunctionGraph.{FunctionGraph}
use Rattle.heap_graph.specs.declared.program.ProgramGraphs.{ProgramGraphs}
use Rattle.heap_graph.specs.Shows.{ShowsGraph, ShowsNames}
use Rattle.heap_graph.proofs.GroupNumbers.{is_then_in, stands, own_number, among_at}
use Rattle.heap_graph.proofs.GroupGraphs.{shows_graph, shows_names}
use Rattle.heap_graph.specs.Faults.{GroupClosed}
use Rattle.graph_unification.proofs.Fitting.{found_below}
use Rattle.call_graph.specs.GroupViews.{groups_of}
use Rattle.dsa_local.specs.Members.{is_numbered}
use Rattle.dsa_bottom_up.specs.MadeGroups.Made.{AreClassesOne}
use Rattle.dsa_inlining.specs.declared.told_statics.GroupStatics.{GroupStatics}
use Rattle.dsa_inlining.specs.declared.live.LiveTargets.{LiveTargets}
use Rattle.dsa_inlining.specs.Before.{GraphsBefore, IsReached, is_inside, is_out}
use Rattle.dsa_inlining.specs.Crossings.{AllReached}
use Rattle.dsa_bottom_up.proofs.Ascending.{assembled_ascends}
use Rattle.dsa_bottom_up.specs.Assembled.{IsAssembled}
use Rattle.dsa_bottom_up.specs.AssembledGroups.Making.{IsGrouped, family_at, BeginsWith, is_below, IsMaking, AddsGroup}
use Rattle.dsa_bottom_up.proofs.Ready.{member_in, in_members, function_ready}

-- ---- lists

front : {X : Type 0} (xs ys : List X) (n : ℕ) → n < length xs → slice_get (xs ++ ys) n ≡ slice_get xs n
front [] ys n less = absurd (omega (arith, less))
front (x ∷ xs) ys zero less = refl
front (x ∷ xs) ys (suc n) less = front xs ys n (omega (arith, less))

last : {X : Type 0} (xs : List X) (x : X) (n : ℕ) → length xs ≡ n → slice_get (xs ++ x ∷ []) n ≡ Some x
last [] x zero is = refl
last [] x (suc n) is = absurd (omega (arith, is))
last (y ∷ xs) x zero is = absurd (omega (arith, is))
last (y ∷ xs) x (suc n) is = last xs x n (omega (arith, is))

one_more : {X : Type 0} (xs : List X) (x : X) → length (xs ++ x ∷ []) ≡ suc (length xs)
one_more [] x = refl
one_more (y ∷ xs) x = ap suc (one_more xs x)

-- the number of a group is below that of any behind it
among_first : (count number : ℕ) (front behind : List (List ℕ)) → IsAmong number front → group_from count (front ++ behind) number < count + length front
among_first count number [] behind is = absurd is
among_first count number (group ∷ front) behind is = by (λ rest. among_first (suc count) number front behind rest) (is_in number group) refl is
  where
    by : (IsAmong number front → group_from (suc count) (front ++ behind) number < suc count + length front) → (test : Bool) → is_in number group ≡ test → IsIn number group ⊎ IsAmong number front
        → cond test count (group_from (suc count) (front ++ behind) number) < count + suc (length front)
    by later true e _ = omega arith
    by later false e (inl here) = absurd (false≢true (sym e ∙ is_then_in number group here))
    by later false e (inr rest) = let less = later rest in omega (arith, less)

-- ---- groups in memory

module _ (before : GraphsBefore) (grouped : IsGrouped before.tac before.groups) where
  abbrev groups : List (List ℕ)
  groups = groups_of before.groups

  abbrev numbered : ℕ → Option ℕ
  numbered called = slice_get before.groups.group_of.items called

  -- a function is in the group of its number
  home_is : (called group : ℕ) → numbered called ≡ Some group → group_from 0 groups called ≡ group
  home_is called group of =
      let home = grouped.of.group called group of in
      own_number (tac_of before.tac) groups grouped.groups group called home.0 home.1 (is_then_in called home.0 home.2)

  -- each function of a group has its number
  pub number_told : (called : ℕ) → IsAmong called groups → numbered called ≡ Some (group_from 0 groups called)
  number_told called among =
      let within = grouped.groups.only called among in
      let many = length-map before.tac.functions.items (function_in before.tac.types) in
      let each = grouped.of.each in
      let found = found_below before.groups.group_of.items called (omega (arith, within, many, each)) in
      found.1 ∙ ap Some (sym (home_is called found.0 found.1))

  module _ (number : ℕ) (members : List FunctionId) (row : slice_get groups number ≡ Some (numbers_of members)) where
    member_home : (called : ℕ) → IsIn called (numbers_of members) → group_from 0 groups called ≡ number
    member_home called is = own_number (tac_of before.tac) groups grouped.groups number called (numbers_of members) row (is_then_in called (numbers_of members) is)

    pub member_told : (called : ℕ) → IsIn called (numbers_of members) → numbered called ≡ Some number
    member_told called is =
        let place = stands groups number (numbers_of members) row in
        number_told called (among_at place.before place.after (numbers_of members) called groups place.is is) ∙ ap Some (member_home called is)

    -- a function of another group is no member
    no_member : (called group : ℕ) → numbered called ≡ Some group → (group ≡ number → ⊥) → (place : ℕ) (member : FunctionId) → slice_get members place ≡ Some member → member.0 ≡ called → ⊥
    no_member called group of other place member at same =
        other (sym (home_is called group of) ∙ member_home called (subst (λ n. IsIn n (numbers_of members)) same (member_in members place member at)))

    -- a function of the group is one
    a_member : (called : ℕ) → numbered called ≡ Some number → (place : ℕ) × (member : FunctionId) × (slice_get members place ≡ Some member) × (member.0 ≡ called)
    a_member called of =
        let home = grouped.of.group called number of in
        in_members members called (subst (IsIn called) (same_Some home.0 (numbers_of members) (sym home.1 ∙ row)) home.2)

-- ---- what was made stands in the graphs of the program

pub begins_shows : (before : GraphsBefore) (number : ℕ) (all : ProgramGraphs) → IsGrouped before.tac before.groups → IsMaking before number → BeginsWith before number all → (called : ℕ) (reached : IsReached before called)
    → ShowsGraph before.tac.types (family_at before all) (InFunction called) reached.graph × ShowsNames (family_at before all) (InFunction called) reached.own.names
begins_shows before number all grouped making begins called reached =
    let size = making.graphs in
    let within = slice_get_within before.graphs reached.group reached.graph reached.graph_is in
    let less : reached.group < number = omega (arith, size, within) in
    let home = grouped.of.group called reached.group reached.of in
    let here = is_then_in called home.0 home.2 in
    let graph_is = begins.graphs reached.group less ∙ reached.graph_is in
    let own_is = begins.own called reached.group reached.of less ∙ reached.own_is in (
      shows_graph before.tac (groups_of before.groups) all grouped.groups reached.group called home.0 reached.graph home.1 here graph_is,
      shows_names before.tac (groups_of before.groups) all grouped.groups reached.group called home.0 reached.graph reached.own home.1 here graph_is own_is,
    )

-- ---- calls come to functions of groups before

module _ (before : GraphsBefore) (number : ℕ) (members : List FunctionId) (grouped : IsGrouped before.tac before.groups) (making : IsMaking before number)
    (row : slice_get (groups_of before.groups) number ≡ Some (numbers_of members)) where
  called_reached : (caller called : ℕ) → IsIn caller (numbers_of members) → Calls (tac_of before.tac) caller called → is_out before.groups (Some number) called ≡ true → IsReached before called
  called_reached caller called is calls out =
      let place = stands (groups_of before.groups) number (numbers_of members) row in
      by place.before place.after place.is place.count (grouped.groups.ready place.before place.after (numbers_of members) place.is caller called is calls)
    where
      by : (first rest : List (List ℕ)) → groups_of before.groups ≡ first ++ numbers_of members ∷ rest → length first ≡ number → IsIn called (numbers_of members) ⊎ IsAmong called first → IsReached before called
      by first rest split count (inl inside) =
          absurd (false≢true (sym (ap (λ o. not (is_numbered number o)) (member_told before grouped number members row called inside) ∙ ap not (eq-eqb number number refl)) ∙ out))
      by first rest split count (inr among) =
          let behind : group_from 0 (first ++ numbers_of members ∷ rest) called < 0 + length first = among_first 0 called first (numbers_of members ∷ rest) among in
          let same : group_from 0 (groups_of before.groups) called ≡ group_from 0 (first ++ numbers_of members ∷ rest) called = ap (λ gs. group_from 0 gs called) split in
          making.reached called (group_from 0 (groups_of before.groups) called)
          (number_told before grouped called (subst (IsAmong called) (sym split) (among_front called first (numbers_of members ∷ rest) among)))
          (omega (arith, behind, same, count))
        where
          among_front : (called : ℕ) (first rest : List (List ℕ)) → IsAmong called first → IsAmong called (first ++ rest)
          among_front called [] rest is = absurd is
          among_front called (group ∷ first) rest (inl is) = inl is
          among_front called (group ∷ first) rest (inr is) = inr (among_front called first rest is)

  -- each function to which calls out of the group may come is known
  pub all_reached : AllReached before (Some number) (map Some members)
  all_reached place owner at = by (slice_get members place) refl (sym (slice_get-map Some members place) ∙ at)
    where
      by : (found : Option FunctionId) → slice_get members place ≡ found → option_map Some found ≡ Some owner → (function : Function) (at site : ℕ) (callee : Callee) (arguments : List Register) (called : ℕ)
          → function_of (tac_of before.tac) (owner_of owner) ≡ Some function → slice_get function.points at ≡ Some (O.Call site callee arguments) → is_target (tac_of before.tac) callee called ≡ true
          → is_out before.groups (Some number) called ≡ true → IsReached before called
      by None there is function at site callee arguments called found point target out = absurd (none-some owner is)
      by (Some member) there is function at site callee arguments called found point target out =
          called_reached member.0 called (member_in members place member there)
          (by_call callee
          (record {
            function = function;
            is = ap (λ o. function_of (tac_of before.tac) (owner_of o)) (same_Some (Some member) owner is) ∙ found;
            at = at;
            site = site;
            arguments = arguments;
            point = point;
          })
          target)
          out

-- so is each to which those of `start` come, once all groups have their graphs, where what it calls is in the program
pub start_reached : (before : GraphsBefore) → IsGrouped before.tac before.groups → IsMaking before (length (groups_of before.groups))
    → ((at site function : ℕ) (arguments : List Register) → slice_get (tac_of before.tac).start.points at ≡ Some (O.Call site (Known function) arguments) → function < length before.tac.functions.items)
    → AllReached before None (None ∷ [])
start_reached before grouped making known place owner at = by place at
  where
    comes : (called : ℕ) → called < length before.tac.functions.items → IsReached before called
    comes called within =
        let each = grouped.of.each in
        let found = found_below before.groups.group_of.items called (omega (arith, within, each)) in
        let home = grouped.of.group called found.0 found.1 in
        making.reached called found.0 found.1 (slice_get_within (groups_of before.groups) found.0 home.0 home.1)

    reaches : (at site : ℕ) (callee : Callee) (arguments : List Register) (called : ℕ) → slice_get (tac_of before.tac).start.points at ≡ Some (O.Call site callee arguments)
        → is_target (tac_of before.tac) callee called ≡ true → IsReached before called
    reaches at site (Known function) arguments called point target = comes called (subst (λ n. n < length before.tac.functions.items) (eqb-true function called target) (known at site function arguments point))
    reaches at site (Through pointer c_type) arguments called point target = absurd (grouped.stands.start at site pointer c_type arguments point)

    by : (place : ℕ) → slice_get (None ∷ []) place ≡ Some owner → (function : Function) (at site : ℕ) (callee : Callee) (arguments : List Register) (called : ℕ)
        → function_of (tac_of before.tac) (owner_of owner) ≡ Some function → slice_get function.points at ≡ Some (O.Call site callee arguments) → is_target (tac_of before.tac) callee called ≡ true
        → is_out before.groups None called ≡ true → IsReached before called
    by zero there function at site callee arguments called found point target out =
        let same : (tac_of before.tac).start ≡ function = same_Some (tac_of before.tac).start function (ap (λ o. function_of (tac_of before.tac) (owner_of o)) (same_Some None owner there) ∙ found) in
        reaches at site callee arguments called (ap (λ (f : Function). slice_get f.points at) same ∙ point) target
    by (suc place) there function at site callee arguments called found point target out = absurd (none-some owner there)

-- ---- one group more

module _ (before after : GraphsBefore) (number : ℕ) (members : List FunctionId) (graph : FrozenGraph) (functions : List FunctionGraph) (grouped : IsGrouped before.tac before.groups)
    (row : slice_get (groups_of before.groups) number ≡ Some (numbers_of members)) (size : length before.graphs ≡ number) (adds : AddsGroup before after members graph functions) where
  -- the graphs of groups before are still those
  pub begins_before : (all : ProgramGraphs) → BeginsWith after (suc number) all → BeginsWith before number all
  begins_before all begins = record {
    functions = begins.functions ∙ ap (λ t. length t.functions.items) adds.tac;
    graphs = λ at less. begins.graphs at (omega (arith, less)) ∙ (ap (λ l. slice_get l at) adds.graphs ∙ front before.graphs (graph ∷ []) at (omega (arith, less, size)));
    own = λ called group of less.
        begins.own called group (ap (λ g. slice_get g.group_of.items called) adds.groups ∙ of) (omega (arith, less))
        ∙ adds.others called (no_member before grouped number members row called group of (λ same. omega (arith, same, less)));
  }

  -- and the group has the new one
  pub begins_graph : (all : ProgramGraphs) → BeginsWith after (suc number) all → slice_get all.graphs.items number ≡ Some graph
  begins_graph all begins = begins.graphs number (omega arith) ∙ (ap (λ l. slice_get l number) adds.graphs ∙ last before.graphs graph number size)

  pub begins_own : (all : ProgramGraphs) → BeginsWith after (suc number) all → (place : ℕ) (member : FunctionId) → slice_get members place ≡ Some member → slice_get all.functions.items member.0 ≡ slice_get functions place
  begins_own all begins place member at =
      begins.own member.0 number
      (ap (λ g. slice_get g.group_of.items member.0) adds.groups ∙ member_told before grouped number members row member.0 (member_in members place member at))
      (omega arith)
      ∙ adds.own place member at

-- what was made, with other graphs and lists
abbrev with_lists : GraphsBefore → List FrozenGraph → List FunctionGraph → List (List ℕ) → LiveTargets → List GroupStatics → GraphsBefore
with_lists before graphs functions escaping live statics = record { tac = before.tac; groups = before.groups; graphs = graphs; functions = functions; escaping = escaping; live = live; statics = statics }

module _ (before : GraphsBefore) (graphs : List FrozenGraph) (own : List FunctionGraph) (escaping : List (List ℕ)) (live : LiveTargets) (statics : List GroupStatics) (number : ℕ) (members : List FunctionId) (begun : Graph) (graph : FrozenGraph) (functions : List FunctionGraph)
    (grouped : IsGrouped before.tac before.groups) (making : IsMaking before number) (row : slice_get (groups_of before.groups) number ≡ Some (numbers_of members))
    (assembled : IsAssembled before (Some number) (map Some members) begun graph functions) (adds : AddsGroup before (with_lists before graphs own escaping live statics) members graph functions) where
  abbrev made : GraphsBefore
  made = with_lists before graphs own escaping live statics

  begins_still : (all : ProgramGraphs) → BeginsWith made (suc number) all → BeginsWith before number all
  begins_still = begins_before before made number members graph functions grouped row making.graphs adds

  -- functions of groups before are known as they were
  still_reached : (called group : ℕ) → slice_get before.groups.group_of.items called ≡ Some group → group < number → IsReached made called
  still_reached called group of less =
      let was = making.reached called group of less in
      let size = making.graphs in
      let apart = no_member before grouped number members row called group of (λ same. omega (arith, same, less)) in
      let within = slice_get_within before.graphs was.group was.graph was.graph_is in
      record {
        group = was.group;
        of = was.of;
        graph = was.graph;
        graph_is = ap (λ l. slice_get l was.group) adds.graphs ∙ (front before.graphs (graph ∷ []) was.group within ∙ was.graph_is);
        own = was.own;
        own_is = adds.others called apart ∙ was.own_is;
        numbers = was.numbers;
        numbers_are = adds.same_lists called apart ∙ was.numbers_are;
        ready = was.ready;
      }

  -- those of the group are ready
  member_reached : (called : ℕ) → slice_get before.groups.group_of.items called ≡ Some number → IsReached made called
  member_reached called of =
      let found = a_member before grouped number members row called of in
      let within = slice_get_within members found.0 found.1 found.2 in
      let many = length-map members (λ (f : FunctionId). Some f) in
      let each = assembled.size in
      let its = found_below functions found.0 (omega (arith, within, many, each)) in
      let lists = adds.listed found.0 found.1 its.0 found.2 its.1 in
      subst (IsReached made) found.3
      (record {
        group = number;
        of = ap (λ n. slice_get before.groups.group_of.items n) found.3 ∙ of;
        graph = graph;
        graph_is = ap (λ l. slice_get l number) adds.graphs ∙ last before.graphs graph number making.graphs;
        own = its.0;
        own_is = adds.own found.0 found.1 found.2 ∙ its.1;
        numbers = lists.0;
        numbers_are = lists.1;
        ready = function_ready before number members begun graph functions assembled grouped row found.0 found.1 its.0 found.2 its.1 lists.0 lists.2;
      })

  grows : ((all : ProgramGraphs) → BeginsWith made (suc number) all → GroupClosed (family_at made all) number × AreClassesOne (family_at made all) (is_inside made.groups (Some number))) → IsMaking made (suc number)
  grows closes = record {
    graphs = ap length adds.graphs ∙ (one_more before.graphs graph ∙ ap suc making.graphs);
    functions = adds.size ∙ making.functions;
    escaping = adds.lists ∙ making.escaping;
    reached = λ called group of less. elim (cases_lt group number) [
      | inl lt ↦ still_reached called group of lt
      | inr le ↦ let same : group ≡ number = omega (arith, less, le) in member_reached called (of ∙ ap Some same)
    ];
    closed = λ all begins at less. elim (cases_lt at number) [
      | inl lt ↦ making.closed all (begins_still all begins) at lt
      | inr le ↦ let same : number ≡ at = omega (arith, less, le) in subst (GroupClosed (family_at made all)) same (closes all begins).0
    ];
    classes = λ all begins pointer c_type a b called first second among. class all begins pointer c_type a b (slice_get before.groups.group_of.items a) refl among
        (λ group of lt.
        making.classes all (begins_still all begins) pointer c_type a b called first second (ap (is_below number) of ∙ lt-ltb group number lt))
        (λ of. (closes all begins).1 pointer c_type a b called first second (ap (is_numbered number) of ∙ eq-eqb number number refl));
    ascend = λ at kept less is. elim (cases_lt at number) [
      | inl lt ↦ making.ascend at kept lt (sym (front before.graphs (graph ∷ []) at (let many = making.graphs in omega (arith, lt, many))) ∙ (ap (λ l. slice_get l at) (sym adds.graphs) ∙ is))
      | inr le ↦
          let same : number ≡ at = omega (arith, less, le) in
          let one : Some graph ≡ Some kept = sym (last before.graphs graph at (making.graphs ∙ same)) ∙ (ap (λ l. slice_get l at) (sym adds.graphs) ∙ is) in
          subst (λ (g : FrozenGraph). EdgesAscend g.nodes.items) (same_Some graph kept one) (assembled_ascends before (Some number) (map Some members) begun graph functions assembled)
    ];
  }
    where
      class : (all : ProgramGraphs) → BeginsWith made (suc number) all → (pointer : Register) (c_type : CType) (a b : ℕ) (found : Option ℕ) → slice_get before.groups.group_of.items a ≡ found
          → is_below (suc number) found ≡ true → ((group : ℕ) → slice_get before.groups.group_of.items a ≡ Some group → group < number → AreOne (family_at made all) a b)
          → (slice_get before.groups.group_of.items a ≡ Some number → AreOne (family_at made all) a b) → AreOne (family_at made all) a b
      class all begins pointer c_type a b None of below old new = absurd (false≢true below)
      class all begins pointer c_type a b (Some group) of below old new =
          let less : group < suc number = ltb-true group (suc number) below in
          elim (cases_lt group number) [ inl lt ↦ old group of lt | inr le ↦ let same : group ≡ number = omega (arith, less, le) in new (of ∙ ap Some same) ]

-- Where what was made of one group more closes it in all graphs of the program that begin so, one group more has its graph.
pub making_grows : (before after : GraphsBefore) (number : ℕ) (members : List FunctionId) (begun : Graph) (graph : FrozenGraph) (functions : List FunctionGraph) → IsGrouped before.tac before.groups → IsMaking before number
    → slice_get (groups_of before.groups) number ≡ Some (numbers_of members) → IsAssembled before (Some number) (map Some members) begun graph functions → AddsGroup before after members graph functions
    → ((all : ProgramGraphs) → BeginsWith after (suc number) all → GroupClosed (family_at after all) number × AreClassesOne (family_at after all) (is_inside after.groups (Some number)))
    → IsMaking after (suc number)
making_grows before after number members begun graph functions grouped making row assembled adds closes =
    subst (λ made. IsMaking made (suc number)) (sym same)
    (grows before after.graphs after.functions after.escaping after.live after.statics number members begun graph functions grouped making row assembled (subst (λ made. AddsGroup before made members graph functions) same adds)
    (subst
    (λ (made : GraphsBefore). (all : ProgramGraphs) → BeginsWith made (suc number) all → GroupClosed (family_at made all) number × AreClassesOne (family_at made all) (is_inside made.groups (Some number)))
    same closes))
  where
    same : after ≡ with_lists before after.graphs after.functions after.escaping after.live after.statics
    same = λ i. record { tac = adds.tac i; groups = adds.groups i; graphs = after.graphs; functions = after.functions; escaping = after.escaping; live = after.live; statics = after.statics }
