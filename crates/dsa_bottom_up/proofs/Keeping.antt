-- What is kept of the functions of a group, one after another.
use Rattle.std.proofs.Common.{◌≡◌, ◌↔◌, ◌⊎◌, inl, inr, ℕ, zero, suc, ◌+◌, ◌<◌, ◌≤◌, Bool, true, false, List, [], ◌∷◌, ◌++◌, length, map, set, replicate, All, drop, Contains, Option, Some, None, option_map, Vec, Global, refl, sym, ap, subst, ◌∙◌, arith}
use Rattle.std.specs.Prelude.{get_or, slice_get}
use Rattle.std.specs.Vec.{with_item}
use Rattle.std.proofs.lemmas.Bool.{false≢true, cases_lt}
use Rattle.std.proofs.lemmas.List.{length-map, length-append, length-set, at_drop_all}
use Rattle.std.proofs.lemmas.Option.{none-some, same_Some, slice_get-get_or, slice_get-map, slice_get_within, get_or_from_slice_get}
use Rattle.call_graph.specs.RowLists.{Has}
use Rattle.call_graph.proofs.RowLists.{has_at, at_has}
use Rattle.call_graph.proofs.RowPlaces.{set_same, set_other}
use Rattle.tac_ir.specs.declared.program.Tac as memory_tac
use Rattle.tac_ir.specs.declared.register.FunctionId.{FunctionId}
use Rattle.tac_ir.specs.States.{InFunction}
use Rattle.tac_ir.specs.Views.{tac_of, function_in}
use Rattle.tac_ir.specs.Groups.{IsAscending}
use Rattle.call_graph.specs.ClassLists.{numbers_of}
use Rattle.heap_graph.specs.Graphs.{Graph}
use Rattle.call_graph.specs.declared.group_lists.Groups.{Groups}
use Rattle.call_graph.specs.GroupViews.{groups_of}
use Rattle.heap_graph.proofs.GroupNumbers.{stands}
use Rattle.dsa_inlining.specs.Owners.{IsFunctionOf}
use Rattle.dsa_local.specs.Local as local
use Rattle.dsa_inlining.specs.Crossings.{owners_in}
use Rattle.dsa_bottom_up.specs.Assembled.{IsAssembled}
use Rattle.dsa_bottom_up.proofs.Members.{inside_noted, listed_within, listed_inside}
use Rattle.dsa_bottom_up.proofs.Whole.{member_owner, member_listed}
use Rattle.dsa_bottom_up.proofs.Whole as whole
use Rattle.dsa_bottom_up.proofs.Growing.{begins_before}
use Rattle.heap_graph.specs.Escaping.{Escapes}
use Rattle.heap_graph.specs.Closed.{Family, graph_of}
use Rattle.heap_graph.specs.declared.frozen.FunctionNames.{FunctionNames}
use Rattle.heap_graph.specs.declared.frozen.FrozenGraph.{FrozenGraph}
use Rattle.heap_graph.specs.declared.program.FunctionGraph.{FunctionGraph}
use Rattle.heap_graph.specs.declared.program.ProgramGraphs.{ProgramGraphs}
use Rattle.heap_graph.specs.Shows.{ShowsGraph, ShowsNames}
use Rattle.heap_graph.specs.declared.marks.NodeMarks.{NodeMarks}
use Rattle.heap_graph.specs.Marks.{is_marked}
use Rattle.call_graph.specs.declared.lists.SharedLists.{SharedLists}
use Rattle.call_graph.specs.Lists.{rows_in}
use Rattle.dsa_inlining.specs.declared.live.LiveTargets.{LiveTargets}
use Rattle.dsa_inlining.specs.Before.{Rises, is_some_list, is_listed}
use Rattle.dsa_inlining.specs.Live.{IsOnce, AddsMembers}
use Rattle.dsa_inlining.proofs.LiveRows.{lives_none, lives_more}
use Rattle.dsa_bottom_up.specs.AssembledGroups.Making.{IsGrouped, BeginsWith, IsMaking, ListsEscaping, AddsGroup}
use Rattle.dsa_bottom_up.specs.LeastGraphs.Making.{AreLeast}
use Rattle.dsa_bottom_up.proofs.Adding.{IsBegun, least_grows}
use Rattle.dsa_bottom_up.specs.Bare.{AreBare}
use Rattle.dsa_bottom_up.proofs.AllBare.{bare_grows}
use Rattle.dsa_bottom_up.specs.declared.making.Making.{Making}
use Rattle.dsa_inlining.specs.declared.told_statics.GroupStatics.{GroupStatics}
use Rattle.dsa_inlining.specs.GroupStatics.Groups.{IsTold, HaveStatics}
use Rattle.dsa_bottom_up.specs.Making.{made_in, IsEmpty, AreKeptBelow, AreApart, KeepsOne, KeepsMembers}
use Rattle.dsa_bottom_up.proofs.KeptStatics.{statics_added}

-- ---- marks that are set

-- the places of a list's marks that are set, from a number on
abbrev pub marked_from : ℕ → List Bool → List ℕ
marked_from number [] = []
marked_from number (true ∷ marks) = number ∷ marked_from (suc number) marks
marked_from number (false ∷ marks) = marked_from (suc number) marks

later : (first : ℕ) (numbers : List ℕ) (number : ℕ) → Contains numbers number → Contains (first ∷ numbers) number
later first numbers number found = let less = found.1 in (suc found.0, omega arith, found.2)

cases_first : (first : ℕ) (numbers : List ℕ) (number : ℕ) → Contains (first ∷ numbers) number → (first ≡ number) ⊎ Contains numbers number
cases_first first numbers number found = by found.0 found.1 found.2
  where
    by : (place : ℕ) → place < length (first ∷ numbers) → get_or (first ∷ numbers) place number ≡ number → (first ≡ number) ⊎ Contains numbers number
    by zero less is = inl is
    by (suc place) less is = inr (place, omega arith, is)

set_listed : (number : ℕ) (marks : List Bool) (place : ℕ) → get_or marks place false ≡ true → Contains (marked_from number marks) (number + place)
set_listed number [] zero is = absurd (false≢true is)
set_listed number [] (suc place) is = absurd (false≢true is)
set_listed number (true ∷ marks) zero is = (0, omega arith, omega arith)
set_listed number (true ∷ marks) (suc place) is =
    later number (marked_from (suc number) marks) (number + suc place) (subst (Contains (marked_from (suc number) marks)) (omega arith) (set_listed (suc number) marks place is))
set_listed number (false ∷ marks) zero is = absurd (false≢true is)
set_listed number (false ∷ marks) (suc place) is = subst (Contains (marked_from (suc number) marks)) (omega arith) (set_listed (suc number) marks place is)

-- a number that is listed is one of a mark that is set
set_next : (first : ℕ) (mark : Bool) (marks : List Bool) (number : ℕ) → (place : ℕ) × (suc first + place ≡ number) × (get_or marks place false ≡ true) → (place : ℕ) × (first + place ≡ number) × (get_or (mark ∷ marks) place false ≡ true)
set_next first mark marks number found = let is = found.1 in (suc found.0, omega (arith, is), found.2)

listed_set : (first : ℕ) (marks : List Bool) (number : ℕ) → Contains (marked_from first marks) number → (place : ℕ) × (first + place ≡ number) × (get_or marks place false ≡ true)
listed_set first [] number found = let less = found.1 in absurd (omega (arith, less))
listed_set first (true ∷ marks) number found = elim (cases_first first (marked_from (suc first) marks) number found) [
  | inl is ↦ (0, omega (arith, is), refl)
  | inr others ↦ set_next first true marks number (listed_set (suc first) marks number others)
]
listed_set first (false ∷ marks) number found = set_next first false marks number (listed_set (suc first) marks number found)

rises_first : (first : ℕ) (numbers : List ℕ) → ((number : ℕ) → Contains numbers number → first < number) → Rises numbers → Rises (first ∷ numbers)
rises_first first [] greater rises = tt
rises_first first (next ∷ numbers) greater rises = (greater next (0, omega arith, refl), rises)

marked_rises : (first : ℕ) (marks : List Bool) → Rises (marked_from first marks)
marked_rises first [] = tt
marked_rises first (true ∷ marks) =
    rises_first first (marked_from (suc first) marks)
    (λ number found. let its = listed_set (suc first) marks number found in let is = its.1 in omega (arith, is))
    (marked_rises (suc first) marks)
marked_rises first (false ∷ marks) = marked_rises (suc first) marks

set_within : (marks : List Bool) (place : ℕ) → get_or marks place false ≡ true → place < length marks
set_within [] zero is = absurd (false≢true is)
set_within [] (suc place) is = absurd (false≢true is)
set_within (mark ∷ marks) zero is = omega arith
set_within (mark ∷ marks) (suc place) is = let less = set_within marks place is in omega (arith, less)

-- those that are marked are listed
pub marked_listed : (tac : memory_tac.Tac) (called : ℕ) (graph : FrozenGraph) (names : FunctionNames) (marks : NodeMarks) (numbers : List ℕ) → numbers ≡ marked_from 0 marks.marks.items → length marks.marks.items ≡ length graph.nodes.items
    → ((family : Family) → ShowsGraph tac.types family (InFunction called) graph → ShowsNames family (InFunction called) names → (number : ℕ) → number < length graph.nodes.items
    → (is_marked marks number ≡ true) ↔ Escapes (graph_of family (InFunction called)) (InFunction called) number)
    → ListsEscaping tac called graph names numbers
marked_listed tac called graph names marks numbers is size escapes = record {
  marks = marks;
  listed = λ number. (
    (λ its. subst (λ l. Contains l number) (sym is) (subst (Contains (marked_from 0 marks.marks.items)) (omega arith) (set_listed 0 marks.marks.items number its))),
    (λ found. (at number found).1),
  );
  rises = subst Rises (sym is) (marked_rises 0 marks.marks.items);
  within = λ number found. let less = (at number found).0 in omega (arith, less, size);
  escapes = escapes;
}
  where
    at : (number : ℕ) → Contains numbers number → (number < length marks.marks.items) × (is_marked marks number ≡ true)
    at number found =
        let its = listed_set 0 marks.marks.items number (subst (λ l. Contains l number) is found) in
        let same : its.0 ≡ number = let e = its.1 in omega (arith, e) in
        (subst (λ n. n < length marks.marks.items) same (set_within marks.marks.items its.0 its.2), subst (λ n. get_or marks.marks.items n false ≡ true) same its.2)

no_more : (numbers : List ℕ) → numbers ++ [] ≡ numbers
no_more [] = refl
no_more (number ∷ numbers) = ap (λ l. number ∷ l) (no_more numbers)

-- all are listed behind the last mark
pub marked_all : (numbers : List ℕ) (number : ℕ) (marks : List Bool) → length marks ≤ number → numbers ++ marked_from number (drop number marks) ≡ marked_from 0 marks → numbers ≡ marked_from 0 marks
marked_all numbers number marks past is = sym (no_more numbers) ∙ (sym (at_drop_all (λ l. numbers ++ marked_from number l) marks number past) ∙ is)

-- ---- one function

-- a function's row and list, where the others stay
pub keeps_one : (old : Making) (member : ℕ) (graph : FrozenGraph) (own : FunctionGraph) (escaping : SharedLists) (numbers : List ℕ) → member < length old.functions.items → length (rows_in old.escaping) ≡ length old.functions.items
    → rows_in escaping ≡ set (rows_in old.escaping) member numbers → ((tac : memory_tac.Tac) (called : ℕ) → ListsEscaping tac called graph own.names numbers)
    → KeepsOne old (record { graphs = old.graphs; functions = with_item old.functions member own; escaping = escaping; live = old.live; statics = old.statics; start = old.start; start_function = old.start_function }) member graph own
keeps_one old member graph own escaping numbers within lists is listed = record {
  graphs = refl;
  statics = refl;
  live = refl;
  size = length-set old.functions.items member own;
  own' = set_same old.functions.items member own within;
  others = λ number other. set_other old.functions.items member number own other;
  lists = ap length is ∙ length-set (rows_in old.escaping) member numbers;
  same_lists = λ number other. ap (λ l. slice_get l number) is ∙ set_other (rows_in old.escaping) member number numbers other;
  listed = λ tac. (
    numbers,
    ap (λ l. slice_get l member) is ∙ set_same (rows_in old.escaping) member numbers (omega (arith, within, lists)),
    listed tac member,
  );
}

-- ---- one function more

-- so it is for the first of a group
pub record KeepsSome (old new : Making) (members : List FunctionId) (graph : FrozenGraph) (functions : List FunctionGraph) (count : ℕ) : Type 0 where
  pub graphs : new.graphs ≡ old.graphs
  pub statics : new.statics ≡ old.statics
  pub live : new.live ≡ old.live
  pub size : length new.functions.items ≡ length old.functions.items
  pub own' : (place : ℕ) (member : FunctionId) → place < count → slice_get members place ≡ Some member → slice_get new.functions.items member.0 ≡ slice_get functions place
  pub others : (number : ℕ) → ((place : ℕ) (member : FunctionId) → place < count → slice_get members place ≡ Some member → member.0 ≡ number → ⊥) → slice_get new.functions.items number ≡ slice_get old.functions.items number
  pub lists : length (rows_in new.escaping) ≡ length (rows_in old.escaping)
  pub same_lists : (number : ℕ) → ((place : ℕ) (member : FunctionId) → place < count → slice_get members place ≡ Some member → member.0 ≡ number → ⊥) → slice_get (rows_in new.escaping) number ≡ slice_get (rows_in old.escaping) number
  pub listed : (tac : memory_tac.Tac) (place : ℕ) (member : FunctionId) (own : FunctionGraph) → place < count → slice_get members place ≡ Some member → slice_get functions place ≡ Some own
      → (numbers : List ℕ) × (slice_get (rows_in new.escaping) member.0 ≡ Some numbers) × ListsEscaping tac member.0 graph own.names numbers

pub keeps_none : (old : Making) (members : List FunctionId) (graph : FrozenGraph) (functions : List FunctionGraph) → KeepsSome old old members graph functions 0
keeps_none old members graph functions = record {
  graphs = refl;
  statics = refl;
  live = refl;
  size = refl;
  own' = λ place member less. absurd (omega (arith, less));
  others = λ number other. refl;
  lists = refl;
  same_lists = λ number other. refl;
  listed = λ tac place member own less. absurd (omega (arith, less));
}

module _ (old mid new : Making) (members : List FunctionId) (graph : FrozenGraph) (functions : List FunctionGraph) (count : ℕ) (member : FunctionId) (own : FunctionGraph) (apart : AreApart members)
    (some : KeepsSome old mid members graph functions count) (one : KeepsOne mid new member.0 graph own) (at : slice_get members count ≡ Some member) (is : slice_get functions count ≡ Some own) where
  earlier : (place : ℕ) (other : FunctionId) → place < count → slice_get members place ≡ Some other → other.0 ≡ member.0 → ⊥
  earlier place other less there same = let e = apart place count other member there at same in omega (arith, less, e)

  own_more : (place : ℕ) (other : FunctionId) → place < suc count → slice_get members place ≡ Some other → slice_get new.functions.items other.0 ≡ slice_get functions place
  own_more place other less there = elim (cases_lt place count) [
    | inl lt ↦ one.others other.0 (earlier place other lt there) ∙ some.own' place other lt there
    | inr le ↦
        let same : count ≡ place = omega (arith, less, le) in
        let its : member ≡ other = same_Some member other (sym at ∙ (ap (λ n. slice_get members n) same ∙ there)) in
        ap (λ (f : FunctionId). slice_get new.functions.items f.0) (sym its) ∙ (one.own' ∙ (sym is ∙ ap (λ n. slice_get functions n) same))
  ]

  listed_more : (tac : memory_tac.Tac) (place : ℕ) (other : FunctionId) (function : FunctionGraph) → place < suc count → slice_get members place ≡ Some other → slice_get functions place ≡ Some function
      → (numbers : List ℕ) × (slice_get (rows_in new.escaping) other.0 ≡ Some numbers) × ListsEscaping tac other.0 graph function.names numbers
  listed_more tac place other function less there told = elim (cases_lt place count) [
    | inl lt ↦ let was = some.listed tac place other function lt there told in (was.0, one.same_lists other.0 (earlier place other lt there) ∙ was.1, was.2)
    | inr le ↦
        let same : count ≡ place = omega (arith, less, le) in
        let its : member ≡ other = same_Some member other (sym at ∙ (ap (λ n. slice_get members n) same ∙ there)) in
        let mine : own ≡ function = same_Some own function (sym is ∙ (ap (λ n. slice_get functions n) same ∙ told)) in
        let now = one.listed tac in (
          now.0,
          ap (λ (f : FunctionId). slice_get (rows_in new.escaping) f.0) (sym its) ∙ now.1,
          subst (λ (f : FunctionId). ListsEscaping tac f.0 graph function.names now.0) its (subst (λ (f : FunctionGraph). ListsEscaping tac member.0 graph f.names now.0) mine now.2),
        )
  ]

  pub keeps_more : KeepsSome old new members graph functions (suc count)
  keeps_more = record {
    graphs = one.graphs ∙ some.graphs;
    statics = one.statics ∙ some.statics;
    live = one.live ∙ some.live;
    size = one.size ∙ some.size;
    own' = own_more;
    others = λ number other. one.others number (λ same. other count member (omega arith) at (sym same)) ∙ some.others number (λ place f less. other place f (omega (arith, less)));
    lists = one.lists ∙ some.lists;
    same_lists = λ number other. one.same_lists number (λ same. other count member (omega arith) at (sym same)) ∙ some.same_lists number (λ place f less. other place f (omega (arith, less)));
    listed = listed_more;
  }

-- with other functions from which something escapes
abbrev pub with_live : Making → LiveTargets → Making
with_live making live = record { graphs = making.graphs; functions = making.functions; escaping = making.escaping; live = live; statics = making.statics; start = making.start; start_function = making.start_function }

-- that is all where there is no other, and those from which something escapes are added
pub keeps_all : (old new : Making) (live : LiveTargets) (members : List FunctionId) (graph : FrozenGraph) (functions : List FunctionGraph) (count : ℕ) → length functions ≡ length members → length functions ≡ count
    → AddsMembers (rows_in new.escaping) (numbers_of members) new.live live → KeepsSome old new members graph functions count → KeepsMembers old (with_live new live) members graph functions
keeps_all old new live members graph functions count size all adds some = record {
  graphs = some.graphs;
  statics = some.statics;
  live = subst (λ l. AddsMembers (rows_in new.escaping) (numbers_of members) l live) some.live adds;
  size = some.size;
  own = λ place member at. some.own' place member (less place member at) at;
  others = λ number other. some.others number (λ place member lt. other place member);
  lists = some.lists;
  same_lists = λ number other. some.same_lists number (λ place member lt. other place member);
  listed = λ tac place member own at. some.listed tac place member own (less place member at) at;
}
  where
    less : (place : ℕ) (member : FunctionId) → slice_get members place ≡ Some member → place < count
    less place member at = let within = slice_get_within members place member at in omega (arith, within, size, all)

-- ---- members of a group

pub all_some : {X : Type 0} (P : X → Type 0) (xs : List X) → ((place : ℕ) (x : X) → slice_get xs place ≡ Some x → P x) → All P xs
all_some P xs each = λ place other less. each place (get_or xs place other) (slice_get-get_or xs place other less)

rising : (first : ℕ) (members : List FunctionId) → IsAscending (first ∷ numbers_of members) → (place : ℕ) (member : FunctionId) → slice_get members place ≡ Some member → first < member.0
rising first [] ascends place member at = absurd (none-some member at)
rising first (next ∷ members) ascends zero member at = subst (λ (f : FunctionId). first < f.0) (same_Some next member at) ascends.0
rising first (next ∷ members) ascends (suc place) member at =
    let less : first < next.0 = ascends.0 in
    let more : next.0 < member.0 = rising next.0 members ascends.1 place member at in
    omega (arith, less, more)

ascends_rising : (members : List FunctionId) → IsAscending (numbers_of members) → (a b : ℕ) (one other : FunctionId) → a < b → slice_get members a ≡ Some one → slice_get members b ≡ Some other → one.0 < other.0
ascends_rising [] ascends a b one other less at there = absurd ascends
ascends_rising (first ∷ members) ascends a zero one other less at there = absurd (omega (arith, less))
ascends_rising (first ∷ members) ascends zero (suc b) one other less at there = subst (λ (f : FunctionId). f.0 < other.0) (same_Some first one at) (rising first.0 members ascends b other there)
ascends_rising (first ∷ []) ascends (suc a) (suc b) one other less at there = absurd (none-some one at)
ascends_rising (first ∷ next ∷ members) ascends (suc a) (suc b) one other less at there = ascends_rising (next ∷ members) ascends.1 a b one other (omega (arith, less)) at there

-- those that rise stand once each
ascends_apart : (members : List FunctionId) → IsAscending (numbers_of members) → AreApart members
ascends_apart members ascends a b one other at there same = elim (cases_lt a b) [
  | inl less ↦ let more = ascends_rising members ascends a b one other less at there in absurd (omega (arith, more, same))
  | inr past ↦ elim (cases_lt b a) [
    | inl less ↦ let more = ascends_rising members ascends b a other one less there at in absurd (omega (arith, more, same))
    | inr before ↦ omega (arith, past, before)
  ]
]

above : (first : ℕ) (numbers : List ℕ) → IsAscending (first ∷ numbers) → (number : ℕ) → Has numbers number → first < number
above first [] ascends number has = absurd has
above first (next ∷ numbers) ascends number (inl same) = let less : first < next = ascends.0 in omega (arith, less, same)
above first (next ∷ numbers) ascends number (inr has) =
    let less : first < next = ascends.0 in
    let more : next < number = above next numbers ascends.1 number has in
    omega (arith, less, more)

ascends_once : (numbers : List ℕ) → IsAscending numbers → IsOnce numbers
ascends_once [] ascends = absurd ascends
ascends_once (last ∷ []) ascends = ((λ has. has), tt)
ascends_once (first ∷ next ∷ others) ascends = ((λ has. let less = above first (next ∷ others) ascends first has in omega (arith, less)), ascends_once (next ∷ others) ascends.1)

owners_same : (members : List FunctionId) → local.owners_in (numbers_of members) ≡ owners_in (map Some members)
owners_same [] = refl
owners_same (member ∷ members) = ap (λ l. InFunction member.0 ∷ l) (owners_same members)

module _ (tac : memory_tac.Tac) (groups : Groups) (number : ℕ) (members : List FunctionId) (grouped : IsGrouped tac groups) (row : slice_get (groups_of groups) number ≡ Some (numbers_of members)) where
  member_within : (place : ℕ) (member : FunctionId) → slice_get members place ≡ Some member → member.0 < length tac.functions.items
  member_within place member at =
      let less = listed_within tac groups grouped number member.0 (numbers_of members) row (member_listed members place member at) in
      let long = length-map tac.functions.items (function_in tac.types) in
      omega (arith, less, long)

  pub members_are : All (IsFunctionOf tac) (map Some members)
  members_are = all_some (IsFunctionOf tac) (map Some members)
      (λ place owner there. let its = member_owner members place owner there in subst (IsFunctionOf tac) (sym its.2) (member_within place its.0 its.1))

  pub members_apart : AreApart members
  members_apart = let place = stands (groups_of groups) number (numbers_of members) row in ascends_apart members (grouped.groups.ascending place.before place.after (numbers_of members) place.is)

  pub owners_are : local.owners_at (groups_of groups) number ≡ owners_in (map Some members)
  owners_are = ap local.owners_in (get_or_from_slice_get (groups_of groups) number (numbers_of members) [] row) ∙ owners_same members

  pub members_below : (old : Making) → IsMaking (made_in tac groups old) number → All (λ (member : FunctionId). member.0 < length old.functions.items) members
  members_below old making =
      all_some (λ (member : FunctionId). member.0 < length old.functions.items) members
      (λ place member at. let less = member_within place member at in let long = making.functions in omega (arith, less, long))

  member_has : (called place : ℕ) (member : FunctionId) → slice_get members place ≡ Some member → member.0 ≡ called → Has (numbers_of members) called
  member_has called place member at same = has_at (numbers_of members) place called (slice_get-map (λ (f : FunctionId). f.0) members place ∙ (ap (option_map (λ (f : FunctionId). f.0)) at ∙ ap Some same))

  member_group : (called place : ℕ) (member : FunctionId) → slice_get members place ≡ Some member → member.0 ≡ called → slice_get groups.group_of.items called ≡ Some number
  member_group called place member at same =
      ap (slice_get groups.group_of.items) (sym same)
      ∙ inside_noted groups number member.0 (listed_inside tac groups grouped number member.0 (numbers_of members) row (member_listed members place member at))

  has_group : (called : ℕ) → Has (numbers_of members) called → slice_get groups.group_of.items called ≡ Some number
  has_group called has =
      let there = at_has (numbers_of members) called has in
      by there.0 (slice_get members there.0) refl (sym (slice_get-map (λ (f : FunctionId). f.0) members there.0) ∙ there.1)
    where
      by : (place : ℕ) (found : Option FunctionId) → slice_get members place ≡ found → option_map (λ (f : FunctionId). f.0) found ≡ Some called → slice_get groups.group_of.items called ≡ Some number
      by place None at same = absurd (none-some called same)
      by place (Some member) at same = member_group called place member at (same_Some member.0 called same)

  -- the graphs of the groups with one more
  abbrev pub with_graphs : Making → Vec GroupStatics Global → Vec FrozenGraph Global → Making
  with_graphs mid statics graphs = record { graphs = graphs; functions = mid.functions; escaping = mid.escaping; live = mid.live; statics = statics; start = mid.start; start_function = mid.start_function }

  -- no node escapes the functions of the group before, and none those of later groups still
  pub kept_added : (old mid : Making) (statics : Vec GroupStatics Global) (graphs : Vec FrozenGraph Global) (graph : FrozenGraph) (functions : List FunctionGraph) (its : GroupStatics) → AreKeptBelow (made_in tac groups old) number
      → KeepsMembers old mid members graph functions → statics.items ≡ mid.statics.items ++ its ∷ [] → graphs.items ≡ mid.graphs.items ++ graph ∷ [] → IsTold tac.types old.graphs.items (length old.graphs.items) graph its
      → AreKeptBelow (made_in tac groups (with_graphs mid statics graphs)) (suc number)
  kept_added old mid statics graphs graph functions its below keeps one_more pushed told = record {
    live =
        lives_more tac (rows_in old.escaping) (rows_in mid.escaping) (numbers_of members) old.live mid.live below.live keeps.live
        (λ called apart. keeps.same_lists called (λ place member at same. apart (member_has called place member at same)))
        (λ called has. below.below called number (has_group called has) (omega arith)) once;
    below = λ called group of later.
        ap is_some_list
        (keeps.same_lists called
        (λ place member at same.
        let its : number ≡ group = same_Some number group (sym (member_group called place member at same) ∙ of) in
        omega (arith, later, its)))
        ∙ below.below called group of (omega (arith, later));
    many =
        let long = length-append old.statics.items (its ∷ []) in
        let most = length-append old.graphs.items (graph ∷ []) in
        let same = below.many in
        let now = ap length all_statics in
        let then = ap length all_graphs in
        omega (arith, long, most, same, now, then);
    statics =
        subst (HaveStatics tac.types graphs.items) (sym all_statics)
        (subst (λ gs. HaveStatics tac.types gs (old.statics.items ++ its ∷ [])) (sym all_graphs) (statics_added tac.types old.graphs.items graph old.statics.items its below.many below.statics told));
  }
    where
      all_statics : statics.items ≡ old.statics.items ++ its ∷ []
      all_statics = one_more ∙ ap (λ (v : Vec GroupStatics Global). v.items ++ its ∷ []) keeps.statics

      all_graphs : graphs.items ≡ old.graphs.items ++ graph ∷ []
      all_graphs = pushed ∙ ap (λ (v : Vec FrozenGraph Global). v.items ++ graph ∷ []) keeps.graphs

      once : IsOnce (numbers_of members)
      once = let place = stands (groups_of groups) number (numbers_of members) row in ascends_once (numbers_of members) (grouped.groups.ascending place.before place.after (numbers_of members) place.is)

  -- with what is kept of the group it has its graph
  adds_group : (old mid : Making) (statics : Vec GroupStatics Global) (graphs : Vec FrozenGraph Global) (graph : FrozenGraph) (functions : List FunctionGraph) → KeepsMembers old mid members graph functions → graphs.items ≡ mid.graphs.items ++ graph ∷ []
      → AddsGroup (made_in tac groups old) (made_in tac groups (with_graphs mid statics graphs)) members graph functions
  adds_group old mid statics graphs graph functions keeps pushed = record {
    tac = refl;
    groups = refl;
    graphs = pushed ∙ ap (λ (v : Vec FrozenGraph Global). v.items ++ graph ∷ []) keeps.graphs;
    size = keeps.size;
    own = keeps.own;
    others = keeps.others;
    lists = keeps.lists;
    same_lists = keeps.same_lists;
    listed = keeps.listed tac;
  }

  pub group_added : (old mid : Making) (statics : Vec GroupStatics Global) (graphs : Vec FrozenGraph Global) (begun : Graph) (graph : FrozenGraph) (functions : List FunctionGraph) → IsMaking (made_in tac groups old) number
      → IsAssembled (made_in tac groups old) (Some number) (map Some members) begun graph functions → KeepsMembers old mid members graph functions → graphs.items ≡ mid.graphs.items ++ graph ∷ []
      → IsMaking (made_in tac groups (with_graphs mid statics graphs)) (suc number)
  group_added old mid statics graphs begun graph functions making assembled keeps pushed =
      whole.group_added (made_in tac groups old) number members begun graph functions grouped making row assembled (made_in tac groups (with_graphs mid statics graphs)) (adds_group old mid statics graphs graph functions keeps pushed)

  -- so the groups so far are mapped to each other closed family
  pub least_added : (old mid : Making) (statics : Vec GroupStatics Global) (graphs : Vec FrozenGraph Global) (begun : Graph) (graph : FrozenGraph) (functions : List FunctionGraph) → (tac_of tac).start.parameters ≡ 0 → IsMaking (made_in tac groups old) number
      → IsAssembled (made_in tac groups old) (Some number) (map Some members) begun graph functions → IsBegun (made_in tac groups old) (Some number) (map Some members) begun
      → KeepsMembers old mid members graph functions → graphs.items ≡ mid.graphs.items ++ graph ∷ [] → AreLeast (made_in tac groups old) number → AreLeast (made_in tac groups (with_graphs mid statics graphs)) (suc number)
  least_added old mid statics graphs begun graph functions start making assembled begins_so keeps pushed =
      least_grows (made_in tac groups old) start grouped number making begun graph functions members row assembled begins_so (made_in tac groups (with_graphs mid statics graphs)) (adds_group old mid statics graphs graph functions keeps pushed)

  -- and no flag of theirs can be taken away
  pub bare_added : (old mid : Making) (statics : Vec GroupStatics Global) (graphs : Vec FrozenGraph Global) (begun : Graph) (graph : FrozenGraph) (functions : List FunctionGraph) → (tac_of tac).start.parameters ≡ 0 → IsMaking (made_in tac groups old) number
      → IsAssembled (made_in tac groups old) (Some number) (map Some members) begun graph functions → IsBegun (made_in tac groups old) (Some number) (map Some members) begun
      → KeepsMembers old mid members graph functions → graphs.items ≡ mid.graphs.items ++ graph ∷ [] → AreLeast (made_in tac groups old) number → AreBare (made_in tac groups old) number
      → AreBare (made_in tac groups (with_graphs mid statics graphs)) (suc number)
  bare_added old mid statics graphs begun graph functions start making assembled begins_so keeps pushed =
      bare_grows (made_in tac groups old) start grouped number making begun graph functions members row assembled begins_so (made_in tac groups (with_graphs mid statics graphs)) (adds_group old mid statics graphs graph functions keeps pushed)
      (group_added old mid statics graphs begun graph functions making assembled keeps pushed)

  -- graphs that begin with those begin with the ones before
  pub begins_still : (old mid : Making) (statics : Vec GroupStatics Global) (graphs : Vec FrozenGraph Global) (graph : FrozenGraph) (functions : List FunctionGraph) → IsMaking (made_in tac groups old) number → KeepsMembers old mid members graph functions
      → graphs.items ≡ mid.graphs.items ++ graph ∷ [] → (all : ProgramGraphs) → BeginsWith (made_in tac groups (with_graphs mid statics graphs)) (suc number) all → BeginsWith (made_in tac groups old) number all
  begins_still old mid statics graphs graph functions making keeps pushed =
      begins_before (made_in tac groups old) (made_in tac groups (with_graphs mid statics graphs)) number members graph functions grouped row making.graphs (adds_group old mid statics graphs graph functions keeps pushed)

-- nothing escapes functions whose lists are empty
pub none_listed : (count called : ℕ) → is_listed (replicate count []) called ≡ false
none_listed zero called = refl
none_listed (suc count) zero = refl
none_listed (suc count) (suc called) = none_listed count called

-- before all groups nothing escapes any function, and nothing is told
pub kept_begins : (tac : memory_tac.Tac) (groups : Groups) (making : Making) → IsEmpty tac making → AreKeptBelow (made_in tac groups making) 0
kept_begins tac groups making empty = record {
  live = lives_none tac (rows_in making.escaping) making.live empty.live empty.none;
  below = λ called group of from. empty.none called;
  many = ap length empty.statics ∙ sym (ap length empty.graphs);
  statics = λ number graph is. absurd (none-some graph (ap (λ gs. slice_get gs number) (sym empty.graphs) ∙ is));
}

-- ---- what is left of a list

pub next_of : {X : Type 0} (n : ℕ) (all rest : List X) (x : X) → x ∷ rest ≡ drop n all → (slice_get all n ≡ Some x) × (rest ≡ drop (suc n) all)
next_of zero [] rest x is = absurd (omega (arith, ap length is))
next_of (suc n) [] rest x is = absurd (omega (arith, ap length is))
next_of zero (y ∷ all) rest x is = (ap (λ l. slice_get l 0) (sym is), ap (drop 1) is)
next_of (suc n) (y ∷ all) rest x is = next_of n all rest x is
