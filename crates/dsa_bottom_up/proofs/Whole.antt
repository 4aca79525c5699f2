-- A group that was assembled is closed in each family that shows it and the groups before, and so is `start`.
use Rattle.std.proofs.Common.{◌≡◌, ℕ, suc, zero, true, false, List, [], ◌∷◌, length, map, Option, Some, None, refl, sym, ap, subst, ◌∙◌, eq-eqb}
use Rattle.std.specs.Prelude.{slice_get, ◌==◌, option_map}
use Rattle.std.proofs.lemmas.Option.{none-some, same_Some, slice_get-map}
use Rattle.tac_ir.specs.declared.register.FunctionId.{FunctionId}
use Rattle.call_graph.specs.ClassLists.{numbers_of}
use Rattle.call_graph.specs.declared.group_lists.Groups.{Groups}
use Rattle.call_graph.specs.GroupViews.{groups_of}
use Rattle.tac_ir.specs.declared.program.Tac as memory_tac
use Rattle.heap_graph.specs.Programs.{family_in}
use Rattle.tac_ir.proofs.Members.{any_at}
use Rattle.heap_graph.specs.Graphs.{Graph}
use Rattle.heap_graph.specs.Closed.{is_in, same_group, first_closed, Closed}
use Rattle.graph_unification.specs.Memory.{owner_of}
use Rattle.heap_graph.specs.declared.frozen.FrozenGraph.{FrozenGraph}
use Rattle.heap_graph.specs.declared.program.FunctionGraph.{FunctionGraph}
use Rattle.heap_graph.specs.declared.program.ProgramGraphs.{ProgramGraphs}
use Rattle.heap_graph.specs.Complete.{numbers}
use Rattle.heap_graph.specs.Faults.{GroupClosed, StartClosed}
use Rattle.dsa_bottom_up.specs.MadeGroups.Made.{AreClassesOne}
use Rattle.dsa_inlining.specs.Before.{GraphsBefore, is_inside, is_out}
use Rattle.dsa_bottom_up.specs.Assembled.{IsAssembled}
use Rattle.dsa_bottom_up.specs.AssembledGroups.Making.{IsGrouped, family_at, is_before, BeginsWith, IsMaking, AddsGroup}
use Rattle.dsa_bottom_up.specs.Shown.{function_in, ShowsReached, ShowsOwners}
use Rattle.dsa_bottom_up.proofs.Growing.{begins_before, begins_graph, begins_own, begins_shows, making_grows}
use Rattle.dsa_bottom_up.proofs.Ending.{making_ends}
use Rattle.dsa_bottom_up.proofs.Members.{listed_inside, apart_out, out_apart}
use Rattle.dsa_bottom_up.proofs.Crossing.{outer_are_closed, copies_are_images}
use Rattle.dsa_bottom_up.proofs.Closing.{HasGroup, owner_shown, group_closes}
use Rattle.dsa_bottom_up.proofs.Starting.{HasStart, start_owner_shown, start_closes}

-- ---- owners

-- an owner of a group is a member of it
pub member_owner : (members : List FunctionId) (place : ℕ) (owner : Option FunctionId) → slice_get (map Some members) place ≡ Some owner
    → (member : FunctionId) × (slice_get members place ≡ Some member) × (owner ≡ Some member)
member_owner members place owner is = by (slice_get members place) refl (sym (slice_get-map Some members place) ∙ is)
  where
    by : (found : Option FunctionId) → slice_get members place ≡ found → option_map Some found ≡ Some owner → (member : FunctionId) × (slice_get members place ≡ Some member) × (owner ≡ Some member)
    by None at same = absurd (none-some owner same)
    by (Some member) at same = (member, at, sym (same_Some (Some member) owner same))

pub member_listed : (members : List FunctionId) (place : ℕ) (member : FunctionId) → slice_get members place ≡ Some member → is_in member.0 (numbers members) ≡ true
member_listed members place member at =
    any_at (λ other. other == member.0) (numbers members) place member.0 (slice_get-map (λ (f : FunctionId). f.0) members place ∙ ap (option_map (λ (f : FunctionId). f.0)) at) (eq-eqb member.0 member.0 refl)

-- ---- a group

module _ (before : GraphsBefore) (number : ℕ) (members : List FunctionId) (begun : Graph) (graph : FrozenGraph) (functions : List FunctionGraph) (all : ProgramGraphs)
    (grouped : IsGrouped before.tac before.groups) (has : HasGroup before number members graph functions all)
    (assembled : IsAssembled before (Some number) (map Some members) begun graph functions) (reached : ShowsReached before all) where
  shows : ShowsOwners all (map Some members) functions
  shows place owner at =
      let its = member_owner members place owner at in
      subst (λ o. function_in all (owner_of o) ≡ slice_get functions place) (sym its.2) (has.own place its.0 its.1)

  owner_inside : (place : ℕ) (member : FunctionId) → slice_get members place ≡ Some member → is_inside before.groups (Some number) member.0 ≡ true
  owner_inside place member at = listed_inside before.tac before.groups grouped number member.0 (numbers members) has.group (member_listed members place member at)

  owner_apart : (place : ℕ) (owner : Option FunctionId) → slice_get (map Some members) place ≡ Some owner → (called : ℕ) → same_group (family_at before all) (owner_of owner) called ≡ false
      → is_out before.groups (Some number) called ≡ true
  owner_apart place owner at called apart =
      let its = member_owner members place owner at in
      apart_out before all grouped number its.0.0 called (owner_inside place its.0 its.1) (subst (λ o. same_group (family_at before all) (owner_of o) called ≡ false) its.2 apart)

  owner_out : (place : ℕ) (owner : Option FunctionId) → slice_get (map Some members) place ≡ Some owner → (called : ℕ) → is_out before.groups (Some number) called ≡ true
      → same_group (family_at before all) (owner_of owner) called ≡ false
  owner_out place owner at called out =
      let its = member_owner members place owner at in
      subst (λ o. same_group (family_at before all) (owner_of o) called ≡ false) (sym its.2) (out_apart before all grouped number its.0.0 called (owner_inside place its.0 its.1) out)

  -- the group is closed, and functions to which one call may come through a pointer are one
  pub group_stands : AreClassesOne (family_at before all) (is_before before.groups number)
      → GroupClosed (family_at before all) number × AreClassesOne (family_at before all) (is_inside before.groups (Some number))
  group_stands earlier =
      let owners = map Some members in
      group_closes before number members graph functions all grouped has begun assembled
      (λ place owner at.
      outer_are_closed before (Some number) owners begun graph functions assembled all shows reached (owner_shown before number members graph functions all grouped has) place owner at (owner_apart place owner at))
      (copies_are_images before (Some number) owners begun graph functions assembled all shows owner_out)
      earlier

-- ---- `start`

module _ (before : GraphsBefore) (begun : Graph) (graph : FrozenGraph) (own : FunctionGraph) (all : ProgramGraphs) (grouped : IsGrouped before.tac before.groups) (has : HasStart graph own all)
    (assembled : IsAssembled before None (None ∷ []) begun graph (own ∷ [])) (reached : ShowsReached before all) where
  start_shows : ShowsOwners all (None ∷ []) (own ∷ [])
  start_shows zero owner at = subst (λ o. function_in all (owner_of o) ≡ Some own) (same_Some None owner at) (ap Some has.function)
  start_shows (suc place) owner at = absurd (none-some owner at)

  alone : (place : ℕ) (owner : Option FunctionId) → slice_get (None ∷ []) place ≡ Some owner → owner ≡ None
  alone zero owner at = sym (same_Some None owner at)
  alone (suc place) owner at = absurd (none-some owner at)

  pub start_stands : first_closed (family_at before all) 0 (family_at before all).tac.globals ≡ true → StartClosed (family_at before all)
  start_stands first =
      start_closes before graph own all grouped has begun assembled first
      (outer_are_closed before None (None ∷ []) begun graph (own ∷ []) assembled all start_shows reached (start_owner_shown before graph own all grouped has) 0 None refl (λ called apart. refl))
      (copies_are_images before None (None ∷ []) begun graph (own ∷ []) assembled all start_shows
      (λ place owner at called out. subst (λ o. same_group (family_at before all) (owner_of o) called ≡ false) (sym (alone place owner at)) refl))

-- ---- group after group

module _ (before : GraphsBefore) (number : ℕ) (members : List FunctionId) (begun : Graph) (graph : FrozenGraph) (functions : List FunctionGraph) (grouped : IsGrouped before.tac before.groups)
    (making : IsMaking before number) (row : slice_get (groups_of before.groups) number ≡ Some (numbers_of members))
    (assembled : IsAssembled before (Some number) (map Some members) begun graph functions) (after : GraphsBefore) (adds : AddsGroup before after members graph functions) where
  closes : (all : ProgramGraphs) → BeginsWith after (suc number) all → GroupClosed (family_at before all) number × AreClassesOne (family_at before all) (is_inside before.groups (Some number))
  closes all begins =
      let earlier = begins_before before after number members graph functions grouped row making.graphs adds all begins in
      group_stands before number members begun graph functions all grouped
      (record {
        group = row;
        stored = begins_graph before after number members graph functions grouped row making.graphs adds all begins;
        own = begins_own before after number members graph functions grouped row making.graphs adds all begins;
        each = earlier.functions;
      })
      assembled (begins_shows before number all grouped making earlier) (making.classes all earlier)

  -- with a group that was assembled one group more has its graph
  pub group_added : IsMaking after (suc number)
  group_added =
      making_grows before after number members begun graph functions grouped making row assembled adds
      (λ all begins. (moved all (closes all begins).0 adds.tac adds.groups, classes_moved all (closes all begins).1 adds.tac adds.groups))
    where
      moved : (all : ProgramGraphs) → GroupClosed (family_at before all) number → after.tac ≡ before.tac → after.groups ≡ before.groups → GroupClosed (family_at after all) number
      moved all closed tac groups = subst (λ family. GroupClosed family number) (sym (λ i. family_in (tac i) (groups_of (groups i)) all)) closed

      classes_moved : (all : ProgramGraphs) → AreClassesOne (family_at before all) (is_inside before.groups (Some number)) → after.tac ≡ before.tac → after.groups ≡ before.groups
          → AreClassesOne (family_at after all) (is_inside after.groups (Some number))
      classes_moved all classes tac groups =
          subst (λ (both : memory_tac.Tac × Groups). AreClassesOne (family_in both.0 (groups_of both.1) all) (is_inside both.1 (Some number))) (sym (λ i. (tac i, groups i))) classes

-- Where all groups have their graphs, and `start` its, the graphs of the program are closed.
pub program_closes : (before : GraphsBefore) (begun : Graph) (graph : FrozenGraph) (own : FunctionGraph) (all : ProgramGraphs) → IsGrouped before.tac before.groups → IsMaking before (length (groups_of before.groups))
    → BeginsWith before (length (groups_of before.groups)) all → HasStart graph own all → IsAssembled before None (None ∷ []) begun graph (own ∷ [])
    → first_closed (family_at before all) 0 (family_at before all).tac.globals ≡ true → Closed (family_at before all)
program_closes before begun graph own all grouped making begins has assembled first =
    making_ends before all grouped making begins
    (start_stands before begun graph own all grouped has assembled (begins_shows before (length (groups_of before.groups)) all grouped making begins) first)
