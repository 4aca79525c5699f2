-- No flag can be taken away from the graphs of a program that were made group after group: so they are the least.
use Rattle.std.proofs.Common.{◌≡◌, ℕ, suc, inl, inr, List, [], ◌∷◌, length, map, Option, Some, None, refl, sym, subst, ◌∙◌, arith}
use Rattle.std.specs.Prelude.{slice_get}
use Rattle.std.proofs.lemmas.Bool.{cases_lt}
use Rattle.std.proofs.lemmas.Option.{none-some}
use Rattle.tac_ir.specs.declared.register.FunctionId.{FunctionId}
use Rattle.tac_ir.specs.Views.{tac_of}
use Rattle.call_graph.specs.ClassLists.{numbers_of}
use Rattle.heap_graph.specs.Graphs.{Graph}
use Rattle.heap_graph.specs.Closed.{Closed}
use Rattle.heap_graph.specs.Least.{Least}
use Rattle.heap_graph.specs.declared.frozen.FrozenGraph.{FrozenGraph}
use Rattle.heap_graph.specs.declared.program.FunctionGraph.{FunctionGraph}
use Rattle.heap_graph.specs.declared.program.ProgramGraphs as memory_graphs
use Rattle.heap_graph.proofs.GroupNumbers.{stands, is_then_in}
use Rattle.call_graph.specs.GroupViews.{groups_of}
use Rattle.heap_graph.specs.Complete.{numbers}
use Rattle.dsa_inlining.specs.declared.told_statics.GroupStatics.{GroupStatics}
use Rattle.dsa_inlining.specs.declared.live.LiveTargets.{LiveTargets}
use Rattle.dsa_inlining.specs.Before.{GraphsBefore}
use Rattle.dsa_bottom_up.specs.Assembled.{IsAssembled}
use Rattle.dsa_bottom_up.specs.AssembledGroups.Making.{IsGrouped, family_at, BeginsWith, IsMaking, AddsGroup}
use Rattle.dsa_bottom_up.proofs.Growing.{begins_before, begins_graph, begins_own}
use Rattle.dsa_bottom_up.proofs.Closing.{HasGroup}
use Rattle.dsa_bottom_up.proofs.Starting.{HasStart}
use Rattle.dsa_bottom_up.specs.LeastGraphs.Making.{AreLeast}
use Rattle.dsa_bottom_up.proofs.Adding.{IsBegun}
use Rattle.dsa_bottom_up.proofs.StartGraph.{IsStartBegun}
use Rattle.dsa_bottom_up.proofs.Smallest.{past_graphs, program_smallest}
use Rattle.dsa_bottom_up.specs.Bare.{IsBareAt, AreBare}
use Rattle.dsa_bottom_up.proofs.GroupBare.{group_bare}
use Rattle.dsa_bottom_up.proofs.StartBare.{start_bare}

-- ---- group after group

abbrev with_lists : GraphsBefore → List FrozenGraph → List FunctionGraph → List (List ℕ) → LiveTargets → List GroupStatics → GraphsBefore
with_lists before graphs functions escaping live statics = record { tac = before.tac; groups = before.groups; graphs = graphs; functions = functions; escaping = escaping; live = live; statics = statics }

module _ (before : GraphsBefore) (start : (tac_of before.tac).start.parameters ≡ 0) (grouped : IsGrouped before.tac before.groups) (number : ℕ) (making : IsMaking before number) (begun : Graph) (graph : FrozenGraph)
    (functions : List FunctionGraph) where
  -- each group has a function
  some_function : slice_get (groups_of before.groups) number ≡ Some [] → ⊥
  some_function row = let at = stands (groups_of before.groups) number [] row in grouped.groups.ascending at.before at.after [] at.is

  module _ (least : AreLeast before number) (bare : AreBare before number) (graphs : List FrozenGraph) (known : List FunctionGraph) (escaping : List (List ℕ)) (live : LiveTargets) (statics : List GroupStatics) where
    abbrev after : GraphsBefore
    after = with_lists before graphs known escaping live statics

    grows : (members : List FunctionId) → slice_get (groups_of before.groups) number ≡ Some (numbers_of members) → IsAssembled before (Some number) (map Some members) begun graph functions
        → IsBegun before (Some number) (map Some members) begun → AddsGroup before after members graph functions → IsMaking after (suc number) → (all : memory_graphs.ProgramGraphs) → BeginsWith after (suc number) all
        → IsBareAt (family_at before all) (Some number)
    grows [] row assembled begins_so adds grown all begins = absurd (some_function row)
    grows (first ∷ rest) row assembled begins_so adds grown all begins =
        let members = first ∷ rest in
        let earlier = begins_before before after number members graph functions grouped row making.graphs adds all begins in
        let has : HasGroup before number members graph functions all = record {
          group = row;
          stored = begins_graph before after number members graph functions grouped row making.graphs adds all begins;
          own = begins_own before after number members graph functions grouped row making.graphs adds all begins;
          each = earlier.functions;
        } in
        group_bare before start grouped number making first rest row begun graph functions assembled begins_so.leads begins_so.copies all earlier has least
        ((grown.closed all begins number (omega arith)).graph first.0 (numbers members) row (is_then_in first.0 (numbers members) (inl refl)))

    all_grow : (members : List FunctionId) → slice_get (groups_of before.groups) number ≡ Some (numbers_of members) → IsAssembled before (Some number) (map Some members) begun graph functions
        → IsBegun before (Some number) (map Some members) begun → AddsGroup before after members graph functions → IsMaking after (suc number) → AreBare after (suc number)
    all_grow members row assembled begins_so adds grown all begins at less =
        elim (cases_lt at number) [
          | inl lt ↦ bare all (begins_before before after number members graph functions grouped row making.graphs adds all begins) at lt
          | inr le ↦ let same : number ≡ at = omega (arith, less, le) in subst (λ n. IsBareAt (family_at before all) (Some n)) same (grows members row assembled begins_so adds grown all begins)
        ]

  pub bare_grows : (members : List FunctionId) → slice_get (groups_of before.groups) number ≡ Some (numbers_of members) → IsAssembled before (Some number) (map Some members) begun graph functions
      → IsBegun before (Some number) (map Some members) begun → (after : GraphsBefore) → AddsGroup before after members graph functions → IsMaking after (suc number) → AreLeast before number → AreBare before number
      → AreBare after (suc number)
  bare_grows members row assembled begins_so after adds grown least bare =
      subst (λ made. AreBare made (suc number)) (sym same)
      (all_grow least bare after.graphs after.functions after.escaping after.live after.statics members row assembled begins_so (subst (λ made. AddsGroup before made members graph functions) same adds) (subst (λ made. IsMaking made (suc number)) same grown))
    where
      same : after ≡ with_lists before after.graphs after.functions after.escaping after.live after.statics
      same = λ i. record { tac = adds.tac i; groups = adds.groups i; graphs = after.graphs; functions = after.functions; escaping = after.escaping; live = after.live; statics = after.statics }

-- no group has its graph yet
pub bare_begins : (before : GraphsBefore) → AreBare before 0
bare_begins before all begins at less = absurd (omega (arith, less))

-- ---- the program

pub program_least : (before : GraphsBefore) → (tac_of before.tac).start.parameters ≡ 0 → (begun : Graph) (graph : FrozenGraph) (own : FunctionGraph) (all : memory_graphs.ProgramGraphs) → IsGrouped before.tac before.groups
    → IsMaking before (length (groups_of before.groups)) → AreLeast before (length (groups_of before.groups)) → AreBare before (length (groups_of before.groups)) → BeginsWith before (length (groups_of before.groups)) all
    → length all.graphs.items ≡ length (groups_of before.groups) → HasStart graph own all → IsAssembled before None (None ∷ []) begun graph (own ∷ []) → IsStartBegun before begun → Closed (family_at before all)
    → Least (family_at before all)
program_least before start begun graph own all grouped making least bare begins size has assembled begins_so closed = record {
  closed = closed;
  smallest = program_smallest before start begun graph own all grouped making least begins size has assembled begins_so;
  bare = by;
}
  where
    by : (group : Option ℕ) → IsBareAt (family_at before all) group
    by None = start_bare before start grouped making begun graph own assembled begins_so all begins has least closed.last
    by (Some group) = λ number its node few its_is node_is fewer others.
        elim (cases_lt group (length (groups_of before.groups))) [
          | inl lt ↦ bare all begins group lt number its node few its_is node_is fewer others
          | inr past ↦ absurd (none-some its (sym (past_graphs before.tac.types (groups_of before.groups) all.functions.items 0 all.graphs.items group (omega (arith, past, size))) ∙ its_is))
        ]
