-- A function from which nothing escapes has no copies, and its graph tells of no variable outside functions and no literal.
use Rattle.std.proofs.Common.{◌≡◌, ℕ, zero, suc, true, false, List, [], ◌∷◌, length, get_or, Contains, Option, Some, None, refl, sym, ap, subst, ◌∙◌, arith}
use Rattle.std.specs.Prelude.{slice_get}
use Rattle.std.proofs.lemmas.Bool.{true≢false}
use Rattle.std.proofs.lemmas.Option.{same_Some, slice_get_within}
use Rattle.heap_graph.specs.Graphs.{Target, Name, OfRegister, OfResult, OfObject, OfGlobal, OfLiteral, OfCopy}
use Rattle.heap_graph.specs.Targets.{has_target}
use Rattle.heap_graph.specs.Escaping.{is_outside}
use Rattle.tac_ir.specs.States.{InFunction}
use Rattle.heap_graph.specs.Frozen.{static_in, own_graph}
use Rattle.heap_graph.specs.declared.frozen.FrozenGraph.{FrozenGraph}
use Rattle.dsa_inlining.specs.declared.before.Before.{Before}
use Rattle.dsa_inlining.specs.Before.{IsReached, graphs_before, has_numbers, is_some_list, is_listed, is_live}
use Rattle.dsa_inlining.specs.Sums.{graph_at, is_told, told_in}
use Rattle.dsa_inlining.specs.Tallies.{IsKnown, AreQuiet, beyond}

no_numbers : (lists : List (List ℕ)) (called : ℕ) → is_listed lists called ≡ false → length (get_or lists called []) ≡ 0
no_numbers [] zero is = refl
no_numbers [] (suc called) is = refl
no_numbers ([] ∷ lists) zero is = refl
no_numbers ((first ∷ numbers) ∷ lists) zero is = absurd (true≢false is)
no_numbers (numbers ∷ lists) (suc called) is = no_numbers lists called is

numbers_there : (numbers : List ℕ) (number : ℕ) → Contains numbers number → has_numbers numbers ≡ true
numbers_there [] number found = let less = found.1 in absurd (omega (arith, less))
numbers_there (first ∷ numbers) number found = refl

module _ (before : Before) (known : IsKnown before) (called : ℕ) (dead : is_live (graphs_before before) called ≡ false) where
  never : (reached : IsReached (graphs_before before) called) (name : Name) → is_outside (InFunction called) name ≡ true → (target : Target)
      → (own_graph before.tac.now.types reached.graph reached.own.names).targets name ≡ Some target → ⊥
  never reached name outside target is =
      let there = numbers_there reached.numbers target.node (reached.ready.outside name target outside is) in
      true≢false (sym there ∙ (sym (ap is_some_list reached.numbers_are) ∙ dead))

  untold : (reached : IsReached (graphs_before before) called) (name : Name) → is_told reached.graph name ≡ false
  untold reached (OfRegister owner register) = refl
  untold reached (OfResult owner) = refl
  untold reached (OfObject owner local) = refl
  untold reached (OfGlobal number) = by (static_in reached.graph.globals number) refl
    where
      by : (found : Option Target) → static_in reached.graph.globals number ≡ found → has_target (static_in reached.graph.globals number) ≡ false
      by None e = ap has_target e
      by (Some target) e = absurd (never reached (OfGlobal number) refl target e)
  untold reached (OfLiteral number) = by (static_in reached.graph.literals number) refl
    where
      by : (found : Option Target) → static_in reached.graph.literals number ≡ found → has_target (static_in reached.graph.literals number) ≡ false
      by None e = ap has_target e
      by (Some target) e = absurd (never reached (OfLiteral number) refl target e)
  untold reached (OfCopy number) = refl

  quiet_name : (name : Name) → told_in (graph_at before.graphs.now (slice_get before.groups.now.group_of.items called)) name ≡ false
  quiet_name name = by (slice_get before.groups.now.group_of.items called) refl
    where
      in_graph : (group : ℕ) → slice_get before.groups.now.group_of.items called ≡ Some group → (found : Option FrozenGraph) → slice_get before.graphs.now group ≡ found → told_in found name ≡ false
      in_graph group of None e = refl
      in_graph group of (Some graph) e =
          let reached = known.reached called group of (slice_get_within before.graphs.now group graph e) in
          let own : reached.group ≡ group = same_Some reached.group group (sym reached.of ∙ of) in
          let same : reached.graph ≡ graph = same_Some reached.graph graph (sym reached.graph_is ∙ (ap (slice_get before.graphs.now) own ∙ e)) in
          subst (λ (g : FrozenGraph). is_told g name ≡ false) same (untold reached name)

      by : (found : Option ℕ) → slice_get before.groups.now.group_of.items called ≡ found → told_in (graph_at before.graphs.now (slice_get before.groups.now.group_of.items called)) name ≡ false
      by None of = ap (λ g. told_in (graph_at before.graphs.now g) name) of
      by (Some group) of = ap (λ g. told_in (graph_at before.graphs.now g) name) of ∙ in_graph group of (slice_get before.graphs.now group) refl

pub are_quiet : (before : Before) → IsKnown before → (group : Option ℕ) → AreQuiet (beyond before group) (is_live (graphs_before before))
are_quiet before known group = record {
  escaping = λ called dead. no_numbers (graphs_before before).escaping called dead;
  tells = λ called name dead. quiet_name before known called dead name;
}
