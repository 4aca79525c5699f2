-- Variables outside functions and literals by their numbers.
use Rattle.std.proofs.Common.{◌≡◌, ℕ, ◌++◌, List, [], ◌∷◌, map, refl, Bor, Contains, inl, inr, sym, ap, subst, ◌∙◌, append_assoc}
use Rattle.std.specs.Prelude.{nat_eq, IsSome}
use Rattle.std.specs.Map.{keys_of}
use Rattle.std.specs.Map.Iter.{deref_pair}
use Rattle.std.specs.List.{IsDistinct}
use Rattle.std.specs.List.Sorted.{IsPermutation, IsSorted}
use Rattle.std.specs.Ordering.{nat_cmp}
use Rattle.std.proofs.lemmas.Bool.{eqb-true, eq-eqb}
use Rattle.std.proofs.lemmas.Bool.Decides.{eqb_tells}
use Rattle.std.proofs.lemmas.List.{append-nil}
use Rattle.std.proofs.lemmas.List.Sorted.{Contains-permutation, IsNonDecreasingBy-from_sort}
use Rattle.std.proofs.lemmas.Map.Keys.{IsDistinct-IsPermutation, IsStrictlyIncreasing-from_distinct}
use Rattle.std.proofs.lemmas.Map.Views.{Contains-keys_from_lookup}
use Rattle.indexmap.specs.IndexMap.{IndexMap, IsUnique, keys}
use Rattle.heap_graph.specs.declared.graph.Target.{Target}
use Rattle.heap_graph.specs.declared.frozen.FrozenGraph.{FrozenGraph}
use Rattle.graph_text.specs.declared.names.Named.{Named}
use Rattle.graph_text.specs.declared.names.Name.TheVariants as N
use Rattle.graph_text.specs.Names.{AreStatics, AddsStatics, static_names}
use Rattle.graph_text.specs.Texts.{AreNames}

flips : (x y : ℕ) → nat_eq x y ≡ nat_eq y x
flips x y = elim (eqb_tells x y) [
  | inl same ↦ same.0 ∙ sym (eq-eqb y x (sym same.1))
  | inr other ↦ elim (eqb_tells y x) [ inl same ↦ absurd (other.1 (sym same.1)) | inr again ↦ other.0 ∙ sym again.0 ]
]

pub sorted_statics : {S : Type 0} (targets : IndexMap ℕ Target S) (numbers sorted : List ℕ) → numbers ≡ keys targets → IsUnique nat_eq targets → IsPermutation numbers sorted → IsSorted nat_cmp sorted
    → AreStatics targets sorted
sorted_statics targets numbers sorted are unique permuted ordered = record {
  ascend = IsStrictlyIncreasing-from_distinct sorted (IsNonDecreasingBy-from_sort (λ x. x) sorted ordered) (IsDistinct-IsPermutation nat_eq flips numbers sorted permuted (subst (IsDistinct nat_eq) (sym are) unique));
  all = λ number target is. Contains-permutation numbers sorted number permuted
      (subst (λ l. Contains l number) (sym are) (Contains-keys_from_lookup {eq = nat_eq} eqb-true number targets.entries (subst IsSome (sym is) refl)));
}

-- names of functions stand behind those
pub names_with : (graph : FrozenGraph) (own names all : List Named) → AreNames graph [] names → all ≡ names ++ own → AreNames graph own all
names_with graph own names all are is = record {
  globals = are.globals;
  literals = are.literals;
  all_globals = are.all_globals;
  all_literals = are.all_literals;
  are = is ∙ (ap (λ l. l ++ own) are.are ∙ simp append_assoc);
}

-- variables outside functions, and then literals
pub both_statics : (graph : FrozenGraph) (before middle after : List Named) → before ≡ [] → AddsStatics N.Global graph.globals before middle → AddsStatics N.Literal graph.literals middle after → AreNames graph [] after
both_statics graph before middle after empty first second = record {
  globals = first.numbers;
  literals = second.numbers;
  all_globals = first.all;
  all_literals = second.all;
  are = second.are ∙ (ap (λ l. l ++ static_names N.Literal graph.literals second.numbers) (first.are ∙ ap (λ l. l ++ static_names N.Global graph.globals first.numbers) empty)
      ∙ ap (λ l. static_names N.Global graph.globals first.numbers ++ l) (sym (append-nil (static_names N.Literal graph.literals second.numbers))));
}

-- ---- the keys of entries that an iterator shows

pub keys_push : (entries : List (Bor ℕ × Bor Target)) (entry : Bor ℕ × Bor Target) → map (λ e. (deref_pair e).0) (entries ++ entry ∷ []) ≡ map (λ e. (deref_pair e).0) entries ++ entry.0.now ∷ []
keys_push [] entry = refl
keys_push (first ∷ entries) entry = ap (λ l. first.0.now ∷ l) (keys_push entries entry)

pub keys_shown : (entries : List (Bor ℕ × Bor Target)) → map (λ e. (deref_pair e).0) entries ≡ keys_of (map deref_pair entries)
keys_shown [] = refl
keys_shown (first ∷ entries) = ap (λ l. first.0.now ∷ l) (keys_shown entries)
