-- Variables outside functions and literals: those that the graph of the function that is called doesn't mention need nothing.
use Rattle.std.proofs.Common.{◌≡◌, ◌⊎◌, inl, inr, ◌≢◌, ℕ, zero, suc, ◌<◌, ◌==◌, eqb, Bool, true, false, ◌&&◌, length, get_or, Option, Some, None, refl, sym, ap, subst, ◌∙◌, arith}
use Rattle.std.proofs.lemmas.Bool.Decides.{eqb_tells}
use Rattle.indexmap.specs.IndexMap.{IndexMap, keys, get_by}
use Rattle.c_typed.specs.Table.{Interned}
use Rattle.tac_ir.specs.States.{Owner}
use Rattle.heap_graph.specs.declared.graph.Target as memory_target
use Rattle.heap_graph.specs.Graphs.{Target, Name, Graph, Embedding}
use Rattle.heap_graph.specs.Targets.{implies, has_target, same_target}
use Rattle.heap_graph.specs.Closed.{Family, graph_of, statics_closed, all_statics_closed}
use Rattle.heap_graph.specs.Frozen.{bare, optional_target, static_in}
use Rattle.heap_graph.specs.declared.frozen.FrozenGraph.{FrozenGraph}
use Rattle.heap_graph.specs.Shows.{ShowsGraph}
use Rattle.graph_checker.specs.Images.{static_kept}
use Rattle.graph_checker.proofs.Placing.{shown_image}
use Rattle.graph_checker.proofs.ClosedCalls.Found.{key_found}

and-false : (test : Bool) → (test && false) ≡ false
and-false true = refl
and-false false = refl

module _ (family : Family) (owner : Owner) (callee : Graph) (images : Embedding) (name : ℕ → Name) where
  pub all_closed : (count : ℕ) → ((number : ℕ) → number < count → statics_closed family owner callee images name number ≡ true)
      → all_statics_closed family owner callee images name count ≡ true
  all_closed zero each = refl
  all_closed (suc count) each = λ i. each count (omega arith) i && all_closed count (λ number less. each number (omega arith)) i

  pub one_open : (count number : ℕ) → number < count → statics_closed family owner callee images name number ≡ false
      → all_statics_closed family owner callee images name count ≡ false
  one_open zero number less is = absurd (omega arith)
  one_open (suc count) number less is = by (eqb_tells number count) (λ before. one_open count number before is)
    where
      by : ((eqb number count ≡ true) × (number ≡ count)) ⊎ ((eqb number count ≡ false) × (number ≢ count)) → (number < count → all_statics_closed family owner callee images name count ≡ false)
          → all_statics_closed family owner callee images name (suc count) ≡ false
      by (inl same) rest = ap (λ test. test && all_statics_closed family owner callee images name count) (ap (statics_closed family owner callee images name) (sym same.1) ∙ is)
      by (inr apart) rest =
          ap (λ test. statics_closed family owner callee images name count && test) (rest (let other = apart.1 in omega arith))
          ∙ and-false (statics_closed family owner callee images name count)

  module _ (table : Interned) (graph : FrozenGraph) (shows : ShowsGraph table family owner graph) (embedding : Embedding) (own called : ℕ → Option Target)
      (owns : (number : ℕ) → (graph_of family owner).targets (name number) ≡ own number) (calls : (number : ℕ) → callee.targets (name number) ≡ called number)
      (same : (node : ℕ) → images node ≡ embedding node) where
    pub shown_static : (number : ℕ) → statics_closed family owner callee images name number ≡ static_kept (bare table graph) embedding (own number) (called number)
    shown_static number =
        (λ i. implies (has_target (callee.targets (name number))) (has_target (owns number i)
        && same_target (owns number i) (shown_image table family owner graph shows images embedding same (callee.targets (name number)) i)))
        ∙ ap (static_kept (bare table graph) embedding (own number)) (calls number)

-- where those that are mentioned are kept, all are
pub each_kept : {S : Type 0} (graph : Graph) (embedding : Embedding) (own : ℕ → Option Target) (called : IndexMap ℕ memory_target.Target S) (count : ℕ)
    → ((place : ℕ) → place < length (keys called) → get_or (keys called) place 0 < count → static_kept graph embedding (own (get_or (keys called) place 0)) (static_in called (get_or (keys called) place 0)) ≡ true)
    → (number : ℕ) → number < count → static_kept graph embedding (own number) (static_in called number) ≡ true
each_kept graph embedding own called count kept number less = by (get_by (λ key. number == key) called) refl
  where
    by : (found : Option memory_target.Target) → get_by (λ key. number == key) called ≡ found → static_kept graph embedding (own number) (static_in called number) ≡ true
    by None is = ap (λ target. static_kept graph embedding (own number) (optional_target target)) is
    by (Some target) is =
        let at = key_found number called.entries target is in
        subst (λ key. static_kept graph embedding (own key) (static_in called key) ≡ true) at.1.is (kept at.0 at.1.within (subst (λ key. key < count) (sym at.1.is) less))
