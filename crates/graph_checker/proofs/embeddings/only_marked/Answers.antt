use Rattle.std.proofs.Common.{◌≡◌, ℕ, ◌<◌, true, List, length, get_or, refl, sym, subst, ◌∙◌, true≢false, arith, below_more}
use Rattle.heap_graph.specs.Embeddings.{is_marked}
use Rattle.graph_checker.proofs.Marks.{all_hold, one_holds}
use Rattle.graph_checker.proofs.embeddings.only_marked.Goals as goal

pub loop-number-init : goal.loop-number-init
loop-number-init c = λ place less. absurd (omega arith)

pub returns-then-not-is_marked : goal.returns-then-not-is_marked
returns-then-not-is_marked c =
    let marked = is_marked c.args.called.now c.args.escaping.now in
    let items = c.as_slice-number-items.ensures ∙ c.keys.ensures.rest in (
      λ is. absurd (true≢false (sym is)),
      λ only.
          let each : (place : ℕ) → place < length c.as_slice-number-items.result.now → marked (get_or c.as_slice-number-items.result.now place 0) ≡ true =
          subst (λ (numbers : List ℕ). (place : ℕ) → place < length numbers → marked (get_or numbers place 0) ≡ true) (sym items) (one_holds marked c.args.embedding.now only) in
          sym c.if-not-is_marked.true ∙ (c.is_marked.ensures ∙ each c.loop-number.number-index c.loop-number-test.true),
    )

pub loop-number-preserved : goal.loop-number-preserved
loop-number-preserved c = below_more _ _ c.loop-number.invariant (sym c.is_marked.ensures ∙ c.if-not-is_marked.false)

pub returns : goal.returns
returns c =
    let marked = is_marked c.args.called.now c.args.escaping.now in
    let items = c.as_slice-number-items.ensures ∙ c.keys.ensures.rest in (
      λ _. all_hold marked c.args.embedding.now
          (subst (λ (numbers : List ℕ). (place : ℕ) → place < length numbers → marked (get_or numbers place 0) ≡ true) items
          (λ place within. c.loop-number.invariant place (omega arith))),
      λ _. refl,
    )
