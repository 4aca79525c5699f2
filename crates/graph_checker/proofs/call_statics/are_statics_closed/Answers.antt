use Rattle.std.proofs.Common.{◌≡◌, ℕ, ◌<◌, true, List, length, get_or, sym, subst, ◌∙◌, arith, below_more}
use Rattle.heap_graph.specs.Frozen.{bare, static_in}
use Rattle.graph_checker.specs.Images.{static_kept}
use Rattle.graph_checker.proofs.Mentions.{all_closed, one_open, shown_static, each_kept}
use Rattle.graph_checker.proofs.call_statics.are_statics_closed.Goals as goal
use Rattle.graph_checker.proofs.call_statics.are_statics_closed.Goals.{else-number-count-via-then-number-count+else-not-is_static_closed, else-number-count-via-else-number-count}

pub returns-then-not-is_static_closed : goal.returns-then-not-is_static_closed
returns-then-not-is_static_closed c = λ table family owner callee images name shows owns calls same.
    let number = get_or c.as_slice-number-items.result.now c.loop-number.number-index 0 in
    sym (one_open family owner callee images name c.args.count number c.if-number-count.true
    (shown_static family owner callee images name table c.args.graph.now shows (static_in c.args.embedding.now) (static_in c.args.own.now) (static_in c.args.called.now) owns calls same number
    ∙ (sym (c.is_static_closed.ensures table) ∙ c.if-not-is_static_closed.true)))

pub loop-number-preserved : goal.loop-number-preserved
loop-number-preserved c =
    below_more _ _ c.loop-number.invariant
    (elim c.else-number-count.branch [
      | else-number-count-via-then-number-count+else-not-is_static_closed w ↦ λ small table. sym (w.is_static_closed.ensures table) ∙ w.if-not-is_static_closed.false
      | else-number-count-via-else-number-count w ↦ λ small table. absurd (omega arith)
    ])

pub returns : goal.returns
returns c = λ table family owner callee images name shows owns calls same.
    let graph = bare table c.args.graph.now in
    let embedding = static_in c.args.embedding.now in
    let own = static_in c.args.own.now in
    let called = c.args.called.now in
    let count = c.args.count in
    sym (all_closed family owner callee images name count (λ number less.
    shown_static family owner callee images name table c.args.graph.now shows embedding own (static_in called) owns calls same number
    ∙ each_kept graph embedding own called count
    (subst (λ (items : List ℕ). (place : ℕ) → place < length items → get_or items place 0 < count → static_kept graph embedding (own (get_or items place 0)) (static_in called (get_or items place 0)) ≡ true)
    (c.as_slice-number-items.ensures ∙ c.keys.ensures.rest) (λ place within small. c.loop-number.invariant place (omega arith) small table))
    number less))
