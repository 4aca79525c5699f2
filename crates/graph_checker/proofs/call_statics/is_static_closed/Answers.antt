use Rattle.std.proofs.Common.{sym, ap, ◌∙◌}
use Rattle.heap_graph.specs.Targets.{has_target, same_target}
use Rattle.heap_graph.specs.Frozen.{optional_target, static_in, bare}
use Rattle.graph_checker.specs.Images.{placed}
use Rattle.graph_checker.proofs.Cases.{asked_both}
use Rattle.graph_checker.proofs.call_statics.is_static_closed.Goals as goal

pub returns-then-has_target : goal.returns-then-has_target
returns-then-has_target c = λ table.
    let graph = bare table c.args.graph.now in
    let embedding = static_in c.args.embedding.now in
    let called = c.in-Some.ensures.value in
    let own = c.copied-own.ensures ∙ c.get-in-Some.ensures.value in
    let at = c.image.ensures table ∙ ap (λ target. placed graph embedding (optional_target target)) called in
    asked_both (has_target (static_in c.args.called.now c.args.number)) (has_target (static_in c.args.own.now c.args.number))
    (same_target (static_in c.args.own.now c.args.number) (placed graph embedding (static_in c.args.called.now c.args.number))) c.is_at.result
    (sym (ap (λ target. has_target (optional_target target)) called))
    (sym (ap (λ target. has_target (optional_target target)) own) ∙ (sym c.has_target.ensures ∙ c.if-has_target.true))
    (c.is_at.ensures ∙ (λ i. same_target (optional_target (own i)) (at i)))
