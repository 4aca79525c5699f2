use Rattle.std.proofs.Common.{◌+◌, ◌++◌, drop, refl, sym, ap, ◌∙◌, append-nil, arith}
use Rattle.std.proofs.lemmas.List.{drop_all}
use Rattle.call_graph.proofs.RowLists.{read_drop, gather_more, gather_none}
use Rattle.call_graph.specs.TakenLists.{at_first}
use Rattle.call_graph.proofs.TakenAgree.{not_scalar}
use Rattle.call_graph.proofs.taken.add_firsts.Goals.{in-Scalar+in_ok-add_value, in_default}
use Rattle.call_graph.proofs.taken.add_firsts.Goals as goal

pub loop-first-init : goal.loop-first-init
loop-first-init c = refl

pub loop-first-preserved : goal.loop-first-preserved
loop-first-preserved c =
    let firsts = c.args.firsts.now in
    let i = c.loop-first.first-index in
    let first = c.first-item.result in
    let next = read_drop firsts i (i + 1) first first refl (omega arith) c.first-item.is in
    elim c.match-first.branch [
      | in-Scalar+in_ok-add_value w ↦
          gather_more (at_first c.args.names.now) (drop i firsts) (drop (i + 1) firsts) first c.loop-first.taken.items _ _ next
          (ap (λ v. v.items) w.taken-is ∙ (w.in_ok-add_value.ensures ∙ ap (λ l. c.loop-first.taken.items ++ l) (sym (ap (at_first c.args.names.now) w.in-Scalar.is)))) c.loop-first.invariant
      | in_default w ↦
          gather_more (at_first c.args.names.now) (drop i firsts) (drop (i + 1) firsts) first c.loop-first.taken.items _ _ next
          (ap (λ v. v.items) w.taken-is ∙ (sym (append-nil c.loop-first.taken.items) ∙ ap (λ l. c.loop-first.taken.items ++ l) (sym (not_scalar c.args.names.now first w.in_default.not-Scalar)))) c.loop-first.invariant
    ]

pub returns : goal.returns
returns c = gather_none (at_first c.args.names.now) (drop c.loop-first.first-index c.args.firsts.now) c.loop-first.taken.items _ (drop_all c.loop-first.first-index c.args.firsts.now (omega arith)) c.loop-first.invariant
