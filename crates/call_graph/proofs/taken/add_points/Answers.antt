use Rattle.std.proofs.Common.{◌+◌, ◌++◌, drop, refl, sym, ap, ◌∙◌, append-nil, arith}
use Rattle.std.proofs.lemmas.List.{drop_all}
use Rattle.call_graph.proofs.RowLists.{read_drop, gather_more, gather_none}
use Rattle.call_graph.specs.TakenLists.{at_point}
use Rattle.call_graph.proofs.TakenAgree.{not_address}
use Rattle.call_graph.proofs.taken.add_points.Goals.{in-FunctionAddress+in_ok-push, in_default}
use Rattle.call_graph.proofs.taken.add_points.Goals as goal

pub loop-op-init : goal.loop-op-init
loop-op-init c = refl

pub loop-op-preserved : goal.loop-op-preserved
loop-op-preserved c =
    let points = c.args.points.now in
    let i = c.loop-op.op-index in
    let op = c.op-item.result in
    let next = read_drop points i (i + 1) op op refl (omega arith) c.op-item.is in
    elim c.match-op.branch [
      | in-FunctionAddress+in_ok-push w ↦
          gather_more at_point (drop i points) (drop (i + 1) points) op c.loop-op.taken.items _ _ next
          (ap (λ v. v.items) w.taken-is ∙ (w.in_ok-push.ensures.items ∙ ap (λ l. c.loop-op.taken.items ++ l) (sym (ap at_point w.in-FunctionAddress.is)))) c.loop-op.invariant
      | in_default w ↦
          gather_more at_point (drop i points) (drop (i + 1) points) op c.loop-op.taken.items _ _ next
          (ap (λ v. v.items) w.taken-is ∙ (sym (append-nil c.loop-op.taken.items) ∙ ap (λ l. c.loop-op.taken.items ++ l) (sym (not_address op w.in_default.not-FunctionAddress)))) c.loop-op.invariant
    ]

pub returns : goal.returns
returns c = gather_none at_point (drop c.loop-op.op-index c.args.points.now) c.loop-op.taken.items _ (drop_all c.loop-op.op-index c.args.points.now (omega arith)) c.loop-op.invariant
