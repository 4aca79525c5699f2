use Rattle.std.proofs.Common.{◌+◌, false, length, get_or, sym, ap, subst, ◌∙◌, arith}
use Rattle.heap_graph.proofs.ReachedNodes.Numbers.{AreFirstMarked, first_of_none, first_marked, first_unmarked, first_are_all}
use Rattle.heap_graph.proofs.marks.NodeMarks.numbers.Goals.{then-marked+in_ok-push, else-marked}
use Rattle.heap_graph.proofs.marks.NodeMarks.numbers.Goals as goal

pub loop-number-init : goal.loop-number-init
loop-number-init c = first_of_none c.args.self.now _ c.new-numbers.ensures.items

pub loop-number-preserved : goal.loop-number-preserved
loop-number-preserved c =
    let marks = c.args.self.now in
    let items = ap (λ l. get_or l c.loop-number.number false) c.deref-marked-items.ensures.value in
    elim c.if-marked.branch [
      | then-marked+in_ok-push w ↦
          first_marked marks c.loop-number.number c.loop-number.numbers.items c.if-marked.numbers.items c.loop-number.invariant (sym items ∙ w.if-marked.true) (ap (λ v. v.items) w.numbers-is ∙ w.in_ok-push.ensures.items)
      | else-marked w ↦
          subst (AreFirstMarked marks (c.loop-number.number + 1)) (sym (ap (λ v. v.items) w.numbers-is))
          (first_unmarked marks c.loop-number.number c.loop-number.numbers.items c.loop-number.invariant (sym items ∙ w.if-marked.false))
    ]

pub returns : goal.returns
returns c = first_are_all c.args.self.now c.loop-number.number c.loop-number.numbers.items c.loop-number.invariant (omega (arith, ap length c.deref-marked-items.ensures.value, c.loop-number-test.false))
