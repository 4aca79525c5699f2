use Rattle.std.proofs.Common.{ℕ, ◌+◌, take, get_or, List, refl, ap, subst, arith}
use Rattle.call_graph.specs.Rows.{AreMarks}
use Rattle.call_graph.proofs.RowLists.{read_take, take_all}
use Rattle.call_graph.proofs.MarkSteps.{no_marks, one_mark, no_mark}
use Rattle.call_graph.proofs.mark_list.marks.Goals.{then-number-count, else-number-count}
use Rattle.call_graph.proofs.mark_list.marks.Goals as goal

pub loop-number-init : goal.loop-number-init
loop-number-init c = no_marks c.args.count _ (c.in_ok-marks.ensures.items_if_clones_equal (λ y e. cc))

pub loop-number-preserved : goal.loop-number-preserved
loop-number-preserved c =
    let numbers = c.args.numbers.now in
    let i = c.loop-number.number-index in
    let more = read_take numbers i (i + 1) (get_or numbers i 0) 0 refl (omega arith) refl in
    elim c.if-number-count.branch [
      | then-number-count w ↦ one_mark c.args.count (take i numbers) (get_or numbers i 0) _ c.loop-number.marks.items _ c.loop-number.invariant w.if-number-count.true (ap (λ v. v.items) w.marks-is) more
      | else-number-count w ↦ no_mark c.args.count (take i numbers) (get_or numbers i 0) _ c.loop-number.marks.items _ c.loop-number.invariant w.if-number-count.false (ap (λ v. v.items) w.marks-is) more
    ]

pub returns : goal.returns
returns c = subst (λ (l : List ℕ). AreMarks c.args.count l c.loop-number.marks.items) (take_all c.loop-number.number-index c.args.numbers.now (omega arith)) c.loop-number.invariant
