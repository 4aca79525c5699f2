use Rattle.std.proofs.Common.{◌≤◌, length, ap, ◌∙◌, arith}
use Rattle.tac_ir.specs.States.{InFunction}
use Rattle.dsa_bottom_up.proofs.Keeping.{marked_from, marked_all, marked_listed}
use Rattle.dsa_bottom_up.proofs.making.escaping_numbers.Goals as goal

pub returns : goal.returns
returns c = λ tac called.
    let list = c.as_slice-is_marked-items.result.now in
    let marks = c.in_ok-marks.marks in
    let past : length list ≤ c.loop-number.number = omega arith in
    let all = marked_all c.loop-number.numbers.items c.loop-number.number list past c.loop-number.invariant in
    marked_listed tac called c.args.graph.now c.args.names.now marks c.loop-number.numbers.items (all ∙ ap (marked_from 0) c.as_slice-is_marked-items.ensures) c.in_ok-marks.ensures.size
    (λ family shows names. c.in_ok-marks.ensures.escapes tac.types family (InFunction called) shows names)
