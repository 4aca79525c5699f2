use Rattle.std.proofs.Common.{◌≡◌, ◌+◌, length, drop, refl, sym, ap, ◌∙◌, arith}
use Rattle.graph_unification.specs.Cells.{moved_cell, changed_all}
use Rattle.graph_unification.proofs.CellLists.{changed_next, changed_none}
use Rattle.graph_unification.proofs.cells.rename.Goals as goal

pub loop-number-init : goal.loop-number-init
loop-number-init c = refl

pub offset_bounds-numbers-number-index : goal.offset_bounds-numbers-number-index
offset_bounds-numbers-number-index c = omega arith

pub loop-number-preserved : goal.loop-number-preserved
loop-number-preserved c =
    ap (changed_all (moved_cell c.args.gone c.args.kept c.args.distance) (drop (c.loop-number.number-index + 1) c.args.numbers.now)) c.rename_one.ensures
    ∙ sym (changed_next (moved_cell c.args.gone c.args.kept c.args.distance) c.args.numbers.now c.loop-number.number-index 0 c.loop-number.cells.items c.loop-number-test.true) ∙ c.loop-number.invariant

pub returns : goal.returns
returns c =
    let all : c.loop-number.number-index ≡ length c.args.numbers.now = omega arith in
    sym (changed_none (moved_cell c.args.gone c.args.kept c.args.distance) c.args.numbers.now c.loop-number.number-index c.loop-number.cells.items all) ∙ c.loop-number.invariant
