use Rattle.std.proofs.Common.{◌≡◌, ◌+◌, length, drop, refl, sym, ap, ◌∙◌, arith}
use Rattle.graph_unification.specs.Cells.{flat_cell, changed_all}
use Rattle.graph_unification.proofs.CellLists.{changed_next, changed_none}
use Rattle.graph_unification.proofs.cells.flatten.Goals as goal

pub loop-number-init : goal.loop-number-init
loop-number-init c = refl

pub offset_bounds-numbers-number-index : goal.offset_bounds-numbers-number-index
offset_bounds-numbers-number-index c = omega arith

pub loop-number-preserved : goal.loop-number-preserved
loop-number-preserved c =
    ap (changed_all (flat_cell c.args.node) (drop (c.loop-number.number-index + 1) c.args.numbers.now)) c.flatten_one.ensures
    ∙ sym (changed_next (flat_cell c.args.node) c.args.numbers.now c.loop-number.number-index 0 c.loop-number.cells.items c.loop-number-test.true) ∙ c.loop-number.invariant

pub returns : goal.returns
returns c =
    let all : c.loop-number.number-index ≡ length c.args.numbers.now = omega arith in
    sym (changed_none (flat_cell c.args.node) c.args.numbers.now c.loop-number.number-index c.loop-number.cells.items all) ∙ c.loop-number.invariant
