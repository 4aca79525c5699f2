use Rattle.std.proofs.Common.{◌+◌, Bool, sym, ap, ◌∙◌, arith}
use Rattle.std.specs.Prelude.{◌&&◌, nat_le}
use Rattle.pool_runtime.proofs.Lookups.{cell_there, off_within, covers_cell}
use Rattle.pool_runtime.proofs.pool.Pool.covers.Goals as goal

pub overflow_add-result : goal.overflow_add-result
overflow_add-result c =
    let is = cell_there c.args.self.now.classes.items c.args.found.now c.in-Cells.class c.in-Cells.run' c.in-Some.number c.in-Some.off (sym c.in-Some.ensures) in
    omega (arith, off_within c.args.self.now.classes.items c.args.found.now c.in-Cells.class c.in-Cells.run' c.in-Some.number c.in-Some.off is, c.requires.near, c.requires.most)

pub returns-then-is_live : goal.returns-then-is_live
returns-then-is_live c =
    let is = covers_cell c.args.self.now c.args.found.now c.args.width c.in-Cells.class c.in-Cells.run' c.index-cells.result.now (c.in-Some.number, c.in-Some.off) c.in-Cells.is c.index-cells.ensures (sym c.in-Some.ensures) in
    sym (is ∙ ap (λ (b : Bool). b && nat_le (c.in-Some.off + c.args.width) c.index-cells.result.now.size) (sym c.is_live.ensures ∙ c.if-is_live.true))

pub returns-else-is_live : goal.returns-else-is_live
returns-else-is_live c =
    let is = covers_cell c.args.self.now c.args.found.now c.args.width c.in-Cells.class c.in-Cells.run' c.index-cells.result.now (c.in-Some.number, c.in-Some.off) c.in-Cells.is c.index-cells.ensures (sym c.in-Some.ensures) in
    c.if-is_live.false ∙ sym (is ∙ ap (λ (b : Bool). b && nat_le (c.in-Some.off + c.args.width) c.index-cells.result.now.size) (sym c.is_live.ensures ∙ c.if-is_live.false))
