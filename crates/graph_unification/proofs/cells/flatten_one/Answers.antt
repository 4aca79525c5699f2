use Rattle.std.proofs.Common.{length, slice_set, refl, sym, ap, ◌∙◌, arith}
use Rattle.std.proofs.lemmas.Bool.{ltb-true, ltb-false}
use Rattle.graph_unification.specs.Cells.{flat_cell}
use Rattle.graph_unification.proofs.CellLists.{changed_set, changed_past, read_item}
use Rattle.graph_unification.proofs.cells.flatten_one.Goals as goal

pub get-requires : goal.get-requires
get-requires c κs = (refl, tt)

pub index_mut-requires : goal.index_mut-requires
index_mut-requires c =
    let lt = ltb-true c.args.number (length c.deref.result.now) (sym c.in-Some.ensures.lookup.0) in
    let same = c.deref.ensures.len in
    omega (arith, lt, same)

pub returns-in-Some : goal.returns-in-Some
returns-in-Some c =
    ap (slice_set c.args.cells.now.items c.args.number) c.flattened-flat.ensures
    ∙ changed_set (flat_cell c.args.node) c.args.number c.args.cells.now.items c.in-Some.target.now
    (read_item c.deref.result.now c.args.cells.now.items c.args.number c.in-Some.target.now c.deref.ensures.value (sym c.in-Some.ensures.lookup.0) c.in-Some.ensures.lookup.1)

pub returns-in-None : goal.returns-in-None
returns-in-None c =
    let over = ltb-false c.args.number (length c.deref.result.now) (sym c.in-None.ensures.lookup.0) in
    let same = ap length c.deref.ensures.value in
    sym (changed_past (flat_cell c.args.node) c.args.number c.args.cells.now.items (omega (arith, over, same)))
