use Rattle.std.proofs.Common.{subst, arith}
use Rattle.c_typed.specs.Table.{structs_in}
use Rattle.pool_rewrite.specs.Firsts.{RootFits, whole_of}
use Rattle.pool_rewrite.specs.Made.{inner_in}
use Rattle.pool_rewrite.proofs.FoundStatics.{element_fits}
use Rattle.pool_rewrite.proofs.first.address_of.Goals as goal

pub overflow_add-result-2 : goal.overflow_add-result-2
overflow_add-result-2 c =
    let table = c.args.tac.now.types in
    let root = c.in_ok-root.ensures in
    let fits = subst (RootFits (structs_in table) c.args.parts.now c.args.index) root.1 c.requires.fits in
    let low = root.3 in
    let near = element_fits (structs_in table) c.args.parts.now c.args.index (whole_of table c.in_ok-root.root.c_type) (inner_in table c.in_ok-element.element) fits c.in_ok-element.ensures in
    omega (arith, low, near)
