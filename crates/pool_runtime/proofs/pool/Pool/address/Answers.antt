use Rattle.std.proofs.Common.{◌+◌, ◌-◌, ◌/◌, Some, sym, ap, ◌∙◌, arith}
use Rattle.std.proofs.lemmas.Option.{slice_get-get_or}
use Rattle.slab_space.specs.Pool.{cells_per_run}
use Rattle.pool_runtime.specs.Lookup.{IsSized}
use Rattle.pool_runtime.proofs.Places.{run_inside, place_high}
use Rattle.pool_runtime.proofs.Addresses.{cell_addressed, none_addressed}
use Rattle.pool_runtime.proofs.pool.Pool.address.Goals as goal
use Rattle.pool_runtime.proofs.pool.Pool.address.Goals.{Else-number-made}

pub returns-then-number-made : goal.returns-then-number-made
returns-then-number-made c = λ bytes.
    none_addressed bytes c.args.self.now.kind c.args.self.now.classes.items c.index-cells.result.now c.requires.some c.index-cells.ensures (sym c.if-not-is_homogeneous.ensures) c.args.number (omega (arith, c.made.ensures, c.if-number-made.true))

sized : (c : Else-number-made) → IsSized c.index-cells.result.now
sized c = c.requires.sizes 0 c.index-cells.result.now (slice_get-get_or c.args.self.now.classes.items 0 c.index-cells.result.now c.requires.some ∙ ap Some (sym c.index-cells.ensures))

pub place-requires-clause-least : goal.place-requires-clause-least
place-requires-clause-least c = (sized c).least

pub place-requires-clause-most : goal.place-requires-clause-most
place-requires-clause-most c = (sized c).most

pub place-requires-clause-inside : goal.place-requires-clause-inside
place-requires-clause-inside c = run_inside c.index-cells.result.now c.args.number (omega arith) (omega (arith, (sized c).made, (sized c).room, c.made.ensures, c.if-number-made.false))

pub overflow_add-result : goal.overflow_add-result
overflow_add-result c =
    let r = c.index-cells.result.now in
    let is : IsSized r = c.requires.sizes 0 r (slice_get-get_or c.args.self.now.classes.items 0 r c.requires.some ∙ ap Some (sym c.index-cells.ensures)) in
    let run = run_inside r c.args.number (omega arith) (omega (arith, is.made, is.room, c.made.ensures, c.if-number-made.false)) in
    omega (arith, place_high r c.args.number (omega (arith, is.least)), is.inside ((c.args.number - 1) / cells_per_run r.size) run, is.most, c.place.ensures)

pub returns : goal.returns
returns c = λ bytes.
    ap (λ n. 17592186044416 + n) c.place.ensures
    ∙ cell_addressed bytes c.args.self.now.kind c.args.self.now.classes.items c.index-cells.result.now c.requires.some c.index-cells.ensures (sym c.if-not-is_homogeneous.ensures) c.args.number (omega arith) (omega (arith, c.made.ensures, c.if-number-made.false))
