use Rattle.std.proofs.Common.{sym, ◌∙◌, drop}
use Rattle.machine.specs.Heaps.{heap_of}
use Rattle.machine.proofs.Pooling.{placed_inside}
use Rattle.machine.proofs.activation.Activation.allocate.Goals as goal

pub returns-in-Ok-clause-performs : goal.returns-in-Ok-clause-performs
returns-in-Ok-clause-performs c = λ code function callers history input trace.
    let old = c.args.self.now in
    placed_inside old c.combine.new.self callers (heap_of c.args.heap.now) (heap_of c.place.new.self) history input trace c.in-Some.pool c.in-Some.bytes c.in-Ok.address (drop 2 old.operands) c.in-Some-kind.kind
    c.in-Some.ensures (sym c.in-Some-kind.ensures) (sym c.fits_kind.ensures ∙ c.if-not-fits_kind.false) c.in-Ok.ensures.ok c.combine.ensures
