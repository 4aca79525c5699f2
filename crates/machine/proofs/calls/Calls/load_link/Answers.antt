use Rattle.std.proofs.Common.{◌∷◌, refl, drop, reverse, ap, ◌∙◌, arith}
use Rattle.slab_space.specs.Pools.{address_of}
use Rattle.pool_isa.specs.Machine.{advanced}
use Rattle.machine.specs.Steps.{state_of}
use Rattle.machine.specs.Heaps.{heap_of}
use Rattle.machine.proofs.Accesses.{load_two, load_two_missed}
use Rattle.machine.proofs.calls.Calls.load_link.Goals as goal

pub overflow_cast-index : goal.overflow_cast-index
overflow_cast-index c = omega (arith, c.in-Some-fetch.ensures.small)

pub returns-in_default-fetch : goal.returns-in_default-fetch
returns-in_default-fetch c = λ code function history input trace.
    let top = c.self.inside.innermost in
    let callers = reverse c.self.inside.callers.items in
    let state = state_of (top ∷ callers) (heap_of c.args.heap.now) history input trace in
    let missed = rw (← c.self.view_is) at c.in_default-fetch.ensures.word in
    rw (← c.self.view_is, c.trap-in_default-fetch.ensures) (record {
      halts = load_two_missed (address_of c.args.heap.now.pools) c.in-Some.pool c.in-Some.address 4 top callers state missed c.in-Some.ensures;
      heap_is = refl;
    })

pub returns : goal.returns
returns c = λ code function history input trace.
    let top = c.self.inside.innermost in
    let callers = reverse c.self.inside.callers.items in
    let state = state_of (top ∷ callers) (heap_of c.args.heap.now) history input trace in
    let read = rw (← c.self.view_is) at c.in-Some-fetch.ensures.word in
    let is = c.combine.ensures ∙ ap (λ w. advanced top (w ∷ drop 2 top.operands)) c.address-cell.ensures in
    rw (← c.self.view_is) (load_two c.in-Some.address 4 c.in-Some-fetch.index top c.combine.new.self callers state read (address_of c.args.heap.now.pools) c.in-Some.pool c.in-Some.ensures is)
