use Rattle.std.proofs.Common.{◌∷◌, reverse}
use Rattle.slab_space.specs.Pools.{index_of}
use Rattle.machine.specs.Steps.{state_of, activations_of}
use Rattle.machine.specs.Heaps.{heap_of}
use Rattle.machine.proofs.Accesses.{store_three, store_three_missed}
use Rattle.machine.proofs.calls.Calls.store_link.Goals as goal

pub returns-then-put : goal.returns-then-put
returns-then-put c = λ code function history input trace.
    let top = c.self.inside.innermost in
    let callers = reverse c.self.inside.callers.items in
    let state = state_of (top ∷ callers) (heap_of c.args.heap.now) history input trace in
    let puts = rw (c.from.ensures, c.index-index.ensures) at c.if-put.ensures in
    rw (← c.self.view_is) (store_three c.in-Some.address 4 top c.discard.new.self callers state (activations_of c.put.new.self) (heap_of c.put.new.heap) (index_of c.args.heap.now.pools) c.in-Some.value c.in-Some.pool c.in-Some.ensures c.discard.ensures puts)

pub returns-else-put : goal.returns-else-put
returns-else-put c = λ code function history input trace.
    let top = c.self.inside.innermost in
    let callers = reverse c.self.inside.callers.items in
    let state = state_of (top ∷ callers) (heap_of c.args.heap.now) history input trace in
    let puts = rw (c.from.ensures, c.index-index.ensures) at c.if-put.ensures in
    rw (← c.self.view_is, c.trap-else-put.ensures)
    (store_three_missed c.in-Some.address 4 top c.discard.new.self callers state (activations_of c.put.new.self) (heap_of c.put.new.heap) (index_of c.args.heap.now.pools) c.in-Some.value c.in-Some.pool c.in-Some.ensures c.discard.ensures puts)
