use Rattle.std.proofs.Common.{◌∷◌, refl, drop, reverse, ap, ◌∙◌}
use Rattle.pool_isa.specs.Machine.{size_of, advanced, loaded_word}
use Rattle.machine.specs.Steps.{state_of}
use Rattle.machine.specs.Heaps.{heap_of}
use Rattle.machine.proofs.Accesses.{load_one, load_one_missed}
use Rattle.machine.proofs.calls.Calls.load.Goals as goal

pub returns-in_default-fetch : goal.returns-in_default-fetch
returns-in_default-fetch c = λ code function history input trace.
    let top = c.self.inside.innermost in
    let callers = reverse c.self.inside.callers.items in
    let state = state_of (top ∷ callers) (heap_of c.args.heap.now) history input trace in
    let missed = rw (← c.self.view_is, c.size_of.ensures.size) at c.in_default-fetch.ensures.word in
    rw (← c.self.view_is, c.trap-in_default-fetch.ensures) (record {
      halts = load_one_missed (loaded_word c.args.int_type) c.in-Some.address (size_of c.args.int_type) top callers state missed c.in-Some.ensures;
      heap_is = refl;
    })

pub returns : goal.returns
returns c = λ code function history input trace.
    let top = c.self.inside.innermost in
    let callers = reverse c.self.inside.callers.items in
    let state = state_of (top ∷ callers) (heap_of c.args.heap.now) history input trace in
    let read = rw (← c.self.view_is, c.size_of.ensures.size) at c.in-Some-fetch.ensures.word in
    let is = c.replace.ensures ∙ ap (λ w. advanced top (w ∷ drop 1 top.operands)) c.converted_word.ensures in
    rw (← c.self.view_is) (load_one c.in-Some.address (size_of c.args.int_type) c.in-Some-fetch.number top c.replace.new.self callers state read (loaded_word c.args.int_type) c.in-Some.ensures is)
