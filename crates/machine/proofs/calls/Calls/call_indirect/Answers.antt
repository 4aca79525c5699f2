use Rattle.std.proofs.Common.{◌<◌, ◌≤◌, ◌∷◌, length, drop, reverse, sym, ap, ◌∙◌, arith}
use Rattle.std.proofs.lemmas.List.{length-drop, length-reverse}
use Rattle.image_form.specs.Form.{function_of}
use Rattle.pool_isa.specs.Machine.{named_by}
use Rattle.machine.specs.Steps.{state_of}
use Rattle.machine.proofs.Calling.{called_from}
use Rattle.machine.proofs.calls.Calls.call_indirect.Goals as goal

pub returns-in-Ok : goal.returns-in-Ok
returns-in-Ok c = λ code function heap h history input trace.
    let top = c.self.inside.innermost in
    let callers = reverse c.self.inside.callers.items in
    let new = c.enter.new.self in
    let word = c.in-Some.word in
    let signature = c.args.signature in
    let named = c.in-Some-named_by.function.now in
    let some = ap (λ fs. named_by fs signature word) h ∙ sym c.in-Some-named_by.ensures.function in
    let enough : named.parameters ≤ length (drop 1 top.operands) = rw (length-drop 1 top.operands) (omega arith) in
    let shallow : length callers < 10000 = rw length-reverse (omega arith) in
    let is = rw (← c.self.view_is) at c.in-Ok.ensures.callee in
    let rest = rw (← c.self.view_is) at c.in-Ok.ensures.callers in
    rw (← c.self.view_is)
    (called_from signature code.functions word c.in-Some-named_by.callee (function_of named) top new.innermost callers new.callers (state_of (top ∷ callers) heap history input trace) c.in-Some.ensures c.in-Some-named_by.ensures.number some enough shallow is rest)
