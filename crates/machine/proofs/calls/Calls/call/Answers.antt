use Rattle.std.proofs.Common.{refl, ◌<◌, ◌≤◌, ◌∷◌, length, reverse, ap, ◌∙◌, arith}
use Rattle.std.specs.Prelude.{slice_get}
use Rattle.std.proofs.lemmas.List.{length-reverse}
use Rattle.image_form.specs.Form.{function_of}
use Rattle.machine.specs.Steps.{state_of}
use Rattle.machine.proofs.Calling.{called_on, called_short, called_deep}
use Rattle.machine.proofs.Returning.{function_there}
use Rattle.machine.proofs.calls.Calls.call.Goals as goal

pub returns-then-height-function : goal.returns-then-height-function
returns-then-height-function c = λ code function heap h history input trace.
    let top = c.self.inside.innermost in
    let callers = reverse c.self.inside.callers.items in
    let callee = c.args.callee in
    let found = c.in-Some.ensures.lookup in
    let some = ap (λ fs. slice_get fs callee) h ∙ function_there c.args.functions.now callee c.in-Some.function.now found.3.0 found.1 in
    let few : length top.operands < c.in-Some.function.now.parameters = omega arith in
    rw (← c.self.view_is, c.trap-then-height-function.ensures) (record {
      halts = called_short callee (slice_get code.functions callee) (function_of c.in-Some.function.now) top.operands top callers (state_of (top ∷ callers) heap history input trace) some few;
      heap_is = refl;
    })

pub returns-then-len-ge-MAX_DEPTH : goal.returns-then-len-ge-MAX_DEPTH
returns-then-len-ge-MAX_DEPTH c = λ code function heap h history input trace.
    let top = c.self.inside.innermost in
    let callers = reverse c.self.inside.callers.items in
    let callee = c.args.callee in
    let found = c.in-Some.ensures.lookup in
    let some = ap (λ fs. slice_get fs callee) h ∙ function_there c.args.functions.now callee c.in-Some.function.now found.3.0 found.1 in
    let enough : c.in-Some.function.now.parameters ≤ length top.operands = omega arith in
    let deep : 10000 ≤ length callers = rw length-reverse (omega arith) in
    rw (← c.self.view_is) (record {
      halts = called_deep callee (slice_get code.functions callee) (function_of c.in-Some.function.now) top.operands top callers (state_of (top ∷ callers) heap history input trace) some enough deep;
      heap_is = refl;
    })

pub returns-in-Ok : goal.returns-in-Ok
returns-in-Ok c = λ code function heap h history input trace.
    let top = c.self.inside.innermost in
    let callers = reverse c.self.inside.callers.items in
    let new = c.enter.new.self in
    let callee = c.args.callee in
    let found = c.in-Some.ensures.lookup in
    let some = ap (λ fs. slice_get fs callee) h ∙ function_there c.args.functions.now callee c.in-Some.function.now found.3.0 found.1 in
    let enough : c.in-Some.function.now.parameters ≤ length top.operands = omega arith in
    let shallow : length callers < 10000 = rw length-reverse (omega arith) in
    let is = rw (← c.self.view_is) at c.in-Ok.ensures.callee in
    let rest = rw (← c.self.view_is) at c.in-Ok.ensures.callers in
    rw (← c.self.view_is)
    (called_on callee (slice_get code.functions callee) (function_of c.in-Some.function.now) top.operands top new.innermost callers new.callers (state_of (top ∷ callers) heap history input trace) some enough shallow is rest)
