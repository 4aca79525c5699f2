use Rattle.std.proofs.Common.{◌≡◌, List, ◌∷◌, Some, slice_get, map, refl, sym, ap, ◌∙◌}
use Rattle.run_theory.specs.Runs.{To}
use Rattle.image_form.specs.Form.{code_of, form_of, function_of}
use Rattle.pool_isa.specs.Machine.{Activation}
use Rattle.machine.specs.Heaps.{heap_of}
use Rattle.machine.specs.Steps.{state_of}
use Rattle.machine.proofs.Returning.{function_there}
use Rattle.machine.proofs.loaded.Machine.advance.Goals as goal

pub returns-clause-meaning : goal.returns-clause-meaning
returns-clause-meaning c = λ history input trace.
    let code = code_of (form_of c.args.self.now.image.now) in
    let calls = c.args.self.now.calls in
    let heap = heap_of c.args.self.now.heap in
    let function = c.in-Some.function.now in
    let lookup = c.in-Some.ensures.lookup in
    let there = function_there c.deref.result.now c.function.result function lookup.3.0 lookup.1 in
    let number : c.function.result ≡ calls.innermost.function = c.function.ensures ∙ ap (λ (a : Activation). a.function) c.innermost.ensures in
    let found : slice_get code.functions calls.innermost.function ≡ Some (function_of function) = ap (λ fs. slice_get (map function_of fs) calls.innermost.function) (sym c.deref.ensures.value) ∙ ap (slice_get (map function_of c.deref.result.now)) (sym number) ∙ there in
    c.advance-made.ensures.advances (function_of function) (sym c.deref-2.ensures.value) refl code calls.callers heap history input trace found
    ∙ ap (λ (callers : List Activation). To (state_of (c.advance-made.new.self.innermost ∷ callers) heap history input trace)) (sym c.advance-made.ensures.callers)
