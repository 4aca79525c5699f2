use Rattle.std.proofs.Common.{◌≡◌, ◌-◌, ◌<◌, ◌∷◌, List, length, drop, reverse, set, refl, subst, sym, ap, ◌∙◌, arith}
use Rattle.std.specs.Prelude.{slice_get}
use Rattle.std.proofs.lemmas.Bool.Decides.{nat_tests}
use Rattle.image_form.specs.Form.{function_of}
use Rattle.pool_isa.specs.Machine.{Activation, with_one, returned_value}
use Rattle.machine.specs.Steps.{IsStacked, GoesInside, state_of}
use Rattle.machine.proofs.Lists.{reverse-set_last}
use Rattle.machine.proofs.Returning.{reverse-last, function_there, function_missing, return_reached, return_full, return_on}
use Rattle.machine.proofs.calls.Calls.finish_with_value.Goals as goal

pub returns-in_default-get : goal.returns-in_default-get
returns-in_default-get c = λ code function heap h history input trace.
    let innermost = c.self.inside.innermost in
    let callers = c.self.inside.callers.items in
    let caller = c.index_mut-caller.result.now in
    let there : 0 < length callers = grind (arith, nat_tests) in
    let front = reverse-last callers (c.len-last.result - 1) caller there (omega arith) c.index_mut-caller.ensures.value in
    let none = function_missing c.args.functions.now c.function.result c.in_default-get.ensures.lookup.3 in
    let state = state_of (innermost ∷ reverse callers) heap history input trace in
    rw (← c.self.view_is, c.trap-in_default-get.ensures) (record {
      halts = return_reached code.functions innermost.operands c.in-Some.word (reverse callers) caller state c.in-Some.ensures front (ap (λ fs. slice_get fs caller.function) h ∙ (rw c.function.ensures at none));
      heap_is = refl;
    })

pub returns-then-is_full : goal.returns-then-is_full
returns-then-is_full c = λ code function heap h history input trace.
    let innermost = c.self.inside.innermost in
    let callers = c.self.inside.callers.items in
    let caller = c.index_mut-caller.result.now in
    let there : 0 < length callers = grind (arith, nat_tests) in
    let front = reverse-last callers (c.len-last.result - 1) caller there (omega arith) c.index_mut-caller.ensures.value in
    let found = c.in-Some-get.ensures.lookup in
    let some = function_there c.args.functions.now c.function.result c.in-Some-get.function.now found.3.0 found.1 in
    let state = state_of (innermost ∷ reverse callers) heap history input trace in
    rw (← c.self.view_is, c.trap-then-is_full.ensures) (record {
      halts = return_full code.functions innermost.operands c.in-Some.word (reverse callers) caller state c.in-Some.ensures front (function_of c.in-Some-get.function.now) (ap (λ fs. slice_get fs caller.function) h ∙ (rw c.function.ensures at some)) (c.is_full.ensures.0 c.if-is_full.true);
      heap_is = refl;
    })

pub invariant_of-self-in-Ok : goal.invariant_of-self-in-Ok
invariant_of-self-in-Ok c =
    let innermost = c.self.inside.innermost in
    let callers = c.self.inside.callers.items in
    let caller = c.index_mut-caller.result.now in
    let there : 0 < length callers = grind (arith, nat_tests) in
    let front = reverse-last callers (c.len-last.result - 1) caller there (omega arith) c.index_mut-caller.ensures.value in
    let given = record caller { operands = c.in-Some.word ∷ caller.operands } in
    let at : c.len-last.result - 1 ≡ length callers - 1 = omega arith in
    let turned : reverse (set callers (c.len-last.result - 1) c.give.new.self) ≡ given ∷ drop 1 (reverse callers) =
    ap (λ n. reverse (set callers n c.give.new.self)) at ∙ reverse-set_last callers c.give.new.self there ∙ ap (λ (f : Activation). f ∷ drop 1 (reverse callers)) c.in-Ok.ensures.ok in
    let room : IsStacked (innermost ∷ given ∷ drop 1 (reverse callers)) = subst (λ (fs : List Activation). IsStacked (innermost ∷ fs)) front c.self.invariant in
    subst (λ (fs : List Activation). IsStacked (innermost ∷ fs)) (sym turned) room

pub returns-in-Ok : goal.returns-in-Ok
returns-in-Ok c = λ code function heap h history input trace.
    let innermost = c.self.inside.innermost in
    let callers = c.self.inside.callers.items in
    let caller = c.index_mut-caller.result.now in
    let there : 0 < length callers = grind (arith, nat_tests) in
    let front = reverse-last callers (c.len-last.result - 1) caller there (omega arith) c.index_mut-caller.ensures.value in
    let found = c.in-Some-get.ensures.lookup in
    let some = function_there c.args.functions.now c.function.result c.in-Some-get.function.now found.3.0 found.1 in
    let state = state_of (innermost ∷ reverse callers) heap history input trace in
    let back = return_on code.functions innermost.operands c.in-Some.word (reverse callers) caller state c.in-Some.ensures front (function_of c.in-Some-get.function.now) (ap (λ fs. slice_get fs caller.function) h ∙ (rw c.function.ensures at some)) (grind (arith, nat_tests)) in
    let given = record caller { operands = c.in-Some.word ∷ caller.operands } in
    let at : c.len-last.result - 1 ≡ length callers - 1 = omega arith in
    let turned : reverse (set callers (c.len-last.result - 1) c.give.new.self) ≡ given ∷ drop 1 (reverse callers) =
    ap (λ n. reverse (set callers n c.give.new.self)) at ∙ reverse-set_last callers c.give.new.self there ∙ ap (λ (f : Activation). f ∷ drop 1 (reverse callers)) c.in-Ok.ensures.ok in
    rw (← c.self.view_is)
    (subst (λ (fs : List Activation). GoesInside (with_one innermost.operands state (λ w rest. returned_value code.functions w (reverse callers) state)) state fs heap) (sym turned ∙ c.leave.ensures) back)
