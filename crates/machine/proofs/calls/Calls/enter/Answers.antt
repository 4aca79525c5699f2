use Rattle.std.proofs.Common.{◌≡◌, ◌+◌, ◌^◌, ◌<◌, List, ◌++◌, ◌∷◌, [], length, drop, replicate, reverse, subst, sym, ap, ◌∙◌, arith}
use Rattle.std.specs.List.{flat_map}
use Rattle.std.proofs.lemmas.List.{reverse-append, length-reverse, length-take}
use Rattle.byteorder.specs.Endian.{little_bytes}
use Rattle.pool_isa.specs.Machine.{Activation, advanced, next_start}
use Rattle.machine.specs.Steps.{IsStacked}
use Rattle.machine.proofs.Entry.{stacked_called}
use Rattle.machine.proofs.calls.Calls.enter.Goals as goal

pub invariant_of-self-2 : goal.invariant_of-self-2
invariant_of-self-2 c =
    let innermost = c.self.inside.innermost in
    let callers = c.self.inside.callers.items in
    let caller = c.replace-caller.result in
    let entered = c.in_ok-entered.entered in
    let count = c.args.function.now.parameters in
    let words = c.parameters-parameters.result.now in
    let few : length words < 2 ^ 32 = rw (c.parameters-parameters.ensures, length-reverse, length-take) (omega arith) in
    let made = c.in_ok-entered.ensures in
    let start : entered.start ≡ next_start innermost = ap (λ (a : Activation). a.start) made ∙ c.next_start-start.ensures in
    let bytes : entered.bytes ≡ flat_map (little_bytes 8) words ++ replicate c.args.function.now.extra 0 = ap (λ (a : Activation). a.bytes) made in
    let left = advanced innermost (drop (c.args.above + count) innermost.operands) in
    let room = stacked_called entered left (reverse callers) words c.args.function.now.extra c.self.invariant start bytes few (omega arith) in
    let is_caller : caller ≡ left = c.replace-caller.ensures.value ∙ c.discard.ensures in
    let is_callee : c.replace-caller.new.dest ≡ entered = c.replace-caller.ensures.after in
    let pushed = rw c.unwrap.ensures at c.push.ensures.items in
    let items : c.push.new.self.items ≡ callers ++ caller ∷ [] = pushed ∙ ap (λ (fs : List Activation). fs ++ caller ∷ []) c.reserve.ensures.items in
    let turned : reverse c.push.new.self.items ≡ left ∷ reverse callers = ap reverse items ∙ reverse-append callers (caller ∷ []) ∙ ap (λ (f : Activation). f ∷ reverse callers) is_caller in
    subst IsStacked (sym (ap (λ (f : Activation). f ∷ reverse c.push.new.self.items) is_callee ∙ ap (λ (fs : List Activation). entered ∷ fs) turned)) room
