use Rattle.std.proofs.Common.{◌≡◌, ℕ, ◌+◌, List, [], ◌∷◌, ◌++◌, reverse, ap, ◌∙◌, rules}
use Rattle.std.proofs.lemmas.List.{reverse-append}
use Rattle.pool_isa.specs.Machine.{input_word}
use Rattle.machine.proofs.activation.Activation.push_next.Goals as goal

pub returns-in-Ok-clause-pushed : goal.returns-in-Ok-clause-pushed
returns-in-Ok-clause-pushed g c = λ input told.
    let inside = c.self.inside in
    let words = inside.operands.items in
    let taken = c.input_word.ensures _ _ c.in-Ok.ensures.read input told in
    let pushed : c.push.new.self.items ≡ words ++ c.input_word.result ∷ [] = search rules in
    let turned : reverse c.push.new.self.items ≡ input_word input ∷ reverse words =
    ap reverse pushed ∙ (reverse-append words (c.input_word.result ∷ []) ∙ ap (λ word. word ∷ reverse words) taken.0) in
    (rw (← c.self.view_is) (ap (λ (operands : List ℕ). record { function = inside.function; place = inside.place + 1; operands = operands; start = inside.start; bytes = inside.bytes }) turned), taken.1)
