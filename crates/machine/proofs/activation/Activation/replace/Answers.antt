use Rattle.std.proofs.Common.{◌≡◌, ◌-◌, ◌<◌, ◌∷◌, length, set, drop, reverse, ap, ◌∙◌, arith}
use Rattle.std.proofs.lemmas.List.{length-reverse}
use Rattle.machine.proofs.Lists.{reverse-set_last}
use Rattle.machine.proofs.activation.Activation.replace.Goals as goal

pub returns : goal.returns
returns c =
    let words = c.self.inside.operands.items in
    let there : 0 < length words = rw length-reverse at (rw (← c.self.view_is) at c.requires.there) in
    let long : c.len-last.result - 1 ≡ length words - 1 = omega arith in
    let left : reverse (set words (c.len-last.result - 1) c.args.word) ≡ c.args.word ∷ drop 1 (reverse words) = ap (λ n. reverse (set words n c.args.word)) long ∙ reverse-set_last words c.args.word there in
    rw (← c.self.view_is) (cc)
