use Rattle.std.proofs.Common.{◌≡◌, ◌-◌, ◌≤◌, ◌∷◌, length, set, drop, reverse, ap, ◌∙◌, arith}
use Rattle.std.proofs.lemmas.List.{length-reverse}
use Rattle.machine.proofs.Lists.{reverse-set_two}
use Rattle.machine.proofs.activation.Activation.replace_two.Goals as goal

pub returns : goal.returns
returns c =
    let words = c.self.inside.operands.items in
    let there : 2 ≤ length words = rw length-reverse at (rw (← c.self.view_is) at c.requires.there) in
    let long : c.len-count.result ≡ length words = omega arith in
    let turned : reverse (set (set words (c.len-count.result - 2) c.args.first) (c.len-count.result - 1) c.args.last) ≡ c.args.last ∷ c.args.first ∷ drop 2 (reverse words) =
    ap (λ n. reverse (set (set words (n - 2) c.args.first) (n - 1) c.args.last)) long ∙ reverse-set_two words c.args.first c.args.last there in
    rw (← c.self.view_is) (cc)
