use Rattle.std.proofs.Common.{◌≡◌, ◌≤◌, ◌-◌, length, take, drop, reverse, ap, ◌∙◌, arith}
use Rattle.std.proofs.lemmas.List.{length-reverse}
use Rattle.machine.proofs.Lists.{reverse-take}
use Rattle.machine.proofs.activation.Activation.discard.Goals as goal

pub returns : goal.returns
returns c =
    let words = c.self.inside.operands.items in
    let there : c.args.count ≤ length words = rw length-reverse at (rw (← c.self.view_is) at c.requires.there) in
    let long : c.len.result - c.args.count ≡ length words - c.args.count = omega arith in
    let left : reverse c.truncate.new.self.items ≡ drop c.args.count (reverse words) = ap reverse (c.truncate.ensures.items ∙ ap (λ n. take n words) long) ∙ reverse-take words c.args.count there in
    rw (← c.self.view_is) (cc)
