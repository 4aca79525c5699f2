use Rattle.std.proofs.Common.{◌≡◌, ◌-◌, ◌≤◌, length, set, take, reverse, ap, ◌∙◌, arith}
use Rattle.std.proofs.lemmas.List.{length-reverse}
use Rattle.machine.proofs.Lists.{reverse-combined}
use Rattle.machine.proofs.activation.Activation.combine.Goals as goal

pub returns : goal.returns
returns c =
    let words = c.self.inside.operands.items in
    let there : 2 ≤ length words = rw length-reverse at (rw (← c.self.view_is) at c.requires.there) in
    let left : c.len-left.result - 1 ≡ length words - 1 = omega arith in
    let items : c.truncate.new.self.items ≡ take (length words - 1) words = c.truncate.ensures.items ∙ ap (λ n. take n words) left in
    let at : c.len-left.result - 1 - 1 ≡ length words - 2 = omega arith in
    let set_ : set c.truncate.new.self.items (c.len-left.result - 1 - 1) c.args.word ≡ set (take (length words - 1) words) (length words - 2) c.args.word =
    ap (λ n. set c.truncate.new.self.items n c.args.word) at ∙ ap (λ xs. set xs (length words - 2) c.args.word) items in
    let turned = ap reverse set_ ∙ reverse-combined words c.args.word there in
    rw (← c.self.view_is) (cc)
