use Rattle.std.proofs.Common.{◌≡◌, ◌∙◌, ap, arith, length, drop, take}
use Rattle.pcc_outside.proofs.Reading.{Takes-front}
use Rattle.pcc_outside.proofs.memory.MemSourceSource.read.Goals as goal

pub returns-clause-takes : goal.returns-clause-takes
returns-clause-takes c =
    let e = c.copy_front-n.ensures in
    let left_is : drop c.self.inside.taken c.self.inside.bytes.items ≡ c.args.self.now.left = ap (λ s. s.left) c.self.view_is in
    let was : c.left.result.now ≡ c.args.self.now.left = c.left.ensures ∙ left_is in
    Takes-front _ _ _ _ _ left_is (e.copied ∙ ap (take c.copy_front-n.result) was)
    (omega (arith, e.count, ap length was)) (λ none. omega (arith, e.count, ap length was, none, c.self.invariant.1, c.requires))
