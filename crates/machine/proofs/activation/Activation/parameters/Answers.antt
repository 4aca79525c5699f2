use Rattle.std.proofs.Common.{◌≡◌, ℕ, ◌+◌, ◌-◌, ◌≤◌, List, length, take, drop, reverse, sym, ap, ◌∙◌, arith}
use Rattle.std.proofs.lemmas.List.{length-reverse, length-take, drop-take, take-take}
use Rattle.machine.proofs.Lists.{reverse-take, reverse-take_reverse}
use Rattle.machine.proofs.activation.Activation.parameters.Goals as goal

-- those behind the last `above` ones in their order
reverse-take_above : (xs : List ℕ) (above count : ℕ) → above + count ≤ length xs → take (length xs - above - (length xs - above - count)) (drop (length xs - above - count) xs) ≡ reverse (take count (drop above (reverse xs)))
reverse-take_above xs above count le =
    let k = length xs - above in
    let front = take k xs in
    let long : length front ≡ k = simp length-take (omega arith) in
    let all : k ≡ k - count + count = omega arith in
    let few : k - (k - count) ≡ count = omega arith in
    let part : drop (k - count) front ≡ take count (drop (k - count) xs) = ap (λ n. drop (k - count) (take n xs)) all ∙ drop-take (k - count) count xs in
    let turned : take (k - (k - count)) (drop (k - count) front) ≡ reverse (take count (reverse front)) =
    ap (λ n. take (n - (n - count)) (drop (n - count) front)) (sym long) ∙ reverse-take_reverse front count (omega arith) in
    let cut : take (k - (k - count)) (drop (k - count) front) ≡ take (k - (k - count)) (drop (k - count) xs) =
    ap (take (k - (k - count))) part ∙ take-take (k - (k - count)) count (drop (k - count) xs) (omega arith) in
    sym cut ∙ turned ∙ ap (λ ys. reverse (take count ys)) (reverse-take xs above (omega arith))

pub returns : goal.returns
returns c =
    let words = c.self.inside.operands.items in
    let there : c.args.above + c.args.count ≤ length words = rw length-reverse at (rw (← c.self.view_is) at c.requires) in
    let same : c.deref.result.now ≡ words = c.deref.ensures.value in
    let long : c.len.result ≡ length words = omega arith in
    rw (same, long, ← c.self.view_is) (reverse-take_above words c.args.above c.args.count there)
