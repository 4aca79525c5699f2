use Rattle.std.proofs.Common.{◌≡◌, ℕ, ◌+◌, ◌-◌, ◌<◌, None, length, subst, arith, set}
use Rattle.slab_space.proofs.Tables.{Cleared, cleared_more}
use Rattle.slab_space.proofs.slots.clear.Goals as goal

pub loop-at-preserved : goal.loop-at-preserved
loop-at-preserved c =
    let old = c.args.slots.now.items in let new = c.loop-at.slots.items in let first = c.args.first in let at = c.loop-at.at in
    let here : first + (at - first) ≡ at = omega arith in
    let next : at - first + 1 ≡ at + 1 - first = omega arith in
    let inside : first + (at - first) < length old = omega arith in
    subst (λ (p : ℕ × ℕ). Cleared old (set new p.0 None) first p.1) (λ i. (here i, next i)) (cleared_more old new first (at - first) c.loop-at.invariant inside)
