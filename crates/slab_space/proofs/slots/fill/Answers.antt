use Rattle.std.proofs.Common.{◌≡◌, ℕ, ◌+◌, ◌-◌, ◌<◌, ◌≤◌, Some, refl, subst, arith, set}
use Rattle.slab_space.specs.declared.slots.HeldSlab.{HeldSlab}
use Rattle.slab_space.proofs.Tables.{Filled, filled_more, filled_cleared}
use Rattle.slab_space.proofs.slots.fill.Goals as goal

pub returns-in-Err-clause-err : goal.returns-in-Err-clause-err
returns-in-Err-clause-err c =
    let first = c.args.first in let at = c.loop-at.at in let some : at - first ≤ c.args.count = omega arith in
    (filled_cleared c.args.slots.now.items c.loop-at.slots.items c.clear.new.slots.items first (at - first) c.args.count c.loop-at.invariant c.requires some c.clear.ensures.owners c.clear.ensures.bytes).0

pub returns-in-Err-clause-bytes : goal.returns-in-Err-clause-bytes
returns-in-Err-clause-bytes c =
    let first = c.args.first in let at = c.loop-at.at in let some : at - first ≤ c.args.count = omega arith in
    (filled_cleared c.args.slots.now.items c.loop-at.slots.items c.clear.new.slots.items first (at - first) c.args.count c.loop-at.invariant c.requires some c.clear.ensures.owners c.clear.ensures.bytes).1

pub loop-at-preserved : goal.loop-at-preserved
loop-at-preserved c =
    let old = c.args.slots.now.items in let new = c.loop-at.slots.items in let first = c.args.first in let at = c.loop-at.at in
    let slab : HeldSlab = record { run = first; memory = c.in-Ok.memory } in
    let here : first + (at - first) ≡ at = omega arith in
    let next : at - first + 1 ≡ at + 1 - first = omega arith in
    let more : at - first < c.args.count = omega arith in
    subst (λ (p : ℕ × ℕ). Filled old (set new p.0 (Some slab)) first p.1) (λ i. (here i, next i)) (filled_more old new first (at - first) c.args.count slab c.loop-at.invariant c.requires more refl c.in-Ok.ensures)
