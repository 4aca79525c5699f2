use Rattle.std.proofs.Common.{◌≡◌, ◌+◌, ◌<◌, ◌≤◌, length, sym, ◌∙◌, subst, arith}
use Rattle.std.specs.Prelude.{IsSome}
use Rattle.slab_space.specs.Runs.{owner_at}
use Rattle.slab_space.specs.Slots.{slot_owner}
use Rattle.slab_space.specs.Table.{space_of}
use Rattle.slab_space.proofs.RunsFound.{searched_held, searched_free, searched_found, searched_end, searched_full}
use Rattle.slab_space.proofs.Spaces.{length-all_owners, front_reached, owner_beyond, owner_read, slot_held, slot_unheld}
use Rattle.slab_space.proofs.space.SlabSpace.lowest_run.Goals as goal
use Rattle.slab_space.proofs.space.SlabSpace.lowest_run.Goals.{then-is_some, else-is_some+else-at-first}

pub returns-then-at-first : goal.returns-then-at-first
returns-then-at-first c =
    let s = c.self.inside in let slots = s.slots.items in let at = c.loop-at.at in
    let reached : at < length slots = omega (arith, s.slots.ok.0) in
    let free = owner_read slots s.limit at c.index.result.now reached c.index.ensures ∙ slot_unheld c.index.result.now (sym c.is_some.ensures ∙ c.if-is_some.false) in
    let enough : at + 1 ≡ c.loop-at.first + c.args.count = omega arith in
    rw (← c.self.view_is) (searched_found (space_of s).owners c.args.count c.loop-at.first at c.loop-at.invariant free enough (omega (arith, length-all_owners slots s.limit c.self.invariant.within)))

pub loop-at-preserved : goal.loop-at-preserved
loop-at-preserved c =
    let s = c.self.inside in let slots = s.slots.items in let at = c.loop-at.at in let first = c.loop-at.first in let owners = (space_of s).owners in
    let reached : at < length slots = omega (arith, s.slots.ok.0) in
    let owner : owner_at owners at ≡ slot_owner c.index.result.now = owner_read slots s.limit at c.index.result.now reached c.index.ensures in
    elim c.if-is_some.branch [
      | then-is_some w ↦ rw w.first-is (searched_held owners c.args.count first at c.requires c.loop-at.invariant (subst IsSome (sym owner) (slot_held c.index.result.now (sym c.is_some.ensures ∙ w.if-is_some.true))))
      | else-is_some+else-at-first w ↦ rw w.first-is (searched_free owners c.args.count first at c.loop-at.invariant (owner ∙ slot_unheld c.index.result.now (sym c.is_some.ensures ∙ w.if-is_some.false)) (omega (arith, c.loop-at.invariant.short, c.loop-at.invariant.order, w.if-at-first.false)))
    ]

pub returns-then-count-self : goal.returns-then-count-self
returns-then-count-self c =
    let s = c.self.inside in let slots = s.slots.items in let at = c.loop-at.at in
    let all : length slots ≤ at = omega (arith, s.slots.ok.0) in
    let long = length-all_owners slots s.limit c.self.invariant.within in
    rw (← c.self.view_is) (searched_end (space_of s).owners c.args.count c.loop-at.first at c.loop-at.invariant (λ slab behind. owner_beyond slots s.limit slab (omega arith)) (omega (arith, long, c.loop-at.invariant.order, c.self.invariant.within, s.slots.ok.0)))

pub returns-else-count-self : goal.returns-else-count-self
returns-else-count-self c =
    let s = c.self.inside in let slots = s.slots.items in let at = c.loop-at.at in
    let all : length slots ≤ at = omega (arith, s.slots.ok.0) in
    let long = length-all_owners slots s.limit c.self.invariant.within in
    rw (← c.self.view_is) (searched_full (space_of s).owners c.args.count c.loop-at.first at c.loop-at.invariant (λ slab behind. owner_beyond slots s.limit slab (omega arith)) (omega (arith, long)))

pub overflow_sub-self-inside : goal.overflow_sub-self-inside
overflow_sub-self-inside c =
    let s = c.self.inside in
    let front = front_reached s.slots.items s.limit s.lowest_free c.self.invariant.front in
    omega (arith, c.loop-at.invariant.order, c.self.invariant.within, s.slots.ok.0)
