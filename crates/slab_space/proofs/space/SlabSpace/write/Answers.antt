use Rattle.std.proofs.Common.{◌≡◌, ◌+◌, ◌*◌, ◌<◌, Some, None, length, get_or, set, sym, ap, ◌∙◌, refl, subst, arith}
use Rattle.std.specs.Prelude.{IsSome}
use Rattle.std.proofs.lemmas.List.{get_or_read, length-set}
use Rattle.run_theory.specs.Words.{with_word}
use Rattle.slab_space.specs.Runs.{owner_at, free_count}
use Rattle.slab_space.specs.Slots.{all_owners, all_bytes}
use Rattle.slab_space.specs.Space.{Space}
use Rattle.slab_space.proofs.Spaces.{held_reached, all_owners-set, all_bytes-set}
use Rattle.slab_space.proofs.space.SlabSpace.write.Goals as goal
use Rattle.slab_space.proofs.space.SlabSpace.write.Goals.{After-write}

reached : (c : After-write) → c.args.slab < length c.self.inside.slots.items
reached c = held_reached c.self.inside.slots.items c.self.inside.limit c.args.slab (subst (λ (v : Space). IsSome (owner_at v.owners c.args.slab)) (sym c.self.view_is) c.requires.held)

slot : (c : After-write) → get_or c.self.inside.slots.items c.args.slab None ≡ Some c.in-Some.held
slot c = sym (get_or_read c.self.inside.slots.items c.args.slab c.index_mut.result.now (reached c) c.index_mut.ensures.value None) ∙ c.in-Some.is

owners : (c : After-write) → all_owners (set c.self.inside.slots.items c.args.slab (Some (record { run = c.in-Some.held.run; memory = c.write.new.self }))) c.self.inside.limit ≡ all_owners c.self.inside.slots.items c.self.inside.limit
owners c = all_owners-set c.self.inside.slots.items c.self.inside.limit c.args.slab (Some c.in-Some.held) (Some (record { run = c.in-Some.held.run; memory = c.write.new.self })) (slot c) refl

bytes : (c : After-write) → all_bytes (set c.self.inside.slots.items c.args.slab (Some (record { run = c.in-Some.held.run; memory = c.write.new.self }))) c.self.inside.limit ≡ with_word (all_bytes c.self.inside.slots.items c.self.inside.limit) (4096 * c.args.slab + c.args.off) c.args.width c.args.word
bytes c = all_bytes-set c.self.inside.slots.items c.self.inside.limit c.args.slab (Some c.in-Some.held) (Some (record { run = c.in-Some.held.run; memory = c.write.new.self })) c.args.off c.args.width c.args.word (reached c) c.requires.inside (slot c) c.write.ensures

pub invariant_of-self : goal.invariant_of-self
invariant_of-self c' =
    let c = (goal.at.invariant_of-self c').After-write in
    record {
      within = omega (arith, c.self.invariant.within, length-set c.self.inside.slots.items c.args.slab (Some (record { run = c.in-Some.held.run; memory = c.write.new.self })));
      small = c.self.invariant.small;
      counted = omega (arith, ap free_count (owners c), c.self.invariant.counted);
      front = λ slab low. subst (λ o. IsSome (owner_at o slab)) (sym (owners c)) (c.self.invariant.front slab low);
    }

pub returns : goal.returns
returns c' =
    let c = (goal.at.returns c').After-write in
    rw (← c.self.view_is) (λ i. record { owners = owners c i; bytes = bytes c i })
