use Rattle.std.proofs.Common.{◌≡◌, ◌+◌, ◌-◌, ◌*◌, ◌≤◌, None, length, sym, ap, ◌∙◌, subst, arith}
use Rattle.std.specs.Prelude.{IsSome}
use Rattle.slab_space.specs.Runs.{owner_at, free_count, with_run, IsHeldRun}
use Rattle.slab_space.specs.Slots.{all_owners, all_bytes, owners_in, bytes_in}
use Rattle.slab_space.specs.Space.{Space}
use Rattle.slab_space.specs.Table.{space_of}
use Rattle.slab_space.proofs.WithRun.{free_count_given}
use Rattle.slab_space.proofs.Counts.{run_is_held, held_below}
use Rattle.slab_space.proofs.Tables.{length-owners_in}
use Rattle.slab_space.proofs.Spaces.{length-all_owners, held_run_reached, all_owners-run, all_bytes-run}
use Rattle.slab_space.proofs.space.SlabSpace.give_run.Goals as goal
use Rattle.slab_space.proofs.space.SlabSpace.give_run.Goals.{After-clear}

run : (c : After-clear) → IsHeldRun (space_of c.self.inside).owners c.args.first c.args.count
run c = subst (λ (v : Space). IsHeldRun v.owners c.args.first c.args.count) (sym c.self.view_is) c.requires

inside : (c : After-clear) → c.args.first + c.args.count ≤ length c.self.inside.slots.items
inside c =
    let s = c.self.inside in
    omega (arith, (held_run_reached s.slots.items s.limit c.args.first c.args.count (run c)).inside, length-owners_in s.slots.items)

counted : (c : After-clear) → c.args.first + c.args.count - c.args.first ≡ c.args.count
counted c = omega arith

owners : (c : After-clear) → all_owners c.clear.new.slots.items c.self.inside.limit ≡ with_run (space_of c.self.inside).owners c.args.first c.args.count None
owners c =
    let s = c.self.inside in let old = s.slots.items in
    all_owners-run old c.clear.new.slots.items s.limit c.args.first c.args.count (inside c) None (c.clear.ensures.owners ∙ ap (λ n. with_run (owners_in old) c.args.first n None) (counted c))

bytes : (c : After-clear) → all_bytes c.clear.new.slots.items c.self.inside.limit ≡ with_run (space_of c.self.inside).bytes (4096 * c.args.first) (4096 * c.args.count) 0
bytes c =
    let s = c.self.inside in let old = s.slots.items in
    let long : length c.clear.new.slots.items ≡ length old = omega (arith, c.clear.ensures.len, c.clear.new.slots.ok.0, s.slots.ok.0) in
    all_bytes-run old c.clear.new.slots.items s.limit c.args.first c.args.count (inside c) long (c.clear.ensures.bytes ∙ ap (λ n. with_run (bytes_in old) (4096 * c.args.first) (4096 * n) 0) (counted c))

some_held : (c : After-clear) → c.args.count ≤ c.self.inside.held
some_held c =
    let s = c.self.inside in
    run_is_held (space_of s).owners c.args.first c.args.count s.held (run c) (c.self.invariant.counted ∙ sym (length-all_owners s.slots.items s.limit c.self.invariant.within))

pub overflow_sub-self : goal.overflow_sub-self
overflow_sub-self c = some_held c

pub invariant_of-self : goal.invariant_of-self
invariant_of-self c' =
    let c = (goal.at.invariant_of-self c').After-clear in
    let s = c.self.inside in
    let free = ap free_count (owners c) ∙ free_count_given (space_of s).owners c.args.first c.args.count (run c) in
    record {
      within = omega (arith, c.clear.ensures.len, c.clear.new.slots.ok.0, s.slots.ok.0, c.self.invariant.within);
      small = c.self.invariant.small;
      counted = omega (arith, free, c.self.invariant.counted, some_held c);
      front = λ slab low. subst (λ o. IsSome (owner_at o slab)) (sym (owners c)) (held_below (space_of s).owners c.args.first c.args.count (run c).inside slab (omega (arith, c'.min-self-inside.ensures)) (c.self.invariant.front slab (omega (arith, c'.min-self-inside.ensures))));
    }

pub returns : goal.returns
returns c' =
    let c = (goal.at.returns c').After-clear in
    rw (← c.self.view_is) (λ i. record { owners = owners c i; bytes = bytes c i })
