use Rattle.std.proofs.Common.{◌≡◌, ℕ, ◌+◌, ◌<◌, ◌≤◌, sym, ap, subst, inl, inr, arith}
use Rattle.std.specs.Prelude.{IsSome}
use Rattle.std.proofs.lemmas.Bool.{cases_lt}
use Rattle.slab_space.specs.Runs.{owner_at, free_count, IsLowestRun}
use Rattle.slab_space.specs.Space.{Space}
use Rattle.slab_space.specs.Table.{space_of}
use Rattle.slab_space.proofs.WithRun.{free_count_taken}
use Rattle.slab_space.proofs.RunsFound.{lowest_is_not_full}
use Rattle.slab_space.proofs.Counts.{taken_is_held, held_stays, below_lowest}
use Rattle.slab_space.proofs.space.SlabSpace.take_run.Goals as goal
use Rattle.slab_space.proofs.space.SlabSpace.take_run.Goals.{In-Ok, then-count-eq1-via-then-count-eq1, then-count-eq1-via-else-count-eq1+then-first-self}

run : (c : In-Ok) → IsLowestRun (space_of c.self.inside).owners c.args.count c.in-Some.first
run c = subst (λ (v : Space). IsLowestRun v.owners c.args.count c.in-Some.first) (sym c.self.view_is) c.in-Some.ensures

counted : (c : In-Ok) → c.self.inside.held + c.args.count + free_count (space_of (record c.self.inside { slots = c.furnish.new.slots })).owners ≡ c.self.inside.limit
counted c =
    let taken = free_count_taken (space_of c.self.inside).owners c.in-Some.first c.args.count (run c).free in
    omega (arith, ap free_count c.in-Ok.ensures.owners, taken, c.self.invariant.counted)

-- a slab that was held still is
held : (c : In-Ok) (slab : ℕ) → IsSome (owner_at (space_of c.self.inside).owners slab) → IsSome (owner_at (space_of (record c.self.inside { slots = c.furnish.new.slots })).owners slab)
held c slab was = subst (λ o. IsSome (owner_at o slab)) (sym c.in-Ok.ensures.owners) (held_stays (space_of c.self.inside).owners c.in-Some.first c.args.count (run c).free.inside slab was)

taken : (c : In-Ok) (slab : ℕ) → c.in-Some.first ≤ slab → slab < c.in-Some.first + c.args.count → IsSome (owner_at (space_of (record c.self.inside { slots = c.furnish.new.slots })).owners slab)
taken c slab low high = subst (λ o. IsSome (owner_at o slab)) (sym c.in-Ok.ensures.owners) (taken_is_held (space_of c.self.inside).owners c.in-Some.first c.args.count (run c).free.inside slab low high)

pub invariant_of-self : goal.invariant_of-self
invariant_of-self c' =
    let c = (goal.at.invariant_of-self c').In-Ok in
    record {
      within = omega (arith, c.furnish.ensures.within, c.furnish.new.slots.ok.0);
      small = c.self.invariant.small;
      counted = counted c;
      front = λ slab low. held c slab (c.self.invariant.front slab low);
    }

pub invariant_of-self-then-count-eq1 : goal.invariant_of-self-then-count-eq1
invariant_of-self-then-count-eq1 c' =
    let c = (goal.at.invariant_of-self-then-count-eq1 c').In-Ok in
    let below : (slab : ℕ) → slab < c.in-Some.first → IsSome (owner_at (space_of c.self.inside).owners slab) = λ slab low.
    elim c'.then-count-eq1.branch [
      | then-count-eq1-via-then-count-eq1 w ↦ below_lowest (space_of c.self.inside).owners c.in-Some.first slab (subst (λ n. IsLowestRun (space_of c.self.inside).owners n c.in-Some.first) w.if-count-eq1.true (run c)) low
      | then-count-eq1-via-else-count-eq1+then-first-self w ↦ c.self.invariant.front slab (omega (arith, w.if-first-self.true))
    ] in
    record {
      within = omega (arith, c.furnish.ensures.within, c.furnish.new.slots.ok.0);
      small = c.self.invariant.small;
      counted = counted c;
      front = λ slab low. elim (cases_lt slab c.in-Some.first) [ inl under ↦ held c slab (below slab under) | inr from ↦ taken c slab from low ];
    }

pub returns-then-count-eq1-clause-full : goal.returns-then-count-eq1-clause-full
returns-then-count-eq1-clause-full c = ((λ e. cc), λ full. absurd (lowest_is_not_full c.args.self.now.owners c.args.count c.in-Some.first c.in-Some.ensures full))

pub returns-else-first-self-clause-full : goal.returns-else-first-self-clause-full
returns-else-first-self-clause-full c = ((λ e. cc), λ full. absurd (lowest_is_not_full c.args.self.now.owners c.args.count c.in-Some.first c.in-Some.ensures full))

pub returns-in-Err-clause-full : goal.returns-in-Err-clause-full
returns-in-Err-clause-full c = ((λ e. cc), λ full. absurd (lowest_is_not_full c.args.self.now.owners c.args.count c.in-Some.first c.in-Some.ensures full))
