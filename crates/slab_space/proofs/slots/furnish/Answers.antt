use Rattle.std.proofs.Common.{◌≡◌, ℕ, ◌+◌, ◌*◌, ◌≤◌, Option, Some, List, length, Result, Ok, Err, sym, ap, ◌∙◌, subst, arith}
use Rattle.std.specs.Prelude.{OnErr}
use Rattle.slab_space.specs.declared.slots.HeldSlab.{HeldSlab}
use Rattle.slab_space.specs.Runs.{IsFreeRun, with_run}
use Rattle.slab_space.specs.Slots.{owners_in, all_owners, all_bytes, Reaches}
use Rattle.slab_space.specs.Space.{IsZero}
use Rattle.slab_space.proofs.Spaces.{length-all_owners, free_run_reached, grown_within, grown_owners, grown_bytes, same_length, all_owners-same, all_bytes-same, length-run, all_owners-run, free_is_zero}
use Rattle.slab_space.proofs.slots.furnish.Goals as goal
use Rattle.slab_space.proofs.slots.furnish.Goals.{In_ok-reach, In_ok-fill}

on_err : {T E P : Type 0} (r : Result T E) → P → OnErr r P
on_err (Ok x) p = tt
on_err (Err e) p = p

module _ (old mid : List (Option HeldSlab)) (first count limit : ℕ) (within : length old ≤ limit) (run : IsFreeRun (all_owners old limit) first count) (grown : Reaches old mid (first + count)) where
  most : first + count ≤ limit
  most = omega (arith, run.inside, length-all_owners old limit within)

  owners_reached : all_owners mid limit ≡ all_owners old limit
  owners_reached = grown_owners old mid (first + count) limit grown most within

  bytes_reached : all_bytes mid limit ≡ all_bytes old limit
  bytes_reached = grown_bytes old mid (first + count) limit grown most within

  free_reached : first + count ≤ length mid → IsFreeRun (owners_in mid) first count
  free_reached reached = free_run_reached mid limit first count (subst (λ o. IsFreeRun o first count) (sym owners_reached) run) reached

pub returns-in_err-reach-clause-err : goal.returns-in_err-reach-clause-err
returns-in_err-reach-clause-err c = on_err c.from_residual.result (owners_reached c.args.slots.now.items c.reach.new.slots.items c.args.first c.args.count c.args.limit (omega (arith, c.args.slots.now.ok.0)) c.requires.free c.reach.ensures.grown)

pub returns-in_err-reach-clause-bytes : goal.returns-in_err-reach-clause-bytes
returns-in_err-reach-clause-bytes c = bytes_reached c.args.slots.now.items c.reach.new.slots.items c.args.first c.args.count c.args.limit (omega (arith, c.args.slots.now.ok.0)) c.requires.free c.reach.ensures.grown

free_now : (c : In_ok-reach) → IsFreeRun (owners_in c.reach.new.slots.items) c.args.first c.args.count
free_now c = free_reached c.args.slots.now.items c.reach.new.slots.items c.args.first c.args.count c.args.limit (omega (arith, c.args.slots.now.ok.0)) c.requires.free c.reach.ensures.grown (omega (arith, c.reach.new.slots.ok.0, c.in_ok-reach.ensures.reached))

pub fill-requires : goal.fill-requires
fill-requires c = free_now (goal.at.fill-requires c).In_ok-reach

pub returns-in_err-fill-clause-err : goal.returns-in_err-fill-clause-err
returns-in_err-fill-clause-err c =
    let old = c.args.slots.now.items in let mid = c.reach.new.slots.items in let new = c.fill.new.slots.items in let limit = c.args.limit in
    on_err c.from_residual-in_err-fill.result (all_owners-same mid new limit c.in_err-fill.ensures.err ∙ owners_reached old mid c.args.first c.args.count limit (omega (arith, c.args.slots.now.ok.0)) c.requires.free c.reach.ensures.grown)

pub returns-in_err-fill-clause-bytes : goal.returns-in_err-fill-clause-bytes
returns-in_err-fill-clause-bytes c =
    let old = c.args.slots.now.items in let mid = c.reach.new.slots.items in let new = c.fill.new.slots.items in let limit = c.args.limit in
    all_bytes-same mid new limit (same_length mid new c.in_err-fill.ensures.err) c.in_err-fill.ensures.bytes ∙ bytes_reached old mid c.args.first c.args.count limit (omega (arith, c.args.slots.now.ok.0)) c.requires.free c.reach.ensures.grown

reached : (c : In_ok-fill) → c.args.first + c.args.count ≤ length c.reach.new.slots.items
reached c = omega (arith, c.reach.new.slots.ok.0, c.in_ok-reach.ensures.reached)

long : (c : In_ok-fill) → length c.fill.new.slots.items ≡ length c.reach.new.slots.items
long c = length-run c.reach.new.slots.items c.fill.new.slots.items c.args.limit c.args.first c.args.count (reached c) (Some c.args.first) c.in_ok-fill.ensures.owners

pub returns-clause-within : goal.returns-clause-within
returns-clause-within c =
    let was : length c.args.slots.now.items ≤ c.args.limit = omega (arith, c.args.slots.now.ok.0) in
    let end : c.args.first + c.args.count ≤ c.args.limit = most c.args.slots.now.items c.reach.new.slots.items c.args.first c.args.count c.args.limit was c.requires.free c.reach.ensures.grown in
    omega (arith, long c, c.fill.new.slots.ok.0, grown_within c.args.slots.now.items c.reach.new.slots.items (c.args.first + c.args.count) c.args.limit c.reach.ensures.grown end was)

pub returns-clause-owners : goal.returns-clause-owners
returns-clause-owners c =
    let old = c.args.slots.now.items in let mid = c.reach.new.slots.items in let new = c.fill.new.slots.items in let limit = c.args.limit in
    all_owners-run mid new limit c.args.first c.args.count (reached c) (Some c.args.first) c.in_ok-fill.ensures.owners
    ∙ ap (λ o. with_run o c.args.first c.args.count (Some c.args.first)) (owners_reached old mid c.args.first c.args.count limit (omega (arith, c.args.slots.now.ok.0)) c.requires.free c.reach.ensures.grown)

pub returns-clause-bytes : goal.returns-clause-bytes
returns-clause-bytes c =
    let old = c.args.slots.now.items in let mid = c.reach.new.slots.items in let new = c.fill.new.slots.items in let limit = c.args.limit in
    all_bytes-same mid new limit (long c) c.in_ok-fill.ensures.bytes ∙ bytes_reached old mid c.args.first c.args.count limit (omega (arith, c.args.slots.now.ok.0)) c.requires.free c.reach.ensures.grown

pub returns-clause-zero : goal.returns-clause-zero
returns-clause-zero c =
    let mid = c.reach.new.slots.items in let new = c.fill.new.slots.items in let limit = c.args.limit in
    let zero = free_is_zero mid limit c.args.first c.args.count (free_now (goal.at.returns-clause-zero c).In_ok-reach) in
    subst (λ b. IsZero b (4096 * c.args.first) (4096 * c.args.count)) (sym (all_bytes-same mid new limit (long c) c.in_ok-fill.ensures.bytes)) zero
