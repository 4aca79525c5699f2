-- What becomes of the table of slabs.
use Rattle.std.proofs.Common.{◌≡◌, ℕ, zero, suc, ◌+◌, ◌*◌, ◌<◌, ◌≤◌, List, [], ◌∷◌, ◌++◌, Option, Some, None, length, take, drop, replicate, get_or, set, refl, sym, ap, ◌∙◌, subst, arith, length-append}
use Rattle.std.proofs.lemmas.List.{map-set, length-map, length-replicate, length-set, set-get_or, get_or-map, replicate_more, append_assoc}
use Rattle.std.specs.List.{flat_map}
use Rattle.run_theory.specs.Words.{zeros}
use Rattle.slab_space.specs.declared.slots.HeldSlab.{HeldSlab}
use Rattle.slab_space.specs.Runs.{owner_at, with_run, IsFreeRun}
use Rattle.slab_space.specs.Slots.{slot_owner, slot_bytes, owners_in, bytes_in, Reaches}
use Rattle.slab_space.proofs.WithRun.{with_run_more, with_run_none, with_run_twice, get_or-with_run_above}
use Rattle.slab_space.proofs.Pieces.{length-flat, blanked_more, flat_parts, flat_parts-set}

pub length-zeros : (n : ℕ) → length (zeros n) ≡ n
unfolding zeros
length-zeros n = length-replicate n 0

zeros-is : (n : ℕ) → zeros n ≡ replicate n 0
unfolding zeros
zeros-is n = refl

-- each slab has 4,096 bytes
pub sized : (slot : Option HeldSlab) → length (slot_bytes slot) ≡ 4096
sized None = length-zeros 4096
sized (Some slab) = slab.memory.whole

pub length-owners_in : (slots : List (Option HeldSlab)) → length (owners_in slots) ≡ length slots
length-owners_in slots = length-map slots slot_owner

pub length-bytes_in : (slots : List (Option HeldSlab)) → length (bytes_in slots) ≡ 4096 * length slots
length-bytes_in slots = length-flat slot_bytes 4096 sized slots

-- so many slabs from the first on were freed
pub record Cleared (old new : List (Option HeldSlab)) (first count : ℕ) : Type 0 where
  pub owners : owners_in new ≡ with_run (owners_in old) first count None
  pub bytes : bytes_in new ≡ with_run (bytes_in old) (4096 * first) (4096 * count) 0
  pub long : length new ≡ length old

pub cleared_none : (slots : List (Option HeldSlab)) (first : ℕ) → Cleared slots slots first 0
cleared_none slots first = record {
  owners = sym (with_run_none (owners_in slots) first None);
  bytes = sym (with_run_none (bytes_in slots) (4096 * first) 0);
  long = refl;
}

pub cleared_more : (old new : List (Option HeldSlab)) (first count : ℕ) → Cleared old new first count → first + count < length old → Cleared old (set new (first + count) None) first (count + 1)
cleared_more old new first count so_far inside = record {
  owners = map-set slot_owner new (first + count) None ∙ ap (λ o. set o (first + count) None) so_far.owners ∙ with_run_more (owners_in old) first count None (omega (arith, length-owners_in old));
  bytes = blanked_more slot_bytes 4096 sized new (bytes_in old) first count None 0 (zeros-is 4096) so_far.bytes (length-bytes_in old ∙ ap (λ n. 4096 * n) (sym so_far.long)) (omega (arith, so_far.long));
  long = length-set new (first + count) None ∙ so_far.long;
}

slot_free : (slot : Option HeldSlab) → slot_owner slot ≡ None → slot ≡ None
slot_free None e = refl
slot_free (Some slab) e = cc

-- the slot of a reached slab
pub owner_slot : (slots : List (Option HeldSlab)) (slab : ℕ) → slab < length slots → owner_at (owners_in slots) slab ≡ slot_owner (get_or slots slab None)
owner_slot slots slab inside = get_or-map slot_owner slots slab None None inside

-- the slabs of a free run have no memory
pub free_slot : (slots : List (Option HeldSlab)) (slab : ℕ) → slab < length slots → owner_at (owners_in slots) slab ≡ None → get_or slots slab None ≡ None
free_slot slots slab inside free = slot_free (get_or slots slab None) (sym (owner_slot slots slab inside) ∙ free)

-- freeing what is free changes nothing
pub free_cleared : (slots : List (Option HeldSlab)) (first count : ℕ) → IsFreeRun (owners_in slots) first count → Cleared slots slots first count
free_cleared slots first zero run = cleared_none slots first
free_cleared slots first (suc count) run =
    let inside : first + count < length slots = omega (arith, run.inside, length-owners_in slots) in
    let so_far : IsFreeRun (owners_in slots) first count = record { inside = omega (arith, run.inside); free = λ slab low high. run.free slab low (omega arith) } in
    let slot = free_slot slots (first + count) inside (run.free (first + count) (omega arith) (omega arith)) in
    let same : set slots (first + count) None ≡ slots = ap (λ s. set slots (first + count) s) (sym slot) ∙ set-get_or slots (first + count) None in
    let one : count + 1 ≡ suc count = omega arith in
    subst (λ (p : List (Option HeldSlab) × ℕ). Cleared slots p.0 first p.1) (λ i. (same i, one i)) (cleared_more slots slots first count (free_cleared slots first count so_far) inside)

-- so many slabs from the first on were given memory
pub record Filled (old new : List (Option HeldSlab)) (first count : ℕ) : Type 0 where
  pub owners : owners_in new ≡ with_run (owners_in old) first count (Some first)
  pub bytes : bytes_in new ≡ bytes_in old
  pub long : length new ≡ length old

pub filled_none : (slots : List (Option HeldSlab)) (first : ℕ) → Filled slots slots first 0
filled_none slots first = record { owners = sym (with_run_none (owners_in slots) first (Some first)); bytes = refl; long = refl }

bytes_in-set : (slots : List (Option HeldSlab)) (slab : ℕ) (slot : Option HeldSlab) → slab < length slots → slot_bytes slot ≡ slot_bytes (get_or slots slab None) → bytes_in (set slots slab slot) ≡ bytes_in slots
bytes_in-set slots slab slot inside same =
    flat_parts-set slot_bytes 4096 sized slots slab slot inside
    ∙ ap (λ (b : List ℕ). flat_map slot_bytes (take slab slots) ++ (b ++ flat_map slot_bytes (drop (suc slab) slots))) same
    ∙ sym (flat_parts slot_bytes 4096 sized slots slab None inside)

pub filled_more : (old new : List (Option HeldSlab)) (first count total : ℕ) (slab : HeldSlab) → Filled old new first count → IsFreeRun (owners_in old) first total → count < total → slab.run ≡ first → slab.memory.bytes ≡ zeros 4096
    → Filled old (set new (first + count) (Some slab)) first (count + 1)
filled_more old new first count total slab so_far run more is_first is_zero =
    let inside : first + count < length old = omega (arith, run.inside, length-owners_in old) in
    let here : first + count < length new = omega (arith, so_far.long) in
    let free : owner_at (owners_in new) (first + count) ≡ None =
    ap (λ o. owner_at o (first + count)) so_far.owners ∙ get_or-with_run_above (owners_in old) first count (first + count) (Some first) None (omega (arith, run.inside)) (omega arith) ∙ run.free (first + count) (omega arith) (omega arith) in
    let slot = free_slot new (first + count) here free in
    record {
      owners = map-set slot_owner new (first + count) (Some slab) ∙ ap (λ o. set (owners_in new) (first + count) (Some o)) is_first ∙ ap (λ o. set o (first + count) (Some first)) so_far.owners ∙ with_run_more (owners_in old) first count (Some first) (omega (arith, length-owners_in old));
      bytes = bytes_in-set new (first + count) (Some slab) here (is_zero ∙ ap slot_bytes (sym slot)) ∙ so_far.bytes;
      long = length-set new (first + count) (Some slab) ∙ so_far.long;
    }

-- what was filled is freed again
pub filled_cleared : (old new back : List (Option HeldSlab)) (first count total : ℕ) → Filled old new first count → IsFreeRun (owners_in old) first total → count ≤ total → owners_in back ≡ with_run (owners_in new) first count None → bytes_in back ≡ with_run (bytes_in new) (4096 * first) (4096 * count) 0
    → (owners_in back ≡ owners_in old) × (bytes_in back ≡ bytes_in old)
filled_cleared old new back first count total filled run some owners bytes =
    let front : IsFreeRun (owners_in old) first count = record { inside = omega (arith, run.inside); free = λ slab low high. run.free slab low (omega arith) } in
    let was = free_cleared old first count front in (
      owners ∙ ap (λ o. with_run o first count None) filled.owners ∙ with_run_twice (owners_in old) first count (Some first) None front.inside ∙ sym was.owners,
      bytes ∙ ap (λ b. with_run b (4096 * first) (4096 * count) 0) filled.bytes ∙ sym was.bytes,
    )

pub reaches_more : (old new : List (Option HeldSlab)) (end : ℕ) → Reaches old new end → length new < end → Reaches old (new ++ None ∷ []) end
reaches_more old new end so_far more = record {
  extra = so_far.extra + 1;
  grown = ap (λ n. n ++ None ∷ []) so_far.grown ∙ append_assoc old (replicate so_far.extra None) (None ∷ []) ∙ ap (λ n. old ++ n) (replicate_more so_far.extra None);
  within = omega (arith, length-append new (None ∷ []));
}
