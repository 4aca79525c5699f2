-- The space that a table of slabs stands for.
use Rattle.std.proofs.Common.{◌≡◌, ℕ, zero, suc, ◌+◌, ◌-◌, ◌*◌, ◌<◌, ◌≤◌, List, [], ◌∷◌, ◌++◌, Option, Some, None, true, false, length, take, drop, replicate, get_or, set, refl, sym, ap, ◌∙◌, inl, inr, arith, append_assoc, length-append}
use Rattle.std.specs.Prelude.{IsSome, is_some}
use Rattle.std.specs.List.{flat_map}
use Rattle.std.proofs.lemmas.Bool.{cases_lt}
use Rattle.std.proofs.Math.Seq.{map-set_same}
use Rattle.std.proofs.lemmas.List.{length-set, length-replicate, map-append, get_or_append_left, get_or-append_right, get_or-replicate, get_or_past, get_or_read, replicate-append-replicate}
use Rattle.std.proofs.lemmas.List.Concat.{flat_map-append}
use Rattle.run_theory.specs.Words.{zeros, word_at, with_word}
use Rattle.slab_space.specs.declared.slots.HeldSlab.{HeldSlab}
use Rattle.slab_space.specs.Runs.{owner_at, with_run, IsFreeRun, IsHeldRun}
use Rattle.slab_space.specs.Space.{IsZero}
use Rattle.slab_space.specs.Slots.{slot_owner, slot_bytes, owners_in, bytes_in, all_owners, all_bytes, Reaches}
use Rattle.slab_space.proofs.WithRun.{length-with_run, with_run-append, get_or-with_run_in}
use Rattle.slab_space.proofs.Pieces.{flat_parts, flat_parts-set, length-before}
use Rattle.slab_space.proofs.WordsInside.{word_at-inside, with_word-inside}
use Rattle.slab_space.proofs.Tables.{sized, length-owners_in, length-bytes_in, free_cleared, owner_slot}

zeros-append : (m n : ℕ) → zeros m ++ zeros n ≡ zeros (m + n)
unfolding zeros
zeros-append m n = replicate-append-replicate m n 0

zeros_none : zeros 0 ≡ []
unfolding zeros
zeros_none = refl

module _ (slots : List (Option HeldSlab)) (limit : ℕ) where
  pub length-all_owners : length slots ≤ limit → length (all_owners slots limit) ≡ limit
  length-all_owners within = length-append (owners_in slots) (replicate (limit - length slots) None) ∙ omega (arith, length-owners_in slots, length-replicate {A = Option ℕ} (limit - length slots) None)

  pub owner_reached : (slab : ℕ) → slab < length slots → owner_at (all_owners slots limit) slab ≡ owner_at (owners_in slots) slab
  owner_reached slab reached = get_or_append_left (owners_in slots) (replicate (limit - length slots) None) None slab (omega (arith, length-owners_in slots))

  pub owner_beyond : (slab : ℕ) → length slots ≤ slab → owner_at (all_owners slots limit) slab ≡ None
  owner_beyond slab beyond =
      get_or-append_right (owners_in slots) (replicate (limit - length slots) None) (length slots) slab None (length-owners_in slots) beyond
      ∙ elim (cases_lt (slab - length slots) (limit - length slots)) [
        | inl inside ↦ get_or-replicate (limit - length slots) (slab - length slots) None None inside
        | inr past ↦ get_or_past (replicate (limit - length slots) None) (slab - length slots) None (omega (arith, length-replicate {A = Option ℕ} (limit - length slots) None))
      ]

  -- a held slab was reached
  pub held_reached : (slab : ℕ) → IsSome (owner_at (all_owners slots limit) slab) → slab < length slots
  held_reached slab held = elim (cases_lt slab (length slots)) [ inl reached ↦ reached | inr beyond ↦ (let free = owner_beyond slab beyond in cc) ]

  pub held_run_reached : (first count : ℕ) → IsHeldRun (all_owners slots limit) first count → IsHeldRun (owners_in slots) first count
  held_run_reached first count run =
      let owned : (slab : ℕ) → first ≤ slab → slab < first + count → slab < length slots = λ slab low high. held_reached slab (ap is_some (run.held slab low high)) in
      let last : first + count - 1 < length slots = owned (first + count - 1) (omega (arith, run.some)) (omega (arith, run.some)) in
      record {
        some = run.some;
        inside = omega (arith, last, run.some, length-owners_in slots);
        held = λ slab low high. sym (owner_reached slab (owned slab low high)) ∙ run.held slab low high;
      }

  pub free_run_reached : (first count : ℕ) → IsFreeRun (all_owners slots limit) first count → first + count ≤ length slots → IsFreeRun (owners_in slots) first count
  free_run_reached first count run reached = record {
    inside = omega (arith, length-owners_in slots);
    free = λ slab low high. sym (owner_reached slab (omega arith)) ∙ run.free slab low high;
  }

  -- a part of all bytes: what lies before a reached slab, its own, and what lies behind
  module _ (slab : ℕ) (reached : slab < length slots) where
    before : List ℕ
    before = flat_map slot_bytes (take slab slots)

    behind : List ℕ
    behind = flat_map slot_bytes (drop (suc slab) slots) ++ zeros (4096 * (limit - length slots))

    parts : all_bytes slots limit ≡ before ++ (slot_bytes (get_or slots slab None) ++ behind)
    unfolding before behind
    parts = ap (λ b. b ++ zeros (4096 * (limit - length slots))) (flat_parts slot_bytes 4096 sized slots slab None reached) ∙ simp append_assoc

    parts-set : (slot : Option HeldSlab) → bytes_in (set slots slab slot) ++ zeros (4096 * (limit - length slots)) ≡ before ++ (slot_bytes slot ++ behind)
    unfolding before behind
    parts-set slot = ap (λ b. b ++ zeros (4096 * (limit - length slots))) (flat_parts-set slot_bytes 4096 sized slots slab slot reached) ∙ simp append_assoc

    length-before_slab : length before ≡ 4096 * slab
    unfolding before
    length-before_slab = length-before slot_bytes 4096 sized slots slab (omega arith)

    pub word_at-slab : (off width : ℕ) → off + width ≤ 4096 → word_at (all_bytes slots limit) (4096 * slab + off) width ≡ word_at (slot_bytes (get_or slots slab None)) off width
    word_at-slab off width inside =
        ap (λ b. word_at b (4096 * slab + off) width) parts
        ∙ word_at-inside before (slot_bytes (get_or slots slab None)) behind (4096 * slab) off width length-before_slab (omega (arith, sized (get_or slots slab None)))

    pub with_word-slab : (slot : Option HeldSlab) (off width word : ℕ) → off + width ≤ 4096 → slot_bytes slot ≡ with_word (slot_bytes (get_or slots slab None)) off width word
        → bytes_in (set slots slab slot) ++ zeros (4096 * (limit - length slots)) ≡ with_word (all_bytes slots limit) (4096 * slab + off) width word
    with_word-slab slot off width word inside written =
        parts-set slot ∙ ap (λ b. before ++ (b ++ behind)) written
        ∙ sym (with_word-inside before (slot_bytes (get_or slots slab None)) behind (4096 * slab) off width length-before_slab (omega (arith, sized (get_or slots slab None))) word)
        ∙ ap (λ b. with_word b (4096 * slab + off) width word) (sym parts)

-- a table that has grown stands for the same space
module _ (old new : List (Option HeldSlab)) (end limit : ℕ) (grown : Reaches old new end) (most : end ≤ limit) (was : length old ≤ limit) where
  length-grown : length new ≡ length old + grown.extra
  length-grown = ap length grown.grown ∙ length-append old (replicate grown.extra None) ∙ omega (arith, length-replicate {A = Option HeldSlab} grown.extra None)

  pub grown_within : length new ≤ limit
  grown_within = omega (arith, grown.within)

  owners_in-free : (n : ℕ) → owners_in (replicate n None) ≡ replicate n None
  owners_in-free zero = refl
  owners_in-free (suc n) = ap (λ o. None ∷ o) (owners_in-free n)

  bytes_in-free : (n : ℕ) → bytes_in (replicate n None) ≡ zeros (4096 * n)
  bytes_in-free zero = sym zeros_none
  bytes_in-free (suc n) = ap (λ b. zeros 4096 ++ b) (bytes_in-free n) ∙ zeros-append 4096 (4096 * n) ∙ ap zeros (omega arith)

  pub grown_owners_in : owners_in new ≡ owners_in old ++ replicate grown.extra None
  grown_owners_in = ap owners_in grown.grown ∙ map-append slot_owner old (replicate grown.extra None) ∙ ap (λ o. owners_in old ++ o) (owners_in-free grown.extra)

  pub grown_owners : all_owners new limit ≡ all_owners old limit
  grown_owners =
      let left : grown.extra + (limit - length new) ≡ limit - length old = omega (arith, length-grown, grown_within) in
      ap (λ o. o ++ replicate (limit - length new) None) grown_owners_in ∙ append_assoc (owners_in old) (replicate grown.extra None) (replicate (limit - length new) None)
      ∙ ap (λ o. owners_in old ++ o) (replicate-append-replicate grown.extra (limit - length new) None ∙ ap (λ n. replicate n None) left)

  pub grown_bytes : all_bytes new limit ≡ all_bytes old limit
  grown_bytes =
      let left : 4096 * grown.extra + 4096 * (limit - length new) ≡ 4096 * (limit - length old) = omega (arith, length-grown, grown_within) in
      ap (λ b. b ++ zeros (4096 * (limit - length new))) (ap bytes_in grown.grown ∙ flat_map-append slot_bytes old (replicate grown.extra None) ∙ ap (λ b. bytes_in old ++ b) (bytes_in-free grown.extra))
      ∙ append_assoc (bytes_in old) (zeros (4096 * grown.extra)) (zeros (4096 * (limit - length new)))
      ∙ ap (λ b. bytes_in old ++ b) (zeros-append (4096 * grown.extra) (4096 * (limit - length new)) ∙ ap zeros left)

pub slot_held : (slot : Option HeldSlab) → is_some slot ≡ true → IsSome (slot_owner slot)
slot_held None e = cc
slot_held (Some slab) e = refl

pub slot_unheld : (slot : Option HeldSlab) → is_some slot ≡ false → slot_owner slot ≡ None
slot_unheld None e = refl
slot_unheld (Some slab) e = cc

-- the owner of a slab by what was read of the table
pub owner_read : (slots : List (Option HeldSlab)) (limit slab : ℕ) (slot : Option HeldSlab) → slab < length slots → slot ≡ get_or slots slab slot → owner_at (all_owners slots limit) slab ≡ slot_owner slot
owner_read slots limit slab slot reached read =
    owner_reached slots limit slab reached ∙ owner_slot slots slab reached ∙ ap slot_owner (sym (get_or_read slots slab slot reached read None))

pub same_length : (old new : List (Option HeldSlab)) → owners_in new ≡ owners_in old → length new ≡ length old
same_length old new same = sym (length-owners_in new) ∙ ap length same ∙ length-owners_in old

-- a change of the table as a change of the space
module _ (old new : List (Option HeldSlab)) (limit : ℕ) where
  pub all_owners-same : owners_in new ≡ owners_in old → all_owners new limit ≡ all_owners old limit
  all_owners-same same = let long = same_length old new same in (λ i. same i ++ replicate (limit - long i) None)

  pub all_bytes-same : length new ≡ length old → bytes_in new ≡ bytes_in old → all_bytes new limit ≡ all_bytes old limit
  all_bytes-same long same = (λ i. same i ++ zeros (4096 * (limit - long i)))

  module _ (first count : ℕ) (inside : first + count ≤ length old) where
    pub length-run : (owner : Option ℕ) → owners_in new ≡ with_run (owners_in old) first count owner → length new ≡ length old
    length-run owner run = sym (length-owners_in new) ∙ ap length run ∙ length-with_run (owners_in old) first count owner (omega (arith, length-owners_in old)) ∙ length-owners_in old

    pub all_owners-run : (owner : Option ℕ) → owners_in new ≡ with_run (owners_in old) first count owner → all_owners new limit ≡ with_run (all_owners old limit) first count owner
    all_owners-run owner run =
        let long = length-run owner run in
        (λ i. run i ++ replicate (limit - long i) None) ∙ sym (with_run-append (owners_in old) (replicate (limit - length old) None) first count owner (omega (arith, length-owners_in old)))

    pub all_bytes-run : length new ≡ length old → bytes_in new ≡ with_run (bytes_in old) (4096 * first) (4096 * count) 0 → all_bytes new limit ≡ with_run (all_bytes old limit) (4096 * first) (4096 * count) 0
    all_bytes-run long run =
        (λ i. run i ++ zeros (4096 * (limit - long i))) ∙ sym (with_run-append (bytes_in old) (zeros (4096 * (limit - length old))) (4096 * first) (4096 * count) 0 (omega (arith, length-bytes_in old)))

-- the bytes of a free run are zero
pub free_is_zero : (slots : List (Option HeldSlab)) (limit first count : ℕ) → IsFreeRun (owners_in slots) first count → IsZero (all_bytes slots limit) (4096 * first) (4096 * count)
free_is_zero slots limit first count run at low high =
    let rest = zeros (4096 * (limit - length slots)) in
    let inside : 4096 * first + 4096 * count ≤ length (bytes_in slots) = omega (arith, run.inside, length-bytes_in slots, length-owners_in slots) in
    get_or_append_left (bytes_in slots) rest 0 at (omega arith)
    ∙ ap (λ b. get_or b at 0) (free_cleared slots first count run).bytes
    ∙ get_or-with_run_in (bytes_in slots) (4096 * first) (4096 * count) at 0 0 inside low high

-- the first slabs that are all held were reached
pub front_reached : (slots : List (Option HeldSlab)) (limit front : ℕ) → ((slab : ℕ) → slab < front → IsSome (owner_at (all_owners slots limit) slab)) → front ≤ length slots
front_reached slots limit zero held = omega arith
front_reached slots limit (suc front) held = omega (arith, held_reached slots limit front (held front (omega arith)))

-- another memory for a slab leaves the owners
pub all_owners-set : (slots : List (Option HeldSlab)) (limit slab : ℕ) (was slot : Option HeldSlab) → get_or slots slab None ≡ was → slot_owner slot ≡ slot_owner was → all_owners (set slots slab slot) limit ≡ all_owners slots limit
all_owners-set slots limit slab was slot here same =
    let owners = map-set_same slot_owner slots slab slot None (same ∙ ap slot_owner (sym here)) in
    let long = length-set slots slab slot in
    (λ i. owners i ++ replicate (limit - long i) None)

pub all_bytes-set : (slots : List (Option HeldSlab)) (limit slab : ℕ) (was slot : Option HeldSlab) (off width word : ℕ) → slab < length slots → off + width ≤ 4096 → get_or slots slab None ≡ was → slot_bytes slot ≡ with_word (slot_bytes was) off width word
    → all_bytes (set slots slab slot) limit ≡ with_word (all_bytes slots limit) (4096 * slab + off) width word
all_bytes-set slots limit slab was slot off width word reached inside here written =
    ap (λ n. bytes_in (set slots slab slot) ++ zeros (4096 * (limit - n))) (length-set slots slab slot)
    ∙ with_word-slab slots limit slab reached slot off width word inside (written ∙ ap (λ s. with_word (slot_bytes s) off width word) (sym here))
