-- Ranges of a list of bytes after a part of it was written.
use Rattle.std.proofs.Common.{◌≡◌, ℕ, zero, suc, ◌+◌, ◌-◌, ◌/◌, ◌^◌, ◌<◌, ◌≤◌, List, [], ◌++◌, Option, None, length, take, drop, replicate, get_or, refl, sym, ap, ◌∙◌, inl, inr, ◌+◌, arith, append_assoc, length-append, length-take, length-drop, drop-drop}
use Rattle.std.specs.Prelude.{IsSome}
use Rattle.std.proofs.lemmas.List.{length-replicate, append-nil, take_at, drop_at, take-append-drop, same_lists, get_or-take, get_or-drop, get_or_append_left, get_or-append_right, length-take-le, get_or_default, get_or_past}
use Rattle.std.proofs.lemmas.Bool.{cases_lt}
use Rattle.byteorder.specs.Endian.{little_from, little_number, little_bytes}
use Rattle.byteorder.specs.Numbers.{little_from-take, little_number-reads_back, length-bytes_low_first}
use Rattle.run_theory.specs.Words.{word_at, with_word}
use Rattle.raw_slab.proofs.WordsWritten.{length-with_word}
use Rattle.slab_space.specs.Runs.{owner_at, with_run}
use Rattle.slab_space.specs.Space.{Space}
use Rattle.slab_space.proofs.WithRun.{get_or-with_run_below, get_or-with_run_above}
use Rattle.slab_space.proofs.WordsInside.{word_at-inside, with_word-inside}
use Rattle.pool_runtime.specs.Bytes.{range, SameAt}
use Rattle.pool_runtime.specs.Tables.{IsSpace, AreHeld}

-- ---- words by place

little_from-drop : (i n p : ℕ) (xs : List ℕ) → little_from i n (drop p xs) ≡ little_from (p + i) n xs
little_from-drop i zero p xs = refl
little_from-drop i (suc n) p xs =
    let rest : little_from (suc i) n (drop p xs) ≡ little_from (suc (p + i)) n xs = little_from-drop (suc i) n p xs ∙ ap (λ k. little_from k n xs) (omega arith) in
    rw (get_or-drop p xs i 0, rest) refl

pub word_from : (bytes : List ℕ) (place width : ℕ) → word_at bytes place width ≡ little_from place width bytes
word_from bytes place width =
    little_from-take 0 width width (drop place bytes) (omega arith) ∙ little_from-drop 0 width place bytes ∙ ap (λ k. little_from k width bytes) (omega arith)

little_from-same : (old new : List ℕ) (place width : ℕ) → SameAt old new place width → little_from place width new ≡ little_from place width old
little_from-same old new place zero same = refl
little_from-same old new place (suc width) same =
    let rest = little_from-same old new (suc place) width (λ at low high. same at (omega arith) (omega arith)) in
    rw (same place (omega arith) (omega arith), rest) refl

pub word_at-same : (old new : List ℕ) (place width : ℕ) → SameAt old new place width → word_at new place width ≡ word_at old place width
word_at-same old new place width same = word_from new place width ∙ little_from-same old new place width same ∙ sym (word_from old place width)

-- ---- held bytes

pub owner_inside : (owners : List (Option ℕ)) (slab : ℕ) → IsSome (owner_at owners slab) → slab < length owners
owner_inside owners slab held = elim (cases_lt slab (length owners)) [ inl inside ↦ inside | inr beyond ↦ (let none = get_or_past owners slab None beyond in cc) ]

-- held bytes lie inside the space
pub held_inside : (space : Space) → IsSpace space → (place count : ℕ) → 1 ≤ count → AreHeld space.owners place count → place + count ≤ length space.bytes
held_inside space is place count some held =
    let last = owner_inside space.owners ((place + count - 1) / 4096) (held (place + count - 1) (omega arith) (omega arith)) in
    omega (arith, is.whole, last)

-- ---- ranges

pub length-range : (bytes : List ℕ) (place count : ℕ) → place + count ≤ length bytes → length (range bytes place count) ≡ count
length-range bytes place count inside = simp (length-take, length-drop) (omega arith)

pub get_or-range : (bytes : List ℕ) (place count at d : ℕ) → at < count → get_or (range bytes place count) at d ≡ get_or bytes (place + at) d
get_or-range bytes place count at d inside = get_or-take count (drop place bytes) at d inside ∙ get_or-drop place bytes at d

pub range-same : (old new : List ℕ) (place count : ℕ) → place + count ≤ length old → length new ≡ length old → SameAt old new place count → range new place count ≡ range old place count
range-same old new place count inside long same =
    same_lists (range new place count) (range old place count) (length-range new place count (omega (arith, long)) ∙ sym (length-range old place count inside)) (λ k d h.
    let h' : k < count = omega (arith, h, length-range new place count (omega (arith, long))) in
    get_or-range new place count k d h'
    ∙ get_or_default new (place + k) d 0 (omega (arith, long)) ∙ same (place + k) (omega arith) (omega arith) ∙ get_or_default old (place + k) 0 d (omega arith)
    ∙ sym (get_or-range old place count k d h'))

-- a range between what lies before and behind it
pub range_split : (bytes : List ℕ) (place count : ℕ) → bytes ≡ take place bytes ++ (range bytes place count ++ drop (place + count) bytes)
range_split bytes place count =
    sym (take-append-drop place bytes)
    ∙ ap (λ (r : List ℕ). take place bytes ++ r) (sym (take-append-drop count (drop place bytes)) ∙ ap (λ (r : List ℕ). range bytes place count ++ r) (drop-drop count place bytes))

range_at : (before part behind : List ℕ) (place count : ℕ) → length before ≡ place → length part ≡ count → range (before ++ (part ++ behind)) place count ≡ part
range_at before part behind place count long whole = ap (take count) (drop_at before (part ++ behind) place long) ∙ take_at part behind count whole

module _ (bytes : List ℕ) (place count : ℕ) (inside : place + count ≤ length bytes) where
  before_long : length (take place bytes) ≡ place
  before_long = length-take-le place bytes (omega arith)

  pub word_in_range : (off width : ℕ) → off + width ≤ count → word_at (range bytes place count) off width ≡ word_at bytes (place + off) width
  word_in_range off width within =
      sym (ap (λ (b : List ℕ). word_at b (place + off) width) (range_split bytes place count)
      ∙ word_at-inside (take place bytes) (range bytes place count) (drop (place + count) bytes) place off width before_long (omega (arith, length-range bytes place count inside)))

  pub range-written : (off width word : ℕ) → off + width ≤ count → range (with_word bytes (place + off) width word) place count ≡ with_word (range bytes place count) off width word
  range-written off width word within =
      let P = range bytes place count in let long = length-range bytes place count inside in
      ap (λ (b : List ℕ). range (with_word b (place + off) width word) place count) (range_split bytes place count)
      ∙ ap (λ (b : List ℕ). range b place count) (with_word-inside (take place bytes) P (drop (place + count) bytes) place off width before_long (omega (arith, long)) word)
      ∙ range_at (take place bytes) (with_word P off width word) (drop (place + count) bytes) place count before_long (length-with_word P off width word (omega (arith, long)) ∙ long)

  pub range-cleared : range (with_run bytes place count 0) place count ≡ replicate count 0
  range-cleared =
      ap (λ (b : List ℕ). range b place count) (append_assoc (take place bytes) (replicate count 0) (drop (place + count) bytes))
      ∙ range_at (take place bytes) (replicate count 0) (drop (place + count) bytes) place count before_long (length-replicate count 0)

-- ---- what lies elsewhere

module _ (bytes : List ℕ) (place width word : ℕ) (inside : place + width ≤ length bytes) where
  written : List ℕ
  written = little_bytes width word

  front_long : length (take place bytes ++ little_bytes width word) ≡ place + width
  front_long = let long = length-bytes_low_first 0 width word in simp (length-append, length-take) (omega (arith, long))

  get_or-written_below : (at d : ℕ) → at < place → get_or (with_word bytes place width word) at d ≡ get_or bytes at d
  get_or-written_below at d low =
      let front = front_long in let long = length-take-le place bytes (omega arith) in
      get_or_append_left (take place bytes ++ little_bytes width word) (drop (place + width) bytes) d at (omega (arith, front))
      ∙ get_or_append_left (take place bytes) (little_bytes width word) d at (omega (arith, long))
      ∙ get_or-take place bytes at d low

  get_or-written_above : (at d : ℕ) → place + width ≤ at → get_or (with_word bytes place width word) at d ≡ get_or bytes at d
  get_or-written_above at d high =
      let there : place + width + (at - (place + width)) ≡ at = omega arith in
      get_or-append_right (take place bytes ++ little_bytes width word) (drop (place + width) bytes) (place + width) at d front_long high
      ∙ get_or-drop (place + width) bytes (at - (place + width)) d ∙ ap (λ k. get_or bytes k d) there

  pub same_below_word : (from count : ℕ) → from + count ≤ place → SameAt bytes (with_word bytes place width word) from count
  same_below_word from count below at low high = get_or-written_below at 0 (omega arith)

  pub same_above_word : (from count : ℕ) → place + width ≤ from → SameAt bytes (with_word bytes place width word) from count
  same_above_word from count above at low high = get_or-written_above at 0 (omega arith)

  pub written_back : word < 256 ^ width → word_at (with_word bytes place width word) place width ≡ word
  written_back fits =
      ap (λ (b : List ℕ). word_at b place width) (append_assoc (take place bytes) (little_bytes width word) (drop (place + width) bytes))
      ∙ ap (little_number width) (range_at (take place bytes) (little_bytes width word) (drop (place + width) bytes) place width (length-take-le place bytes (omega arith)) (length-bytes_low_first 0 width word))
      ∙ ap (little_number width) (sym (append-nil (little_bytes width word))) ∙ little_number-reads_back width word [] fits

pub same_below_run : (bytes : List ℕ) (place width from count : ℕ) → place + width ≤ length bytes → from + count ≤ place → SameAt bytes (with_run bytes place width 0) from count
same_below_run bytes place width from count inside below at low high = get_or-with_run_below bytes place width at 0 0 inside (omega arith)

pub same_above_run : (bytes : List ℕ) (place width from count : ℕ) → place + width ≤ length bytes → place + width ≤ from → SameAt bytes (with_run bytes place width 0) from count
same_above_run bytes place width from count inside above at low high = get_or-with_run_above bytes place width at 0 0 inside (omega arith)
