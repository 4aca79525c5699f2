-- Bytes written over in a list, and the numbers that stand there afterwards.
use Rattle.std.proofs.Common.{◌≡◌, ℕ, zero, suc, ◌+◌, ◌-◌, ◌*◌, ◌/◌, ◌%◌, ◌^◌, ◌<◌, ◌≤◌, ◌⊎◌, List, [], ◌++◌, length, take, drop, replicate, get_or, refl, sym, ap, ◌∙◌, inl, inr, arith, length-append, length-drop, div-one, append-nil}
use Rattle.std.specs.Prelude.{slice_index}
use Rattle.std.proofs.Math.Nat.{pow-suc}
use Rattle.std.proofs.lemmas.List.{get_or-replicate, get_or-take, get_or-drop, get_or_append_left, get_or-append_right, length-take-le, get_or_past, length-replicate}
use Rattle.std.proofs.lemmas.Nat.{pow-add}
use Rattle.std.proofs.lemmas.Bool.{cases_lt}
use Rattle.byteorder.specs.Endian.{little_from, little_bytes}
use Rattle.byteorder.specs.Numbers.{length-bytes_low_first, little_from-bytes}
use Rattle.run_theory.specs.Words.{word_at, with_word}

-- ---- numbers in equal bytes

same_number : (i n : ℕ) (xs ys : List ℕ) → ((k : ℕ) → k < n → get_or xs (i + k) 0 ≡ get_or ys (i + k) 0) → little_from i n xs ≡ little_from i n ys
same_number i zero xs ys same = refl
same_number i (suc n) xs ys same =
    let none : i + 0 ≡ i = omega arith in
    let first : slice_index xs i ≡ slice_index ys i = ap (λ k. get_or xs k 0) (sym none) ∙ same 0 (omega arith) ∙ ap (λ k. get_or ys k 0) none in
    let rest = same_number (suc i) n xs ys (λ k below. let next : suc i + k ≡ i + suc k = omega arith in ap (λ j. get_or xs j 0) next ∙ same (suc k) (omega arith) ∙ ap (λ j. get_or ys j 0) (sym next)) in
    omega (arith, first, rest)

in_range : (xs : List ℕ) (off width k : ℕ) → k < width → get_or (take width (drop off xs)) (0 + k) 0 ≡ get_or xs (off + k) 0
in_range xs off width k below =
    let plain : 0 + k ≡ k = omega arith in
    ap (λ j. get_or (take width (drop off xs)) j 0) plain ∙ get_or-take width (drop off xs) k 0 below ∙ get_or-drop off xs k 0

pub same_range : (xs ys : List ℕ) (off other width : ℕ) → ((k : ℕ) → k < width → get_or xs (off + k) 0 ≡ get_or ys (other + k) 0) → word_at xs off width ≡ word_at ys other width
same_range xs ys off other width same =
    same_number 0 width (take width (drop off xs)) (take width (drop other ys)) (λ k below. in_range xs off width k below ∙ same k below ∙ sym (in_range ys other width k below))

-- ---- new bytes in the place of as many old ones

abbrev pub over : List ℕ → ℕ → List ℕ → List ℕ
over bytes off new = take off bytes ++ new ++ drop (off + length new) bytes

module _ (bytes new : List ℕ) (off : ℕ) (inside : off + length new ≤ length bytes) where
  front : length (take off bytes) ≡ off
  front = length-take-le off bytes (omega arith)

  both : length (take off bytes ++ new) ≡ off + length new
  both = omega (arith, length-append (take off bytes) new, front)

  pub length-over : length (over bytes off new) ≡ length bytes
  length-over = omega (arith, length-append (take off bytes ++ new) (drop (off + length new) bytes), both, length-drop (off + length new) bytes)

  over_before : (k : ℕ) → k < off → get_or (over bytes off new) k 0 ≡ get_or bytes k 0
  over_before k below =
      get_or_append_left (take off bytes ++ new) (drop (off + length new) bytes) 0 k (omega (arith, both))
      ∙ get_or_append_left (take off bytes) new 0 k (omega (arith, front)) ∙ get_or-take off bytes k 0 below

  over_within : (k : ℕ) → off ≤ k → k < off + length new → get_or (over bytes off new) k 0 ≡ get_or new (k - off) 0
  over_within k low high =
      get_or_append_left (take off bytes ++ new) (drop (off + length new) bytes) 0 k (omega (arith, both))
      ∙ get_or-append_right (take off bytes) new off k 0 front low

  over_behind : (k : ℕ) → off + length new ≤ k → get_or (over bytes off new) k 0 ≡ get_or bytes k 0
  over_behind k high =
      let back : off + length new + (k - (off + length new)) ≡ k = omega arith in
      get_or-append_right (take off bytes ++ new) (drop (off + length new) bytes) (off + length new) k 0 both high
      ∙ get_or-drop (off + length new) bytes (k - (off + length new)) 0 ∙ ap (λ n. get_or bytes n 0) back

  -- a range apart from the new bytes
  pub over_apart : (other width : ℕ) → (off + length new ≤ other) ⊎ (other + width ≤ off) → word_at (over bytes off new) other width ≡ word_at bytes other width
  over_apart other width (inl behind) = same_range (over bytes off new) bytes other other width (λ k below. over_behind (other + k) (omega arith))
  over_apart other width (inr before) = same_range (over bytes off new) bytes other other width (λ k below. over_before (other + k) (omega arith))

  pub over_reads : word_at (over bytes off new) off (length new) ≡ word_at new 0 (length new)
  over_reads =
      same_range (over bytes off new) new off 0 (length new) (λ k below.
      let same : off + k - off ≡ 0 + k = omega arith in over_within (off + k) (omega arith) (omega arith) ∙ ap (λ n. get_or new n 0) same)

-- ---- words

pub power_of_bytes : (n : ℕ) → 256 ^ n ≡ 2 ^ (8 * n)
power_of_bytes zero = refl
power_of_bytes (suc n) =
    let more : 8 * suc n ≡ 8 + 8 * n = omega arith in
    let two : 2 ^ (8 + 8 * n) ≡ 2 ^ 8 * 2 ^ (8 * n) = pow-add 2 8 (8 * n) in
    omega (arith, pow-suc 256 n, power_of_bytes n, two) ∙ ap (λ k. 2 ^ k) (sym more)

pub word_in_bytes : (width word : ℕ) → word_at (little_bytes width word) 0 width ≡ word % 2 ^ (8 * width)
word_in_bytes width word =
    let whole : little_from 0 width (little_bytes width word ++ []) ≡ word / 256 ^ 0 % 256 ^ width = little_from-bytes width 0 word [] in
    let same : word_at (little_bytes width word) 0 width ≡ little_from 0 width (little_bytes width word) =
    same_number 0 width (take width (drop 0 (little_bytes width word))) (little_bytes width word) (λ k below. let plain : 0 + k ≡ k = omega arith in in_range (little_bytes width word) 0 width k below) in
    same ∙ ap (little_from 0 width) (sym (append-nil (little_bytes width word))) ∙ whole ∙ ap (λ n. n % 256 ^ width) (div-one word) ∙ ap (λ n. word % n) (power_of_bytes width)

module _ (bytes : List ℕ) (off width word : ℕ) (inside : off + width ≤ length bytes) where
  pub long : length (little_bytes width word) ≡ width
  long = length-bytes_low_first 0 width word

  as_over : with_word bytes off width word ≡ over bytes off (little_bytes width word)
  as_over = ap (λ n. take off bytes ++ little_bytes width word ++ drop (off + n) bytes) (sym long)

  pub word_reads : word_at (with_word bytes off width word) off width ≡ word % 2 ^ (8 * width)
  word_reads =
      ap (λ bs. word_at bs off width) as_over ∙ ap (λ n. word_at (over bytes off (little_bytes width word)) off n) (sym long)
      ∙ over_reads bytes (little_bytes width word) off (omega (arith, long)) ∙ ap (λ n. word_at (little_bytes width word) 0 n) long ∙ word_in_bytes width word

  pub word_apart : (other wide : ℕ) → (off + width ≤ other) ⊎ (other + wide ≤ off) → word_at (with_word bytes off width word) other wide ≡ word_at bytes other wide
  word_apart other wide apart = ap (λ bs. word_at bs other wide) as_over ∙ over_apart bytes (little_bytes width word) off (omega (arith, long)) other wide (moved apart)
    where
      moved : (off + width ≤ other) ⊎ (other + wide ≤ off) → (off + length (little_bytes width word) ≤ other) ⊎ (other + wide ≤ off)
      moved (inl behind) = inl (omega (arith, long))
      moved (inr before) = inr before

-- ---- zeros

no_bytes : (i n : ℕ) → little_from i n [] ≡ 0
no_bytes i zero = refl
no_bytes i (suc n) = omega (arith, no_bytes (suc i) n)

zero_byte : (count k : ℕ) → get_or {A = ℕ} (replicate count 0) k 0 ≡ 0
zero_byte count k = by (cases_lt k count)
  where
    by : (k < count) ⊎ (count ≤ k) → get_or {A = ℕ} (replicate count 0) k 0 ≡ 0
    by (inl inside) = get_or-replicate count k 0 0 inside
    by (inr past) = get_or_past (replicate count 0) k 0 (omega (arith, length-replicate {A = ℕ} count 0))

pub zeros_read : (count off width : ℕ) → word_at (replicate count 0) off width ≡ 0
zeros_read count off width =
    same_number 0 width (take width (drop off (replicate count 0))) [] (λ k below. in_range (replicate count 0) off width k below ∙ zero_byte count (off + k)) ∙ no_bytes 0 width
