-- Words of bytes in pages.
use Rattle.std.proofs.Common.{◌≡◌, ℕ, zero, suc, ◌+◌, ◌-◌, ◌*◌, ◌<◌, ◌≤◌, List, [], ◌∷◌, ◌++◌, Option, Some, None, length, take, drop, replicate, get_or, set, refl, sym, ap, ◌∙◌, arith, length-append, length-take}
use Rattle.std.specs.List.{flat_map}
use Rattle.std.proofs.lemmas.List.{length-replicate, take-append-drop, take-replicate, drop-replicate, take_at, drop_at, take_more, drop-drop, replicate-append-replicate}
use Rattle.std.proofs.Math.Nat.{mod-eq_of_lt}
use Rattle.byteorder.specs.Endian.{little_from, little_bytes, little_number}
use Rattle.byteorder.specs.Numbers.{length-bytes_low_first}
use Rattle.raw_slab.specs.declared.RawSlab.{RawSlab}
use Rattle.run_theory.specs.Words.{zeros, word_at, with_word}
use Rattle.raw_slab.proofs.WordsWritten.{length-with_word}
use Rattle.slab_space.proofs.Pieces.{length-flat, flat_parts, flat_parts-set, length-before}
use Rattle.slab_space.proofs.WordsInside.{word_at-inside, with_word-inside}
use Rattle.pool_isa.specs.Machine.{spliced}
use Rattle.machine.specs.Pages.{page_bytes, bytes_in}

length-zeros : (n : ℕ) → length (zeros n) ≡ n
unfolding zeros
length-zeros n = length-replicate n 0

pub sized : (page : Option RawSlab) → length (page_bytes page) ≡ 4096
sized None = length-zeros 4096
sized (Some page) = page.whole

pub length-bytes_in : (pages : List (Option RawSlab)) → length (bytes_in pages) ≡ 4096 * length pages
length-bytes_in pages = length-flat page_bytes 4096 sized pages

module _ (pages : List (Option RawSlab)) (page offset size : ℕ) (there : page < length pages) (inside : offset + size ≤ 4096) where
  pub word_in_page : word_at (bytes_in pages) (4096 * page + offset) size ≡ word_at (page_bytes (get_or pages page None)) offset size
  word_in_page =
      ap (λ b. word_at b (4096 * page + offset) size) (flat_parts page_bytes 4096 sized pages page None there)
      ∙ word_at-inside (flat_map page_bytes (take page pages)) (page_bytes (get_or pages page None)) (flat_map page_bytes (drop (suc page) pages)) (4096 * page) offset size
      (length-before page_bytes 4096 sized pages page (omega arith)) (omega (arith, sized (get_or pages page None)))

  pub written_in_page : (new : Option RawSlab) (word : ℕ) → page_bytes new ≡ with_word (page_bytes (get_or pages page None)) offset size word
      → bytes_in (set pages page new) ≡ with_word (bytes_in pages) (4096 * page + offset) size word
  written_in_page new word written =
      let A = flat_map page_bytes (take page pages) in
      let G = flat_map page_bytes (drop (suc page) pages) in
      flat_parts-set page_bytes 4096 sized pages page new there ∙ ap (λ (b : List ℕ). A ++ (b ++ G)) written
      ∙ sym (with_word-inside A (page_bytes (get_or pages page None)) G (4096 * page) offset size
      (length-before page_bytes 4096 sized pages page (omega arith)) (omega (arith, sized (get_or pages page None))) word)
      ∙ ap (λ b. with_word b (4096 * page + offset) size word) (sym (flat_parts page_bytes 4096 sized pages page None there))

-- ---- zeros

get_or-zeros : (n i : ℕ) → get_or {A = ℕ} (replicate n 0) i 0 ≡ 0
get_or-zeros zero i = refl
get_or-zeros (suc n) zero = refl
get_or-zeros (suc n) (suc i) = get_or-zeros n i

number_of_zeros : (place size n : ℕ) → little_from place size (replicate n 0) ≡ 0
number_of_zeros place zero n = refl
number_of_zeros place (suc size) n = omega (arith, get_or-zeros n place, number_of_zeros (suc place) size n)

pub word_of_zeros : (n offset size : ℕ) → offset + size ≤ n → word_at (zeros n) offset size ≡ 0
unfolding zeros
word_of_zeros n offset size inside =
    ap (λ (z : List ℕ). little_number size (take size z)) (drop-replicate offset n 0)
    ∙ ap (little_number size) (take-replicate size (n - offset) 0 (omega arith))
    ∙ number_of_zeros 0 size size

zeros_more : (n m : ℕ) → zeros n ++ replicate m 0 ≡ replicate (n + m) 0
unfolding zeros
zeros_more n m = replicate-append-replicate n m 0

pub bytes_of_absent : (count : ℕ) → bytes_in (replicate count None) ≡ replicate (4096 * count) 0
bytes_of_absent zero = refl
bytes_of_absent (suc count) =
    let next : 4096 + 4096 * count ≡ 4096 * suc count = omega arith in
    ap (λ (z : List ℕ). zeros 4096 ++ z) (bytes_of_absent count) ∙ zeros_more 4096 (4096 * count) ∙ ap (λ (n : ℕ). replicate n 0) next

-- ---- the first so many of the bytes

module _ (xs : List ℕ) (len offset size : ℕ) (inside : offset + size ≤ len) (enough : len ≤ length xs) where
  long : length (take len xs) ≡ len
  long = simp length-take (omega arith)

  first : offset ≡ 0 + offset
  first = omega arith

  pub word_taken : word_at (take len xs) offset size ≡ word_at xs offset size
  word_taken =
      sym (word_at-inside [] (take len xs) (drop len xs) 0 offset size refl (omega (arith, long)))
      ∙ ap (λ k. word_at (take len xs ++ drop len xs) k size) (sym first) ∙ ap (λ b. word_at b offset size) (take-append-drop len xs)

  pub with_word_taken : (word : ℕ) → take len (with_word xs offset size word) ≡ with_word (take len xs) offset size word
  with_word_taken word =
      let P = take len xs in
      let G = drop len xs in
      let written : with_word xs offset size word ≡ with_word P offset size word ++ G =
      ap (λ b. with_word b offset size word) (sym (take-append-drop len xs)) ∙ ap (λ k. with_word (P ++ G) k size word) first
      ∙ with_word-inside [] P G 0 offset size refl (omega (arith, long)) word in
      ap (take len) written ∙ take_at (with_word P offset size word) G len (length-with_word P offset size word (omega (arith, long)) ∙ long)

-- a word written, as the meaning has it
pub spliced_word : (xs : List ℕ) (offset size word : ℕ) → with_word xs offset size word ≡ spliced xs offset (little_bytes size word)
spliced_word xs offset size word = ap (λ k. take offset xs ++ little_bytes size word ++ drop (offset + k) xs) (sym (length-bytes_low_first 0 size word))

-- ---- bytes written one after another over zeros

module _ (first : List ℕ) (len k : ℕ) (more : k < length first) (enough : length first ≤ len) where
  front : length (take k first) ≡ k
  front = simp length-take (omega arith)

  pub filled_long : length (take k first ++ replicate (len - k) 0) ≡ len
  filled_long = simp (length-append, length-replicate) (omega (arith, front))

  pub filled_more : (byte : ℕ) → byte ≡ get_or first k 0 → byte < 256 → spliced (take k first ++ replicate (len - k) 0) k (little_bytes 1 byte) ≡ take (k + 1) first ++ replicate (len - (k + 1)) 0
  filled_more byte is small =
      let B = take k first ++ replicate (len - k) 0 in
      let one : little_bytes 1 byte ≡ byte ∷ [] = ap (λ b. b ∷ []) (mod-eq_of_lt small) in
      let before : take k B ≡ take k first = take_at (take k first) (replicate (len - k) 0) k front in
      let rest : drop k B ≡ replicate (len - k) 0 = drop_at (take k first) (replicate (len - k) 0) k front in
      let after : drop (k + 1) B ≡ replicate (len - (k + 1)) 0 =
      sym (drop-drop 1 k B) ∙ ap (drop 1) rest ∙ drop-replicate 1 (len - k) 0
      ∙ ap (λ (n : ℕ). replicate n 0) (let e : len - k - 1 ≡ len - (k + 1) = omega arith in e) in
      let next : take (k + 1) first ≡ take k first ++ byte ∷ [] = take_more first k 0 more ∙ ap (λ b. take k first ++ b ∷ []) (sym is) in
      ap (λ (new : List ℕ). take k B ++ new ++ drop (k + length new) B) one
      ∙ ap (λ (p : List ℕ). p ++ (byte ∷ []) ++ drop (k + 1) B) before
      ∙ ap (λ (q : List ℕ). take k first ++ (byte ∷ []) ++ q) after
      ∙ ap (λ (p : List ℕ). p ++ replicate (len - (k + 1)) 0) (sym next)

pub length_taken : (pages : List (Option RawSlab)) (len : ℕ) → len ≤ 4096 * length pages → length (take len (bytes_in pages)) ≡ len
length_taken pages len enough = simp length-take (omega (arith, enough, length-bytes_in pages))
