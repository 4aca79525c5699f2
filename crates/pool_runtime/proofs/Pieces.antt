-- Words that are read and written in two pieces, and ranges made zero word by word.
use Rattle.std.proofs.Common.{◌≡◌, ℕ, zero, suc, ◌+◌, ◌-◌, ◌*◌, ◌/◌, ◌%◌, ◌^◌, ◌<◌, ◌≤◌, List, ◌∷◌, ◌++◌, length, take, drop, replicate, refl, sym, ap, ◌∙◌, arith, append_assoc, length-append, length-take, drop-drop, pow-add}
use Rattle.std.proofs.Math.Nat.{div-one, div-div-eq-div-mul, pow-succ', pow-le-pow_right, one-le-pow, mul_assoc, mul_comm, mul-le-mul_left, mod-eq_of_lt, zero-div}
use Rattle.std.proofs.lemmas.List.{take_at, drop_at}
use Rattle.std.specs.Int.{byte_at, bytes_low_first}
use Rattle.byteorder.specs.Endian.{little_from, little_bytes}
use Rattle.byteorder.specs.Numbers.{length-bytes_low_first}
use Rattle.byteorder.proofs.Bytes.{pow256}
use Rattle.run_theory.specs.Words.{word_at, with_word}
use Rattle.slab_space.specs.Runs.{with_run}
use Rattle.slab_space.proofs.WithRun.{with_run_step}
use Rattle.pool_runtime.proofs.Ranges.{word_from}

-- ---- reading

little_from-more : (bytes : List ℕ) (place low high width : ℕ) → width ≡ low + high → little_from place width bytes ≡ little_from place low bytes + 256 ^ low * little_from (place + low) high bytes
little_from-more bytes place zero high width e =
    let here : width ≡ high = omega (arith, e) in let there : place + 0 ≡ place = omega arith in rw (here, there) (omega arith)
little_from-more bytes place (suc low) high zero e = absurd (omega (arith, e))
little_from-more bytes place (suc low) high (suc width) e =
    let rest = little_from-more bytes (suc place) low high width (omega (arith, e)) in
    let there : suc place + low ≡ place + suc low = omega arith in
    let rest' = rest ∙ ap (λ k. little_from (suc place) low bytes + 256 ^ low * little_from k high bytes) there in
    let power : 256 ^ suc low * little_from (place + suc low) high bytes ≡ 256 * (256 ^ low * little_from (place + suc low) high bytes) =
    ap (λ p. p * little_from (place + suc low) high bytes) (pow-succ' 256 low) ∙ mul_assoc 256 (256 ^ low) (little_from (place + suc low) high bytes) in
    omega (arith, rest', power)

pub word_in_two : (bytes : List ℕ) (place low high : ℕ) → word_at bytes place (low + high) ≡ word_at bytes place low + 256 ^ low * word_at bytes (place + low) high
word_in_two bytes place low high =
    word_from bytes place (low + high) ∙ little_from-more bytes place low high (low + high) refl
    ∙ ap (λ a. a + 256 ^ low * little_from (place + low) high bytes) (sym (word_from bytes place low))
    ∙ ap (λ b. word_at bytes place low + 256 ^ low * b) (sym (word_from bytes (place + low) high))

-- two pieces of a word make no more than the word
pub pieces_small : (low high here width : ℕ) → here ≤ width → low < 256 ^ here → high < 256 ^ (width - here) → low + 256 ^ here * high < 256 ^ width
pieces_small low high here width front low_fits high_fits =
    let two : here + (width - here) ≡ width = omega arith in
    let whole : 256 ^ here * 256 ^ (width - here) ≡ 256 ^ width = sym (pow-add 256 here (width - here)) ∙ ap (λ n. 256 ^ n) two in
    let enough : high + 1 ≤ 256 ^ (width - here) = omega arith in
    omega (arith, whole, mul-le-mul_left (256 ^ here) enough)

pub power_few : (width : ℕ) → width ≤ 8 → 256 ^ width ≤ 18446744073709551616
power_few width most = pow-le-pow_right {n = 256} (omega arith) {i = width} {j = 8} most

-- the upper piece moved to its place
pub shifted : (high here width : ℕ) → here ≤ width → width ≤ 8 → high < 256 ^ (width - here) → high * 2 ^ (8 * here) % 18446744073709551616 ≡ 256 ^ here * high
shifted high here width front most fits =
    let some : 1 ≤ 256 ^ here = one-le-pow here 256 (omega arith) in
    let small = pieces_small 0 high here width front (omega arith) fits in
    ap (λ p. high * p % 18446744073709551616) (sym (pow256 here)) ∙ ap (λ m. m % 18446744073709551616) (mul_comm high (256 ^ here)) ∙ mod-eq_of_lt (omega (arith, small, power_few width most))

-- ---- writing

byte_at-pow : (k x : ℕ) → byte_at k x ≡ x / 256 ^ k % 256
byte_at-pow zero x = ap (λ (y : ℕ). y % 256) (sym (div-one x))
byte_at-pow (suc k) x = refl

byte_at-shift : (low at x : ℕ) → byte_at (low + at) x ≡ byte_at at (x / 256 ^ low)
byte_at-shift low at x =
    byte_at-pow (low + at) x ∙ ap (λ p. x / p % 256) (pow-add 256 low at) ∙ ap (λ q. q % 256) (sym (div-div-eq-div-mul x (256 ^ low) (256 ^ at))) ∙ sym (byte_at-pow at (x / 256 ^ low))

bytes_shift : (low at n x : ℕ) → bytes_low_first (low + at) n x ≡ bytes_low_first at n (x / 256 ^ low)
bytes_shift low at zero x = refl
bytes_shift low at (suc n) x =
    let next : suc (low + at) ≡ low + suc at = omega arith in
    rw (byte_at-shift low at x, next, bytes_shift low (suc at) n x) refl

bytes_in_two : (at low high width x : ℕ) → width ≡ low + high → bytes_low_first at width x ≡ bytes_low_first at low x ++ bytes_low_first (at + low) high x
bytes_in_two at zero high width x e = let here : width ≡ high = omega (arith, e) in let there : at + 0 ≡ at = omega arith in rw (here, there) refl
bytes_in_two at (suc low) high zero x e = absurd (omega (arith, e))
bytes_in_two at (suc low) high (suc width) x e =
    let there : suc at + low ≡ at + suc low = omega arith in
    ap (λ (bs : List ℕ). byte_at at x ∷ bs) (bytes_in_two (suc at) low high width x (omega (arith, e)) ∙ ap (λ k. bytes_low_first (suc at) low x ++ bytes_low_first k high x) there)

little_in_two : (low high x : ℕ) → little_bytes (low + high) x ≡ little_bytes low x ++ little_bytes high (x / 256 ^ low)
little_in_two low high x =
    let start : 0 + low ≡ low + 0 = omega arith in
    bytes_in_two 0 low high (low + high) x refl ∙ ap (λ (bs : List ℕ). little_bytes low x ++ bs) (ap (λ k. bytes_low_first k high x) start ∙ bytes_shift low 0 high x)

module _ (bytes : List ℕ) (place low high word : ℕ) (inside : place + low + high ≤ length bytes) where
  front : List ℕ
  front = take place bytes ++ little_bytes low word

  front_long : length (take place bytes ++ little_bytes low word) ≡ place + low
  front_long = let long = length-bytes_low_first 0 low word in simp (length-append, length-take) (omega (arith, long))

  pub written_in_two : with_word (with_word bytes place low word) (place + low) high (word / 256 ^ low) ≡ with_word bytes place (low + high) word
  written_in_two =
      let F = take place bytes ++ little_bytes low word in let H = little_bytes high (word / 256 ^ low) in let D = drop (place + low) bytes in
      let before : take (place + low) (with_word bytes place low word) ≡ F = take_at F D (place + low) front_long in
      let behind : drop (place + low + high) (with_word bytes place low word) ≡ drop (place + low + high) bytes =
      sym (drop-drop high (place + low) (with_word bytes place low word)) ∙ ap (drop high) (drop_at F D (place + low) front_long) ∙ drop-drop high (place + low) bytes in
      let beyond : place + low + high ≡ place + (low + high) = omega arith in
      ap (λ (p : List ℕ). p ++ H ++ drop (place + low + high) (with_word bytes place low word)) before
      ∙ ap (λ (q : List ℕ). F ++ H ++ q) behind
      ∙ ap (λ (p : List ℕ). p ++ drop (place + low + high) bytes) (append_assoc (take place bytes) (little_bytes low word) H ∙ ap (λ (r : List ℕ). take place bytes ++ r) (sym (little_in_two low high word)))
      ∙ ap (λ k. take place bytes ++ little_bytes (low + high) word ++ drop k bytes) beyond

-- ---- zeros

zero_byte : (at : ℕ) → byte_at at 0 ≡ 0
zero_byte zero = refl
zero_byte (suc at) = ap (λ q. q % 256) (zero-div (256 ^ suc at))

zero_bytes : (at n : ℕ) → bytes_low_first at n 0 ≡ replicate n 0
zero_bytes at zero = refl
zero_bytes at (suc n) = rw (zero_byte at, zero_bytes (suc at) n) refl

-- one more word of a range made zero
pub cleared_more : (bytes : List ℕ) (place done width : ℕ) → place + done + width ≤ length bytes → with_word (with_run bytes place done 0) (place + done) width 0 ≡ with_run bytes place (done + width) 0
cleared_more bytes place done width inside =
    let B = with_run bytes place done 0 in
    append_assoc (take (place + done) B) (little_bytes width 0) (drop (place + done + width) B)
    ∙ ap (λ (z : List ℕ). take (place + done) B ++ (z ++ drop (place + done + width) B)) (zero_bytes 0 width)
    ∙ with_run_step bytes place done width 0 inside
