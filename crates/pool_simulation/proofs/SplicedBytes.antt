-- What stands in bytes once some of them were replaced.
use Rattle.std.proofs.Common.{◌≡◌, ℕ, zero, suc, ◌+◌, ◌-◌, ◌*◌, ◌%◌, ◌^◌, ◌<◌, ◌≤◌, List, [], ◌∷◌, ◌++◌, length, take, drop, slice_index, refl, sym, ap, ◌∙◌, inl, inr, arith}
use Rattle.std.specs.Prelude.{replicate}
use Rattle.std.proofs.Math.Nat.{div-one}
use Rattle.std.proofs.Math.Seq.{drop-append-add}
use Rattle.std.proofs.lemmas.List.{append_assoc, length-append, length-drop, length-take-le, drop_at, drop-append-le, take-append-le, take-append-drop, drop-replicate}
use Rattle.std.proofs.lemmas.Slice.{drop-append-drop}
use Rattle.byteorder.specs.Endian.{little_bytes, little_number, little_from}
use Rattle.byteorder.specs.Numbers.{little_from-bytes, little_from-take, length-bytes_low_first}
use Rattle.byteorder.proofs.Bytes.{pow256}
use Rattle.pool_isa.specs.Machine.{spliced}
use Rattle.pool_rewrite.specs.Standing.{AreApart}

pub length-little_bytes : (size word : ℕ) → length (little_bytes size word) ≡ size
length-little_bytes size word = length-bytes_low_first 0 size word

-- there are as many bytes as before
pub length-spliced : (bytes : List ℕ) (at : ℕ) (new : List ℕ) → at + length new ≤ length bytes → length (spliced bytes at new) ≡ length bytes
length-spliced bytes at new le =
    let front = length-take-le at bytes (omega arith) in
    let back = length-drop (at + length new) bytes in
    length-append (take at bytes ++ new) (drop (at + length new) bytes) ∙ omega (arith, front, back, length-append (take at bytes) new)

-- what is new, with what is behind it
pub drop-spliced : (bytes : List ℕ) (at : ℕ) (new : List ℕ) → at ≤ length bytes → drop at (spliced bytes at new) ≡ new ++ drop (at + length new) bytes
drop-spliced bytes at new le =
    ap (drop at) (append_assoc (take at bytes) new (drop (at + length new) bytes))
    ∙ drop_at (take at bytes) (new ++ drop (at + length new) bytes) at (length-take-le at bytes le)

-- the word that was put in place reads back
pub read-spliced : (bytes : List ℕ) (at size word : ℕ) → at + size ≤ length bytes
    → little_number size (take size (drop at (spliced bytes at (little_bytes size word)))) ≡ word % 2 ^ (8 * size)
read-spliced bytes at size word le =
    let rest : List ℕ = drop (at + length (little_bytes size word)) bytes in
    ap (λ (found : List ℕ). little_number size (take size found)) (drop-spliced bytes at (little_bytes size word) (omega arith))
    ∙ little_from-take 0 size size (little_bytes size word ++ rest) (omega arith)
    ∙ little_from-bytes size 0 word rest
    ∙ ap (λ (n : ℕ). n % 256 ^ size) (div-one word)
    ∙ ap (λ (n : ℕ). word % n) (pow256 size)

-- ---- a range apart from what was replaced

range_before : (bytes more : List ℕ) (at other size : ℕ) → at ≤ length bytes → other + size ≤ at → take size (drop other (take at bytes ++ more)) ≡ take size (drop other (take at bytes))
range_before bytes more at other size le before =
    let front = length-take-le at bytes le in
    ap (take size) (drop-append-le other (take at bytes) more (omega (arith, front)))
    ∙ take-append-le size (drop other (take at bytes)) more (omega (arith, front, length-drop other (take at bytes)))

pub range-apart : (bytes : List ℕ) (at : ℕ) (new : List ℕ) (other size : ℕ) → at + length new ≤ length bytes → AreApart other size at (length new)
    → take size (drop other (spliced bytes at new)) ≡ take size (drop other bytes)
range-apart bytes at new other size le (inl before) =
    ap (λ (found : List ℕ). take size (drop other found)) (append_assoc (take at bytes) new (drop (at + length new) bytes))
    ∙ range_before bytes (new ++ drop (at + length new) bytes) at other size (omega arith) before
    ∙ sym (range_before bytes (drop at bytes) at other size (omega arith) before)
    ∙ ap (λ (found : List ℕ). take size (drop other found)) (take-append-drop at bytes)
range-apart bytes at new other size le (inr past) =
    let front = length-take-le at bytes (omega arith) in
    ap (take size) (drop-append-drop (at + length new) bytes (take at bytes ++ new) other past (omega (arith, front, length-append (take at bytes) new)))

pub read-apart : (bytes : List ℕ) (at : ℕ) (new : List ℕ) (other size : ℕ) → at + length new ≤ length bytes → AreApart other size at (length new)
    → little_number size (take size (drop other (spliced bytes at new))) ≡ little_number size (take size (drop other bytes))
read-apart bytes at new other size le apart = ap (little_number size) (range-apart bytes at new other size le apart)

-- nothing was replaced by nothing
pub spliced-nothing : (bytes : List ℕ) (at : ℕ) → spliced bytes at [] ≡ bytes
spliced-nothing bytes at =
    append_assoc (take at bytes) [] (drop (at + 0) bytes)
    ∙ ap (λ n. take at bytes ++ drop n bytes) (same at)
    ∙ take-append-drop at bytes
  where
    same : (n : ℕ) → n + 0 ≡ n
    same n = omega arith

-- ---- single bytes

first_byte : (bytes : List ℕ) → little_number 1 (take 1 bytes) ≡ slice_index bytes 0
first_byte bytes = little_from-take 0 1 1 bytes (omega arith) ∙ omega arith

byte_in : (new more : List ℕ) (index : ℕ) → index < length new → slice_index (drop index (new ++ more)) 0 ≡ slice_index new index
byte_in [] more index lt = absurd (omega arith)
byte_in (byte ∷ new) more zero lt = refl
byte_in (byte ∷ new) more (suc index) lt = byte_in new more index (omega arith)

pub read-byte : (bytes : List ℕ) (at : ℕ) (new : List ℕ) (index : ℕ) → at ≤ length bytes → index < length new
    → little_number 1 (take 1 (drop (at + index) (spliced bytes at new))) ≡ slice_index new index
read-byte bytes at new index le lt =
    let front = length-take-le at bytes le in
    let more : List ℕ = drop (at + length new) bytes in
    ap (λ (found : List ℕ). little_number 1 (take 1 (drop (at + index) found))) (append_assoc (take at bytes) new more)
    ∙ ap (λ n. little_number 1 (take 1 (drop (n + index) (take at bytes ++ (new ++ more))))) (sym front)
    ∙ ap (λ (found : List ℕ). little_number 1 (take 1 found)) (drop-append-add (take at bytes) (new ++ more) index)
    ∙ first_byte (drop index (new ++ more))
    ∙ byte_in new more index lt

-- ---- zeros

zero_at : (count index : ℕ) → slice_index (replicate count 0) index ≡ 0
zero_at zero index = refl
zero_at (suc count) zero = refl
zero_at (suc count) (suc index) = zero_at count index

zero_number : (index size count : ℕ) → little_from index size (replicate count 0) ≡ 0
zero_number index zero count = refl
zero_number index (suc size) count =
    let byte = zero_at count index in
    let rest = zero_number (suc index) size count in
    rw (byte, rest) refl

pub read-zeros : (count at size : ℕ) → little_number size (take size (drop at (replicate count 0))) ≡ 0
read-zeros count at size =
    little_from-take 0 size size (drop at (replicate count 0)) (omega arith)
    ∙ ap (little_number size) (drop-replicate {X = ℕ} at count 0)
    ∙ zero_number 0 size (count - at)
