-- A word written over a list of bytes.
use Rattle.std.proofs.Common.{◌≡◌, ℕ, ◌+◌, ◌≤◌, List, ◌++◌, length, take, drop, sym, ap, ◌∙◌, append_assoc, arith, length-append, length-take, length-drop, drop-drop}
use Rattle.byteorder.specs.Endian.{little_bytes}
use Rattle.byteorder.specs.Numbers.{length-bytes_low_first}
use Rattle.run_theory.specs.Words.{with_word}

pub length-with_word : (bytes : List ℕ) (off width word : ℕ) → off + width ≤ length bytes → length (with_word bytes off width word) ≡ length bytes
length-with_word bytes off width word inside =
    let long = length-bytes_low_first 0 width word in
    simp (length-append, length-take, length-drop) (omega (arith, long))

-- a part of the bytes written over, as the code puts it together
pub overwritten : (bytes part : List ℕ) (off width word k : ℕ) → k ≡ width → part ≡ little_bytes width word → take off bytes ++ (part ++ drop k (drop off bytes)) ≡ with_word bytes off width word
overwritten bytes part off width word k e same =
    let rest : drop k (drop off bytes) ≡ drop (off + width) bytes = drop-drop k off bytes ∙ ap (λ n. drop n bytes) (let f : off + k ≡ off + width = omega arith in f) in
    ap (λ p. take off bytes ++ (p ++ drop k (drop off bytes))) same ∙ ap (λ r. take off bytes ++ (little_bytes width word ++ r)) rest ∙ sym (append_assoc (take off bytes) (little_bytes width word) (drop (off + width) bytes))
