-- A part of a list written over, as the code and as the definition put it together.
use Rattle.std.proofs.Common.{◌≡◌, ℕ, suc, ◌+◌, ◌<◌, ◌≤◌, List, [], ◌∷◌, ◌++◌, length, take, drop, get_or, pos, refl, sym, ap, ◌∙◌, append_assoc, arith, length-append, length-take, length-drop, drop-drop}
use Rattle.c_num.specs.declared.IntType.TheVariants as I
use Rattle.c_num.specs.Conversion.{convert_to, word_of}
use Rattle.pool_isa.specs.Machine.{spliced}
use Rattle.pool_rewrite.specs.Rewriting.{character_bytes}

pub overwritten : (xs part new : List ℕ) (offset size k : ℕ) → k ≡ size → part ≡ new → length new ≡ size → take offset xs ++ (part ++ drop k (drop offset xs)) ≡ spliced xs offset new
overwritten xs part new offset size k e same long =
    let rest : drop k (drop offset xs) ≡ drop (offset + length new) xs = drop-drop k offset xs ∙ ap (λ n. drop n xs) (let f : offset + k ≡ offset + length new = omega arith in f) in
    ap (λ p. take offset xs ++ (p ++ drop k (drop offset xs))) same ∙ ap (λ r. take offset xs ++ (new ++ r)) rest ∙ sym (append_assoc (take offset xs) new (drop (offset + length new) xs))

pub length-spliced : (xs new : List ℕ) (offset : ℕ) → offset + length new ≤ length xs → length (spliced xs offset new) ≡ length xs
length-spliced xs new offset le = simp (length-append, length-take, length-drop) (omega arith)

-- ---- characters

-- a byte is its own word
character : (byte : ℕ) → byte < 256 → word_of I.UChar (pos byte) ≡ byte
unfolding word_of convert_to
character byte lt = omega (arith, lt)

pub characters_kept : (text : List ℕ) → ((i : ℕ) → get_or text i 0 < 256) → character_bytes text ≡ text
characters_kept [] small = refl
characters_kept (byte ∷ text) small = λ i. character byte (small 0) i ∷ characters_kept text (λ k. small (suc k)) i
