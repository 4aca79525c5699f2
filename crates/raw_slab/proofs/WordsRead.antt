-- The number in some bytes is below a power of 256.
use Rattle.std.proofs.Common.{ℕ, zero, suc, ◌+◌, ◌<◌, ◌^◌, List, [], ◌∷◌, take, drop, get_or, sym, subst, arith}
use Rattle.std.proofs.lemmas.List.{get_or-drop}
use Rattle.byteorder.specs.Numbers.{little_from-lt}
use Rattle.run_theory.specs.Words.{word_at}

take_bytes : (n : ℕ) (xs : List ℕ) → ((k : ℕ) → get_or xs k 0 < 256) → (k : ℕ) → get_or (take n xs) k 0 < 256
take_bytes zero xs h k = omega arith
take_bytes (suc n) [] h k = omega arith
take_bytes (suc n) (x ∷ xs) h zero = h 0
take_bytes (suc n) (x ∷ xs) h (suc k) = take_bytes n xs (λ i. h (suc i)) k

drop_bytes : (n : ℕ) (xs : List ℕ) → ((k : ℕ) → get_or xs k 0 < 256) → (k : ℕ) → get_or (drop n xs) k 0 < 256
drop_bytes n xs h k = subst (λ x. x < 256) (sym (get_or-drop n xs k 0)) (h (n + k))

pub word_at-small : (bytes : List ℕ) (off width : ℕ) → ((k : ℕ) → get_or bytes k 0 < 256) → word_at bytes off width < 256 ^ width
word_at-small bytes off width h = little_from-lt 0 width (take width (drop off bytes)) (take_bytes width (drop off bytes) (drop_bytes off bytes h))
