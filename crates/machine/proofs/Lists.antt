-- Lists read from the other end.
use Rattle.std.proofs.Common.{◌≡◌, ℕ, suc, ◌+◌, ◌-◌, ◌<◌, ◌≤◌, List, [], ◌∷◌, ◌++◌, length, take, drop, set, reverse, sym, ap, ◌∙◌, arith}
use Rattle.std.proofs.lemmas.List.{reverse-append, length-reverse, length-append, length-take, length-drop, take-append-drop, drop_at, take_at, take_rest, length-set, set_split, drop_all, drop-drop, append_assoc, reverse-reverse}
use Rattle.std.proofs.Math.Seq.{take-set-lt}
use Rattle.pool_isa.specs.Machine.{spliced}

-- what is left when the last ones are dropped
pub reverse-take : {X : Type 0} → (xs : List X) (count : ℕ) → count ≤ length xs → reverse (take (length xs - count) xs) ≡ drop count (reverse xs)
reverse-take xs count le =
    let k = length xs - count in
    let split = ap reverse (sym (take-append-drop k xs)) ∙ reverse-append (take k xs) (drop k xs) in
    let long : length (reverse (drop k xs)) ≡ count = simp (length-reverse, length-drop) (omega arith) in
    sym (ap (drop count) split ∙ drop_at (reverse (drop k xs)) (reverse (take k xs)) count long)

-- the last one replaced
pub reverse-set_last : {X : Type 0} → (xs : List X) (x : X) → 0 < length xs → reverse (set xs (length xs - 1) x) ≡ x ∷ drop 1 (reverse xs)
reverse-set_last xs x lt =
    let k = length xs - 1 in
    let cut = set_split xs k x (omega arith) in
    let none : drop (suc k) xs ≡ [] = drop_all (suc k) xs (omega arith) in
    let pushed : set xs k x ≡ take k xs ++ x ∷ [] = cut ∙ ap (λ rest. take k xs ++ x ∷ rest) none in
    ap reverse pushed ∙ reverse-append (take k xs) (x ∷ []) ∙ ap (λ rest. x ∷ rest) (reverse-take xs 1 (omega arith))

-- the last but one replaced, and the last one dropped
pub reverse-combined : {X : Type 0} → (xs : List X) (x : X) → 2 ≤ length xs → reverse (set (take (length xs - 1) xs) (length xs - 2) x) ≡ x ∷ drop 2 (reverse xs)
reverse-combined xs x le =
    let front = take (length xs - 1) xs in
    let long : length front ≡ length xs - 1 = simp length-take (omega arith) in
    let at : length xs - 2 ≡ length front - 1 = omega arith in
    ap (λ n. reverse (set front n x)) at ∙ reverse-set_last front x (omega arith) ∙ ap (λ ys. x ∷ drop 1 ys) (reverse-take xs 1 (omega arith)) ∙ ap (λ ys. x ∷ ys) (drop-drop 1 1 (reverse xs))

-- the last two replaced
pub reverse-set_two : {X : Type 0} → (xs : List X) (x y : X) → 2 ≤ length xs → reverse (set (set xs (length xs - 2) x) (length xs - 1) y) ≡ y ∷ x ∷ drop 2 (reverse xs)
reverse-set_two xs x y le =
    let ys = set xs (length xs - 2) x in
    let long : length ys ≡ length xs = length-set xs (length xs - 2) x in
    let at : length xs - 1 ≡ length ys - 1 = omega arith in
    let front : take (length ys - 1) ys ≡ set (take (length xs - 1) xs) (length xs - 2) x = ap (λ n. take n ys) (sym at) ∙ take-set-lt (length xs - 1) xs (length xs - 2) x (omega arith) in
    ap (λ n. reverse (set ys n y)) at ∙ reverse-set_last ys y (omega arith) ∙ ap (λ zs. y ∷ zs) (sym (reverse-take ys 1 (omega arith)) ∙ ap reverse front ∙ reverse-combined xs x le)

-- the last ones in their order
pub reverse-take_reverse : {X : Type 0} → (xs : List X) (count : ℕ) → count ≤ length xs → take (length xs - (length xs - count)) (drop (length xs - count) xs) ≡ reverse (take count (reverse xs))
reverse-take_reverse xs count le =
    let k = length xs - count in
    let split = ap reverse (sym (take-append-drop k xs)) ∙ reverse-append (take k xs) (drop k xs) in
    let long : length (reverse (drop k xs)) ≡ count = simp (length-reverse, length-drop) (omega arith) in
    let front : take count (reverse xs) ≡ reverse (drop k xs) = ap (take count) split ∙ take_at (reverse (drop k xs)) (reverse (take k xs)) count long in
    take_rest xs k ∙ sym (ap reverse front ∙ reverse-reverse (drop k xs))

-- a part of a list written over, as the code and as the meaning put it together
pub overwritten : (xs part new : List ℕ) (offset size k : ℕ) → k ≡ size → part ≡ new → length new ≡ size → take offset xs ++ (part ++ drop k (drop offset xs)) ≡ spliced xs offset new
overwritten xs part new offset size k e same long =
    let rest : drop k (drop offset xs) ≡ drop (offset + length new) xs = drop-drop k offset xs ∙ ap (λ n. drop n xs) (let f : offset + k ≡ offset + length new = omega arith in f) in
    ap (λ p. take offset xs ++ (p ++ drop k (drop offset xs))) same ∙ ap (λ r. take offset xs ++ (new ++ r)) rest ∙ sym (append_assoc (take offset xs) new (drop (offset + length new) xs))

pub length-spliced : (xs new : List ℕ) (offset : ℕ) → offset + length new ≤ length xs → length (spliced xs offset new) ≡ length xs
length-spliced xs new offset le = simp (length-append, length-take, length-drop) (omega arith)
