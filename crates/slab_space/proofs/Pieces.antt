-- Lists of one length, joined end to end.
use Rattle.std.proofs.Common.{◌≡◌, ℕ, suc, ◌+◌, ◌*◌, ◌<◌, ◌≤◌, List, [], ◌∷◌, ◌++◌, length, take, drop, replicate, get_or, set, sym, ap, ◌∙◌, arith, length-append, add-one}
use Rattle.std.specs.List.{flat_map}
use Rattle.std.proofs.Math.Nat.{mul-le-mul_left}
use Rattle.std.proofs.lemmas.List.{take-append-drop, set_split, drop_more, length-take-le, take_at, drop_at, drop-drop}
use Rattle.std.proofs.lemmas.List.Concat.{flat_map-append}
use Rattle.slab_space.specs.Runs.{with_run}
use Rattle.slab_space.proofs.WithRun.{with_run_step}

module _ {X A : Type 0} (f : X → List A) (n : ℕ) (sized : (x : X) → length (f x) ≡ n) where
  pub length-flat : (xs : List X) → length (flat_map f xs) ≡ n * length xs
  length-flat [] = omega arith
  length-flat (x ∷ xs) = omega (arith, length-append (f x) (flat_map f xs), sized x, length-flat xs)

  -- the pieces before and behind one of them
  pub flat_parts : (xs : List X) (i : ℕ) (d : X) → i < length xs → flat_map f xs ≡ flat_map f (take i xs) ++ (f (get_or xs i d) ++ flat_map f (drop (suc i) xs))
  flat_parts xs i d inside =
      ap (flat_map f) (sym (take-append-drop i xs) ∙ ap (λ (r : List X). take i xs ++ r) (drop_more xs i d inside ∙ ap (λ (k : ℕ). get_or xs i d ∷ drop k xs) (add-one i)))
      ∙ flat_map-append f (take i xs) (get_or xs i d ∷ drop (suc i) xs)

  pub flat_parts-set : (xs : List X) (i : ℕ) (y : X) → i < length xs → flat_map f (set xs i y) ≡ flat_map f (take i xs) ++ (f y ++ flat_map f (drop (suc i) xs))
  flat_parts-set xs i y inside = ap (flat_map f) (set_split xs i y inside) ∙ flat_map-append f (take i xs) (y ∷ drop (suc i) xs)

  pub length-before : (xs : List X) (i : ℕ) → i ≤ length xs → length (flat_map f (take i xs)) ≡ n * i
  length-before xs i inside = length-flat (take i xs) ∙ ap (λ k. n * k) (length-take-le i xs inside)

  -- one more piece of a range made blank
  pub blanked_more : (xs : List X) (whole : List A) (first count : ℕ) (blank : X) (x : A) → f blank ≡ replicate n x → flat_map f xs ≡ with_run whole (n * first) (n * count) x → length whole ≡ n * length xs → first + count < length xs
      → flat_map f (set xs (first + count) blank) ≡ with_run whole (n * first) (n * (count + 1)) x
  blanked_more xs whole first count blank x is_blank so_far long inside =
      let i = first + count in
      let P = flat_map f (take i xs) in
      let G = flat_map f (drop (suc i) xs) in
      let before : length P ≡ n * first + n * count = length-before xs i (omega arith) ∙ omega arith in
      let parts = sym so_far ∙ flat_parts xs i blank inside in
      let front : take (n * first + n * count) (with_run whole (n * first) (n * count) x) ≡ P =
      ap (take (n * first + n * count)) parts ∙ take_at P (f (get_or xs i blank) ++ G) (n * first + n * count) before in
      let back : drop (n * first + n * count + n) (with_run whole (n * first) (n * count) x) ≡ G =
      ap (drop (n * first + n * count + n)) parts ∙ sym (drop-drop n (n * first + n * count) (P ++ (f (get_or xs i blank) ++ G)))
      ∙ ap (drop n) (drop_at P (f (get_or xs i blank) ++ G) (n * first + n * count) before) ∙ drop_at (f (get_or xs i blank)) G n (sized (get_or xs i blank)) in
      let enough : first + count + 1 ≤ length xs = omega arith in
      let room : n * first + n * count + n ≤ length whole = omega (arith, mul-le-mul_left n enough) in
      flat_parts-set xs i blank inside
      ∙ ap (λ (p : List A). p ++ (f blank ++ G)) (sym front) ∙ ap (λ (q : List A). take (n * first + n * count) (with_run whole (n * first) (n * count) x) ++ (q ++ G)) is_blank
      ∙ ap (λ (q : List A). take (n * first + n * count) (with_run whole (n * first) (n * count) x) ++ (replicate n x ++ q)) (sym back)
      ∙ with_run_step whole (n * first) (n * count) n x room
      ∙ ap (λ (k : ℕ). with_run whole (n * first) k x) (omega arith)
