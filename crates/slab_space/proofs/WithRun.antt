-- A range of a list made one element.
use Rattle.std.proofs.Common.{◌≡◌, ℕ, zero, suc, ◌+◌, ◌-◌, ◌<◌, ◌≤◌, List, [], ◌∷◌, ◌++◌, Option, Some, None, length, take, drop, replicate, get_or, set, refl, sym, ap, ◌∙◌, inl, inr, arith, append_assoc, length-append, length-take, length-drop, drop-drop, add-zero}
use Rattle.std.proofs.lemmas.List.{length-replicate, append-nil, take_at, drop_at, take-append-drop, replicate-append-replicate, same_lists, get_or-replicate, get_or-take, get_or-drop, get_or_append_left, get_or-append_right, length-take-le, drop-append-le, take-append-le, set_at, drop_more, get_or_default}
use Rattle.std.proofs.lemmas.Bool.{cases_lt}
use Rattle.slab_space.specs.Runs.{free_count, with_run, IsFreeRun, IsHeldRun}

module _ {X : Type 0} where
  pub length-with_run : (xs : List X) (first count : ℕ) (x : X) → first + count ≤ length xs → length (with_run xs first count x) ≡ length xs
  length-with_run xs first count x inside = simp (length-append, length-take, length-replicate, length-drop) (omega arith)

  -- the front of such a list, through the range
  length-front : (xs : List X) (first count : ℕ) (x : X) → first + count ≤ length xs → length (take first xs ++ replicate count x) ≡ first + count
  length-front xs first count x inside = simp (length-append, length-take, length-replicate) (omega arith)

  pub with_run_none : (xs : List X) (first : ℕ) (x : X) → with_run xs first 0 x ≡ xs
  with_run_none xs first x = rw (append-nil, add-zero) (take-append-drop first xs)

  pub take-with_run : (xs : List X) (first count : ℕ) (x : X) → first + count ≤ length xs → take (first + count) (with_run xs first count x) ≡ take first xs ++ replicate count x
  take-with_run xs first count x inside = take_at (take first xs ++ replicate count x) (drop (first + count) xs) (first + count) (length-front xs first count x inside)

  pub drop-with_run : (xs : List X) (first count beyond : ℕ) (x : X) → first + count ≤ length xs → drop (first + count + beyond) (with_run xs first count x) ≡ drop (first + count + beyond) xs
  drop-with_run xs first count beyond x inside =
      sym (drop-drop beyond (first + count) (with_run xs first count x))
      ∙ ap (drop beyond) (drop_at (take first xs ++ replicate count x) (drop (first + count) xs) (first + count) (length-front xs first count x inside))
      ∙ drop-drop beyond (first + count) xs

  -- one range after another
  pub with_run_step : (xs : List X) (first m n : ℕ) (x : X) → first + m + n ≤ length xs
      → take (first + m) (with_run xs first m x) ++ (replicate n x ++ drop (first + m + n) (with_run xs first m x)) ≡ with_run xs first (m + n) x
  with_run_step xs first m n x inside =
      let front = take-with_run xs first m x (omega arith) in
      let back = drop-with_run xs first m n x (omega arith) in
      let beyond : first + m + n ≡ first + (m + n) = omega arith in
      ap (λ (p : List X). p ++ (replicate n x ++ drop (first + m + n) (with_run xs first m x))) front
      ∙ ap (λ (q : List X). (take first xs ++ replicate m x) ++ (replicate n x ++ q)) back
      ∙ sym (append_assoc (take first xs ++ replicate m x) (replicate n x) (drop (first + m + n) xs))
      ∙ ap (λ (p : List X). p ++ drop (first + m + n) xs) (append_assoc (take first xs) (replicate m x) (replicate n x) ∙ ap (λ (r : List X). take first xs ++ r) (replicate-append-replicate m n x))
      ∙ ap (λ (k : ℕ). take first xs ++ replicate (m + n) x ++ drop k xs) beyond

  -- the element behind the range
  pub with_run_more : (xs : List X) (first count : ℕ) (x : X) → first + count < length xs → set (with_run xs first count x) (first + count) x ≡ with_run xs first (count + 1) x
  with_run_more xs first count x inside =
      let P = take first xs ++ replicate count x in
      let long : length P ≡ first + count = length-front xs first count x (omega arith) in
      let beyond : first + count + 1 ≡ first + (count + 1) = omega arith in
      ap (λ (q : List X). set (P ++ q) (first + count) x) (drop_more xs (first + count) x inside)
      ∙ set_at P (get_or xs (first + count) x) (drop (first + count + 1) xs) x (first + count) long
      ∙ sym (append_assoc P (x ∷ []) (drop (first + count + 1) xs))
      ∙ ap (λ (p : List X). p ++ drop (first + count + 1) xs) (append_assoc (take first xs) (replicate count x) (x ∷ []) ∙ ap (λ (r : List X). take first xs ++ r) (replicate-append-replicate count 1 x))
      ∙ ap (λ (k : ℕ). take first xs ++ replicate (count + 1) x ++ drop k xs) beyond

  pub with_run-append : (xs ys : List X) (first count : ℕ) (x : X) → first + count ≤ length xs → with_run (xs ++ ys) first count x ≡ with_run xs first count x ++ ys
  with_run-append xs ys first count x inside =
      ap (λ (p : List X). p ++ replicate count x ++ drop (first + count) (xs ++ ys)) (take-append-le first xs ys (omega arith))
      ∙ ap (λ (q : List X). take first xs ++ replicate count x ++ q) (drop-append-le (first + count) xs ys inside)
      ∙ sym (append_assoc (take first xs ++ replicate count x) (drop (first + count) xs) ys)

  -- a range made one element and then another
  pub with_run_twice : (xs : List X) (first count : ℕ) (x y : X) → first + count ≤ length xs → with_run (with_run xs first count x) first count y ≡ with_run xs first count y
  with_run_twice xs first count x y inside =
      let long : length (take first xs) ≡ first = length-take-le first xs (omega arith) in
      let front : take first (with_run xs first count x) ≡ take first xs =
      ap (take first) (append_assoc (take first xs) (replicate count x) (drop (first + count) xs)) ∙ take_at (take first xs) (replicate count x ++ drop (first + count) xs) first long in
      let back = drop_at (take first xs ++ replicate count x) (drop (first + count) xs) (first + count) (length-front xs first count x inside) in
      ap (λ (p : List X). p ++ replicate count y ++ drop (first + count) (with_run xs first count x)) front ∙ ap (λ (q : List X). take first xs ++ replicate count y ++ q) back

  pub get_or-with_run_in : (xs : List X) (first count at : ℕ) (x d : X) → first + count ≤ length xs → first ≤ at → at < first + count → get_or (with_run xs first count x) at d ≡ x
  get_or-with_run_in xs first count at x d inside low high =
      let long : length (take first xs) ≡ first = length-take-le first xs (omega arith) in
      let front = length-front xs first count x inside in
      get_or_append_left (take first xs ++ replicate count x) (drop (first + count) xs) d at (omega arith)
      ∙ get_or-append_right (take first xs) (replicate count x) first at d long low
      ∙ get_or-replicate count (at - first) x d (omega arith)

  pub get_or-with_run_below : (xs : List X) (first count at : ℕ) (x d : X) → first + count ≤ length xs → at < first → get_or (with_run xs first count x) at d ≡ get_or xs at d
  get_or-with_run_below xs first count at x d inside low =
      let long : length (take first xs) ≡ first = length-take-le first xs (omega arith) in
      let front = length-front xs first count x inside in
      get_or_append_left (take first xs ++ replicate count x) (drop (first + count) xs) d at (omega arith)
      ∙ get_or_append_left (take first xs) (replicate count x) d at (omega arith)
      ∙ get_or-take first xs at d low

  pub get_or-with_run_above : (xs : List X) (first count at : ℕ) (x d : X) → first + count ≤ length xs → first + count ≤ at → get_or (with_run xs first count x) at d ≡ get_or xs at d
  get_or-with_run_above xs first count at x d inside high =
      let front = length-front xs first count x inside in
      let there : first + count + (at - (first + count)) ≡ at = omega arith in
      get_or-append_right (take first xs ++ replicate count x) (drop (first + count) xs) (first + count) at d front high
      ∙ get_or-drop (first + count) xs (at - (first + count)) d ∙ ap (λ (k : ℕ). get_or xs k d) there

  -- a range that was so already
  pub with_run_same : (xs : List X) (first count : ℕ) (x : X) → first + count ≤ length xs → ((at : ℕ) → first ≤ at → at < first + count → get_or xs at x ≡ x) → with_run xs first count x ≡ xs
  with_run_same xs first count x inside same =
      same_lists (with_run xs first count x) xs (length-with_run xs first count x inside) (λ k d h.
      let long = length-with_run xs first count x inside in
      elim (cases_lt k first) [
        | inl low ↦ get_or-with_run_below xs first count k x d inside low
        | inr from ↦ elim (cases_lt k (first + count)) [
          | inl within ↦ get_or-with_run_in xs first count k x d inside from within ∙ sym (get_or_default xs k d x (omega arith) ∙ same k from within)
          | inr above ↦ get_or-with_run_above xs first count k x d inside above
        ]
      ])

free_count-append : (xs ys : List (Option ℕ)) → free_count (xs ++ ys) ≡ free_count xs + free_count ys
free_count-append [] ys = omega arith
free_count-append (None ∷ xs) ys = let h = free_count-append xs ys in omega arith
free_count-append (Some o ∷ xs) ys = free_count-append xs ys

pub free_count-replicate_free : (n : ℕ) → free_count (replicate n None) ≡ n
free_count-replicate_free zero = refl
free_count-replicate_free (suc n) = let h = free_count-replicate_free n in omega arith

free_count-replicate_held : (n o : ℕ) → free_count (replicate n (Some o)) ≡ 0
free_count-replicate_held zero o = refl
free_count-replicate_held (suc n) o = free_count-replicate_held n o

free_count-with_run : (owners : List (Option ℕ)) (first count : ℕ) (x : Option ℕ)
    → free_count (with_run owners first count x) ≡ free_count (take first owners) + free_count (replicate count x) + free_count (drop (first + count) owners)
free_count-with_run owners first count x =
    free_count-append (take first owners ++ replicate count x) (drop (first + count) owners)
    ∙ ap (λ k. k + free_count (drop (first + count) owners)) (free_count-append (take first owners) (replicate count x))

-- a free run is what it is made by giving it back
pub given_free : (owners : List (Option ℕ)) (first count : ℕ) → IsFreeRun owners first count → with_run owners first count None ≡ owners
given_free owners first count run = with_run_same owners first count None run.inside run.free

pub taken_held : (owners : List (Option ℕ)) (first count : ℕ) → IsHeldRun owners first count → with_run owners first count (Some first) ≡ owners
taken_held owners first count run = with_run_same owners first count (Some first) run.inside (λ at low high. get_or_default owners at (Some first) None (omega (arith, run.inside)) ∙ run.held at low high)

pub free_count_taken : (owners : List (Option ℕ)) (first count : ℕ) → IsFreeRun owners first count → free_count (with_run owners first count (Some first)) + count ≡ free_count owners
free_count_taken owners first count run =
    let was = sym (free_count-with_run owners first count None) ∙ ap free_count (given_free owners first count run) in
    omega (arith, was, free_count-with_run owners first count (Some first), free_count-replicate_free count, free_count-replicate_held count first)

pub free_count_given : (owners : List (Option ℕ)) (first count : ℕ) → IsHeldRun owners first count → free_count (with_run owners first count None) ≡ free_count owners + count
free_count_given owners first count run =
    let was = sym (free_count-with_run owners first count (Some first)) ∙ ap free_count (taken_held owners first count run) in
    omega (arith, was, free_count-with_run owners first count None, free_count-replicate_free count, free_count-replicate_held count first)
