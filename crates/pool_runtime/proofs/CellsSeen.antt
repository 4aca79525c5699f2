-- What cells are seen as, after a cell became live or was freed.
use Rattle.std.proofs.Common.{◌≡◌, ℕ, zero, suc, ◌+◌, ◌-◌, ◌<◌, ◌≤◌, List, [], ◌∷◌, ◌++◌, Option, Some, None, length, get_or, set, refl, sym, ap, ◌∙◌, inl, inr, arith}
use Rattle.std.specs.List.{AllByRecursion}
use Rattle.std.proofs.lemmas.List.{length_push, same_lists, get_or-set_same, get_or-set_other, length-set, get_or_append_left, get_or_push}
use Rattle.std.proofs.lemmas.Bool.{cases_lt, cases_eq}
use Rattle.run_theory.specs.Words.{word_at}
use Rattle.slab_space.specs.Pool.{live_from}
use Rattle.slab_space.specs.Pool as seen
use Rattle.pool_runtime.specs.declared.cells.Cells.{Cells}
use Rattle.pool_runtime.specs.Bytes.{SameAt}
use Rattle.pool_runtime.specs.Seen.{place, cell_seen, cells_seen, threaded}
use Rattle.pool_runtime.proofs.Ranges.{word_at-same}

-- ---- the list of cells

pub length-cells_seen : (bytes : List ℕ) (c : Cells) (made : ℕ) → length (cells_seen bytes c made) ≡ made
length-cells_seen bytes c zero = refl
length-cells_seen bytes c (suc made) = length_push (cells_seen bytes c made) (cell_seen bytes c (suc made)) ∙ ap (λ n. n + 1) (length-cells_seen bytes c made) ∙ omega arith

pub get_or-cells_seen : (bytes : List ℕ) (c : Cells) (made at : ℕ) (d : Option (List ℕ)) → at < made → get_or (cells_seen bytes c made) at d ≡ cell_seen bytes c (at + 1)
get_or-cells_seen bytes c zero at d inside = absurd (omega arith)
get_or-cells_seen bytes c (suc made) at d inside =
    let long = length-cells_seen bytes c made in
    elim (cases_lt at made) [
      | inl before ↦ get_or_append_left (cells_seen bytes c made) (cell_seen bytes c (suc made) ∷ []) d at (omega (arith, long)) ∙ get_or-cells_seen bytes c made at d before
      | inr last ↦ (
          let here : made ≡ at = omega arith in
          get_or_push (cells_seen bytes c made) (cell_seen bytes c (suc made)) d at (long ∙ here) ∙ ap (cell_seen bytes c) (let next : suc made ≡ at + 1 = omega arith in next))
    ]

-- cells that look the same
pub cells_same : (bytes bytes' : List ℕ) (c c' : Cells) (made : ℕ) → ((n : ℕ) → 1 ≤ n → n ≤ made → cell_seen bytes' c' n ≡ cell_seen bytes c n) → cells_seen bytes' c' made ≡ cells_seen bytes c made
cells_same bytes bytes' c c' zero same = refl
cells_same bytes bytes' c c' (suc made) same = rw (cells_same bytes bytes' c c' made (λ n low high. same n low (omega arith)), same (suc made) (omega arith) (omega arith)) refl

-- all look the same but one
pub cells_set : (bytes bytes' : List ℕ) (c c' : Cells) (made number : ℕ) (x : Option (List ℕ)) → 1 ≤ number → number ≤ made
    → ((n : ℕ) → 1 ≤ n → n ≤ made → ¬ (n ≡ number) → cell_seen bytes' c' n ≡ cell_seen bytes c n) → cell_seen bytes' c' number ≡ x
    → cells_seen bytes' c' made ≡ set (cells_seen bytes c made) (number - 1) x
cells_set bytes bytes' c c' made number x low high same is =
    let old = cells_seen bytes c made in let new = cells_seen bytes' c' made in
    let long = length-cells_seen bytes c made in let long' = length-cells_seen bytes' c' made in
    same_lists new (set old (number - 1) x) (long' ∙ sym (length-set old (number - 1) x ∙ long)) (λ k d h.
    let k_made : k < made = omega (arith, h, long') in
    let seen = get_or-cells_seen bytes' c' made k d k_made in
    elim (cases_eq k (number - 1)) [
      | inl here ↦ (let there : k + 1 ≡ number = omega (arith, here) in
          seen ∙ ap (cell_seen bytes' c') there ∙ is ∙ sym (get_or-set_same old (number - 1) x d (omega (arith, long))) ∙ ap (λ i. get_or (set old (number - 1) x) i d) (sym here))
      | inr other ↦ (
          seen ∙ same (k + 1) (omega arith) (omega arith) (λ e. other (let e' : k ≡ number - 1 = omega (arith, e) in e'))
          ∙ sym (get_or-set_other old (number - 1) k x d other ∙ get_or-cells_seen bytes c made k d k_made))
    ])

-- ---- the freed cells

pub threaded_same : (bytes bytes' : List ℕ) (c c' : Cells) (count number : ℕ) → AllByRecursion (λ n. (place c' n ≡ place c n) × SameAt bytes bytes' (place c n) 4) (threaded bytes c count number)
    → threaded bytes' c' count number ≡ threaded bytes c count number
threaded_same bytes bytes' c c' zero number same = refl
threaded_same bytes bytes' c c' (suc count) number same =
    let next = ap (λ p. word_at bytes' p 4) same.0.0 ∙ word_at-same bytes bytes' (place c number) 4 same.0.1 in
    ap (λ (ns : List ℕ). number ∷ ns) (ap (threaded bytes' c' count) next ∙ threaded_same bytes bytes' c c' count (word_at bytes (place c number) 4) same.1)

pub all_among : {P Q : ℕ → Type 0} (ns : List ℕ) → ((n : ℕ) → P n → Q n) → AllByRecursion P ns → AllByRecursion Q ns
all_among [] from all = tt
all_among (n ∷ ns) from all = (from n all.0, all_among ns from all.1)

pub both_among : (P Q : ℕ → Type 0) (ns : List ℕ) → AllByRecursion P ns → AllByRecursion Q ns → AllByRecursion (λ n. P n × Q n) ns
both_among P Q [] p q = tt
both_among P Q (n ∷ ns) p q = ((p.0, q.0), both_among P Q ns p.1 q.1)

-- ---- how many live

abbrev pub somes : {X : Type 0} → List (Option X) → ℕ
somes [] = 0
somes (None ∷ xs) = somes xs
somes (Some x ∷ xs) = 1 + somes xs

pub somes_push : {X : Type 0} (xs : List (Option X)) (y : X) → somes (xs ++ Some y ∷ []) ≡ somes xs + 1
somes_push [] y = refl
somes_push (None ∷ xs) y = somes_push xs y
somes_push (Some x ∷ xs) y = omega (arith, somes_push xs y)

pub somes_more : {X : Type 0} (xs : List (Option X)) (i : ℕ) (y : X) → i < length xs → get_or xs i None ≡ None → somes (set xs i (Some y)) ≡ somes xs + 1
somes_more [] i y inside none = absurd (omega arith)
somes_more (None ∷ xs) zero y inside none = omega arith
somes_more (Some x ∷ xs) zero y inside none = absurd cc
somes_more (None ∷ xs) (suc i) y inside none = somes_more xs i y (omega arith) none
somes_more (Some x ∷ xs) (suc i) y inside none = omega (arith, somes_more xs i y (omega arith) none)

pub somes_less : {X : Type 0} (xs : List (Option X)) (i : ℕ) (y : X) → get_or xs i None ≡ Some y → somes (set xs i None) + 1 ≡ somes xs
somes_less [] i y some = absurd cc
somes_less (None ∷ xs) zero y some = absurd cc
somes_less (Some x ∷ xs) zero y some = omega arith
somes_less (None ∷ xs) (suc i) y some = somes_less xs i y some
somes_less (Some x ∷ xs) (suc i) y some = omega (arith, somes_less xs i y some)

pub length-live_from : (c : seen.Cells) (number : ℕ) (cells : List (Option (List ℕ))) → length (live_from c number cells) ≡ somes cells
length-live_from c number [] = refl
length-live_from c number (None ∷ cells) = length-live_from c (suc number) cells
length-live_from c number (Some bytes ∷ cells) = omega (arith, length-live_from c (suc number) cells)
