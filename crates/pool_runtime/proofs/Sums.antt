-- How many live in a pool and how many slabs it holds, as sums over its tables.
use Rattle.std.proofs.Common.{◌≡◌, ℕ, zero, suc, ◌+◌, ◌*◌, ◌≤◌, List, [], ◌∷◌, Some, length, map, refl, sym, ap, ◌∙◌, arith, length-append}
use Rattle.std.specs.Prelude.{slice_get, sum_by}
use Rattle.std.specs.List.{AllByRecursion, flat_map}
use Rattle.std.proofs.lemmas.List.Sums.{sum_by-cons}
use Rattle.std.proofs.lemmas.Option.{same_Some}
use Rattle.slab_space.specs.Runs.{need}
use Rattle.slab_space.specs.Pool.{live_cells, live_in, slabs_in, large_object}
use Rattle.slab_space.specs.Pool as seen
use Rattle.pool_runtime.specs.declared.cells.Cells.{Cells}
use Rattle.pool_runtime.specs.declared.pool.Pool.{Pool}
use Rattle.pool_runtime.specs.Seen.{class_seen, large_seen, pool_seen}
use Rattle.pool_runtime.proofs.Ranges.{length-range}

pub length-mapped : {X Y : Type 0} (f : X → Y) (xs : List X) → length (map f xs) ≡ length xs
length-mapped f [] = refl
length-mapped f (x ∷ xs) = ap (λ n. suc n) (length-mapped f xs)

abbrev pub lives_of : List ℕ → Cells → ℕ
lives_of bytes c = length (live_cells (class_seen bytes c))

abbrev pub fits : List ℕ → ℕ × ℕ → Type 0
fits bytes e = 4096 * e.0 + e.1 ≤ length bytes

abbrev pub class_need : Cells → ℕ
class_need c = need c.size * length c.runs.items

module _ (bytes : List ℕ) where
  classes_live : (cs : List Cells) → length (flat_map live_cells (map (class_seen bytes) cs)) ≡ sum_by (lives_of bytes) cs
  classes_live [] = refl
  classes_live (c ∷ cs) = length-append (live_cells (class_seen bytes c)) (flat_map live_cells (map (class_seen bytes) cs)) ∙ ap (λ n. length (live_cells (class_seen bytes c)) + n) (classes_live cs) ∙ sym (sum_by-cons (lives_of bytes) c cs)

  pub live_is : (pool : Pool) → live_in (pool_seen bytes pool) ≡ sum_by (lives_of bytes) pool.classes.items + length pool.large.entries
  live_is pool =
      let ls = length-mapped large_object (map (large_seen bytes) pool.large.entries) ∙ length-mapped (large_seen bytes) pool.large.entries in
      omega (arith, length-append (flat_map live_cells (map (class_seen bytes) pool.classes.items)) (map large_object (map (large_seen bytes) pool.large.entries)), classes_live pool.classes.items, ls)

  classes_need : (cs : List Cells) → sum_by (λ (c : seen.Cells). need c.size * length c.runs) (map (class_seen bytes) cs) ≡ sum_by class_need cs
  classes_need [] = refl
  classes_need (c ∷ cs) = sum_by-cons (λ (x : seen.Cells). need x.size * length x.runs) (class_seen bytes c) (map (class_seen bytes) cs) ∙ ap (λ n. need c.size * length c.runs.items + n) (classes_need cs) ∙ sym (sum_by-cons class_need c cs)

  larges_need : (es : List (ℕ × ℕ)) → AllByRecursion (fits bytes) es → sum_by (λ (l : seen.Large). need (length l.bytes)) (map (large_seen bytes) es) ≡ sum_by (λ (e : ℕ × ℕ). need e.1) es
  larges_need [] fit = refl
  larges_need (e ∷ es) fit =
      sum_by-cons (λ (l : seen.Large). need (length l.bytes)) (large_seen bytes e) (map (large_seen bytes) es) ∙ ap (λ n. need n + sum_by (λ (l : seen.Large). need (length l.bytes)) (map (large_seen bytes) es)) (length-range bytes (4096 * e.0) e.1 fit.0)
      ∙ ap (λ n. need e.1 + n) (larges_need es fit.1) ∙ sym (sum_by-cons (λ (x : ℕ × ℕ). need x.1) e es)

  pub slabs_is : (pool : Pool) → AllByRecursion (fits bytes) pool.large.entries → slabs_in (pool_seen bytes pool) ≡ sum_by class_need pool.classes.items + sum_by (λ (e : ℕ × ℕ). need e.1) pool.large.entries
  slabs_is pool fit = omega (arith, classes_need pool.classes.items, larges_need pool.large.entries fit)

pub sum_same : {X : Type 0} (f g : X → ℕ) (xs : List X) → ((k : ℕ) (x : X) → slice_get xs k ≡ Some x → f x ≡ g x) → sum_by f xs ≡ sum_by g xs
sum_same f g [] same = refl
sum_same f g (x ∷ xs) same = let one = same 0 x refl in let rest = sum_same f g xs (λ k y at. same (suc k) y at) in omega (arith, sum_by-cons f x xs, sum_by-cons g x xs)

pub sum_at : {X : Type 0} (f : X → ℕ) (xs : List X) (k : ℕ) (x : X) → slice_get xs k ≡ Some x → f x ≤ sum_by f xs
sum_at f [] k x at = absurd cc
sum_at f (y ∷ xs) zero x at = let e = ap f (same_Some y x at) in omega (arith, sum_by-cons f y xs, e)
sum_at f (y ∷ xs) (suc k) x at = omega (arith, sum_by-cons f y xs, sum_at f xs k x at)

-- ---- how many may live

pub sum_scaled : {X : Type 0} (f g : X → ℕ) (n : ℕ) (xs : List X) → ((k : ℕ) (x : X) → slice_get xs k ≡ Some x → f x ≤ n * g x) → sum_by f xs ≤ n * sum_by g xs
sum_scaled f g n [] each = omega arith
sum_scaled f g n (x ∷ xs) each =
    let one = each 0 x refl in let rest = sum_scaled f g n xs (λ k y at. each (suc k) y at) in
    let split : n * (g x + sum_by g xs) ≡ n * g x + n * sum_by g xs = omega arith in
    let whole = ap (λ m. n * m) (sum_by-cons g x xs) in
    omega (arith, sum_by-cons f x xs, one, rest, split, whole)

pub each_needs : (es : List (ℕ × ℕ)) → ((k : ℕ) (e : ℕ × ℕ) → slice_get es k ≡ Some e → 1 ≤ e.1) → length es ≤ sum_by (λ (e : ℕ × ℕ). need e.1) es
each_needs [] each = omega arith
each_needs (e ∷ es) each =
    let one = each 0 e refl in let rest = each_needs es (λ k y at. each (suc k) y at) in
    omega (arith, sum_by-cons (λ (x : ℕ × ℕ). need x.1) e es, one, rest)
