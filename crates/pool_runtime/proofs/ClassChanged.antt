-- A pool of which one class has changed, while the runs of all else stay as they are.
use Rattle.std.proofs.Common.{◌≡◌, ℕ, zero, suc, ◌+◌, Bool, true, false, List, [], ◌∷◌, Some, length, map, set, refl, sym, ap, subst, ◌∙◌, inl, inr, arith}
use Rattle.std.specs.Prelude.{slice_get, slice_index, sum_by}
use Rattle.std.specs.Map.{keys_of}
use Rattle.std.specs.List.Sorted.{IsStrictlySortedBy}
use Rattle.std.specs.Ordering.{nat_cmp}
use Rattle.std.specs.List.{AllByRecursion}
use Rattle.std.proofs.lemmas.Bool.{cases_eq}
use Rattle.std.proofs.lemmas.Option.{same_Some, slice_get_within, slice_get-get_or, get_or_from_slice_get}
use Rattle.std.proofs.lemmas.List.{get_or-set_same, get_or-set_other, length-set}
use Rattle.std.proofs.lemmas.List.Sums.{sum_by-cons}
use Rattle.slab_space.specs.Runs.{need}
use Rattle.slab_space.specs.Pool.{classes_of}
use Rattle.slab_space.specs.Pool as seen
use Rattle.pool_runtime.specs.declared.cells.Cells.{Cells}
use Rattle.pool_runtime.specs.declared.pool.Pool.{Pool}
use Rattle.pool_runtime.specs.declared.slabs.Held.{Held}
use Rattle.pool_runtime.specs.declared.slabs.Held.TheVariants as held
use Rattle.pool_runtime.specs.declared.slabs.Home.{Home}
use Rattle.pool_runtime.specs.declared.slabs.Slabs.{Slabs}
use Rattle.pool_runtime.specs.Seen.{class_seen, large_seen, pool_seen}
use Rattle.pool_runtime.specs.Tables.{IsSpace, IsClass, IsLarge, IsPool, of_class, of_large}
use Rattle.pool_runtime.specs.Changes.{Keeps, of_others}
use Rattle.pool_runtime.proofs.Fresh.{all_at}
use Rattle.pool_runtime.proofs.Parts.{same_pool}
use Rattle.pool_runtime.proofs.Sums.{lives_of, class_need, fits, live_is, slabs_is}
use Rattle.pool_runtime.proofs.Kept.{map_same, class_kept, table_kept, larges_kept}
use Rattle.pool_runtime.proofs.Loads.{large_inside}
use Rattle.pool_runtime.proofs.Stores.{all_by_place}

-- ---- one element changed

pub map_set_same : {X Y : Type 0} (f g : X → Y) (xs : List X) (k : ℕ) (y : X) → ((i : ℕ) (x : X) → slice_get xs i ≡ Some x → ¬ (i ≡ k) → f x ≡ g x) → map f (set xs k y) ≡ set (map g xs) k (f y)
map_set_same f g [] k y same = refl
map_set_same {X} {Y} f g (x ∷ xs) zero y same = ap (λ (ys : List Y). f y ∷ ys) (map_same f g xs (λ i z at. same (suc i) z at (λ e. absurd (omega (arith, e)))))
map_set_same f g (x ∷ xs) (suc k) y same =
    rw (same 0 x refl (λ e. absurd (omega (arith, e))), map_set_same f g xs k y (λ i z at differ. same (suc i) z at (λ e. differ (let e' : i ≡ k = omega (arith, e) in e')))) refl

pub sum_set_same : {X : Type 0} (f g : X → ℕ) (xs : List X) (k : ℕ) (y c : X) → slice_get xs k ≡ Some c → ((i : ℕ) (x : X) → slice_get xs i ≡ Some x → ¬ (i ≡ k) → f x ≡ g x) → sum_by f (set xs k y) + g c ≡ sum_by g xs + f y
sum_set_same f g [] k y c at same = absurd cc
sum_set_same {X} f g (x ∷ xs) zero y c at same =
    let rest = sums xs (λ i z at'. same (suc i) z at' (λ e. absurd (omega (arith, e)))) in
    let here = ap g (same_Some x c at) in
    omega (arith, sum_by-cons f y xs, sum_by-cons g x xs, rest, here)
  where
    sums : (zs : List X) → ((i : ℕ) (z : X) → slice_get zs i ≡ Some z → f z ≡ g z) → sum_by f zs ≡ sum_by g zs
    sums [] each = refl
    sums (z ∷ zs) each = let one = each 0 z refl in let more = sums zs (λ i w at'. each (suc i) w at') in omega (arith, sum_by-cons f z zs, sum_by-cons g z zs)
sum_set_same f g (x ∷ xs) (suc k) y c at same =
    let rest = sum_set_same f g xs k y c at (λ i z at' differ. same (suc i) z at' (λ e. differ (let e' : i ≡ k = omega (arith, e) in e'))) in
    let one = same 0 x refl (λ e. absurd (omega (arith, e))) in
    omega (arith, sum_by-cons f x (set xs k y), sum_by-cons g x xs, rest, one)

module _ {X : Type 0} (xs : List X) (k : ℕ) (y : X) where
  pub set_here : (x : X) → slice_get (set xs k y) k ≡ Some x → x ≡ y
  set_here x at =
      let inside = slice_get_within (set xs k y) k x at in
      sym (get_or_from_slice_get (set xs k y) k x y at) ∙ get_or-set_same xs k y y (omega (arith, length-set xs k y))

  pub set_there : (i : ℕ) (x : X) → ¬ (i ≡ k) → slice_get (set xs k y) i ≡ Some x → slice_get xs i ≡ Some x
  set_there i x differ at =
      let inside = slice_get_within (set xs k y) i x at in
      slice_get-get_or xs i x (omega (arith, length-set xs k y)) ∙ ap Some (sym (get_or-set_other xs k i y x differ) ∙ get_or_from_slice_get (set xs k y) i x x at)

-- ---- the class

abbrev class_in : Held → ℕ
class_in (held.Cells class run) = class
class_in held.Large = 0

abbrev is_cells : Held → Bool
is_cells (held.Cells class run) = true
is_cells held.Large = false

-- all runs but those of one class
abbrev pub not_class : ℕ → ℕ → ℕ → Home → Type 0
not_class id k first home = (j : ℕ) → ¬ (home ≡ of_class id k j)

pub others_kept : (id k : ℕ) (old new : Slabs) → Keeps (not_class id k) old new → Keeps (of_others id) old new
others_kept id k old new keeps first count home other at = keeps first count home (λ j e. other (ap (λ (h : Home). h.pool) e)) at

module _ (old new : Slabs) (id k : ℕ) (pool pool' : Pool) (c c' : Cells) (space : IsSpace old.space) (space' : IsSpace new.space) (long : length new.space.owners ≡ length old.space.owners)
    (is : IsPool old id pool) (at : slice_get pool.classes.items k ≡ Some c) (keeps : Keeps (not_class id k) old new)
    (kind : pool'.kind ≡ pool.kind) (classes' : pool'.classes.items ≡ set pool.classes.items k c') (large' : pool'.large.entries ≡ pool.large.entries)
    (size : c'.size ≡ c.size) (class' : IsClass new id k c') where
  other_class : (i : ℕ) (x : Cells) (j first : ℕ) → ¬ (i ≡ k) → not_class id k first (of_class id i j)
  other_class i x j first differ j' e = differ (ap (λ (h : Home). class_in h.held) e)

  other_large : (first : ℕ) → not_class id k first (of_large id)
  other_large first j e = let both : false ≡ true = ap (λ (h : Home). is_cells h.held) e in absurd cc

  kept_seen : (i : ℕ) (x : Cells) → slice_get pool.classes.items i ≡ Some x → ¬ (i ≡ k) → class_seen new.space.bytes x ≡ class_seen old.space.bytes x
  kept_seen i x at_i differ = class_kept (not_class id k) old new space space' long keeps id i x (is.classes i x at_i) (λ j inside. other_class i x j (slice_index x.runs.items j) differ)

  kept_class : (i : ℕ) (x : Cells) → slice_get pool.classes.items i ≡ Some x → ¬ (i ≡ k) → IsClass new id i x
  kept_class i x at_i differ = table_kept (not_class id k) old new space space' long keeps id i x (is.classes i x at_i) (λ j inside. other_class i x j (slice_index x.runs.items j) differ)

  kept_large : AllByRecursion (IsLarge new id) pool.large.entries
  kept_large = (larges_kept (not_class id k) old new space space' long keeps id pool.large.entries is.large (all_by_place (λ e. not_class id k e.0 (of_large id)) pool.large.entries (λ i e there. other_large e.0))).0

  kept_large_seen : map (large_seen new.space.bytes) pool.large.entries ≡ map (large_seen old.space.bytes) pool.large.entries
  kept_large_seen = (larges_kept (not_class id k) old new space space' long keeps id pool.large.entries is.large (all_by_place (λ e. not_class id k e.0 (of_large id)) pool.large.entries (λ i e there. other_large e.0))).1

  pub class_changed_seen : pool_seen new.space.bytes pool' ≡ record (pool_seen old.space.bytes pool) { classes = set (pool_seen old.space.bytes pool).classes k (class_seen new.space.bytes c'); peak = pool'.peak }
  class_changed_seen =
      same_pool kind (ap (map (class_seen new.space.bytes)) classes' ∙ map_set_same (class_seen new.space.bytes) (class_seen old.space.bytes) pool.classes.items k c' kept_seen)
      (ap (map (large_seen new.space.bytes)) large' ∙ kept_large_seen) refl

  changed_class : (i : ℕ) (x : Cells) → slice_get (set pool.classes.items k c') i ≡ Some x → IsClass new id i x
  changed_class i x at_i = elim (cases_eq i k) [
    | inl e ↦ (
        let here = set_here pool.classes.items k c' x (ap (slice_get (set pool.classes.items k c')) (sym e) ∙ at_i) in
        subst (λ (n : ℕ). IsClass new id n x) (sym e) (subst (λ (y : Cells). IsClass new id k y) (sym here) class'))
    | inr differ ↦ kept_class i x (set_there pool.classes.items k c' i x differ at_i) differ
  ]

  sizes_same : map (λ (x : Cells). x.size) (set pool.classes.items k c') ≡ map (λ (x : Cells). x.size) pool.classes.items
  sizes_same = map_set_same (λ (x : Cells). x.size) (λ (x : Cells). x.size) pool.classes.items k c' (λ i x at_i differ. refl) ∙ ap (set (map (λ (x : Cells). x.size) pool.classes.items) k) size ∙ back pool.classes.items k at
    where
      back : (xs : List Cells) (n : ℕ) → slice_get xs n ≡ Some c → set (map (λ (x : Cells). x.size) xs) n c.size ≡ map (λ (x : Cells). x.size) xs
      back [] n e = absurd cc
      back (x ∷ xs) zero e = ap (λ s. s ∷ map (λ (y : Cells). y.size) xs) (sym (ap (λ (y : Cells). y.size) (same_Some x c e)))
      back (x ∷ xs) (suc n) e = ap (λ (ss : List ℕ). x.size ∷ ss) (back xs n e)

  module _ (live' : pool'.live + lives_of old.space.bytes c ≡ pool.live + lives_of new.space.bytes c') (slabs' : pool'.slabs + class_need c ≡ pool.slabs + class_need c') where
    pub class_changed : IsPool new id pool'
    class_changed =
        let b = old.space.bytes in let b' = new.space.bytes in
        let lives = ap (sum_by (lives_of b')) classes' in
        let lives_set = sum_set_same (lives_of b') (lives_of b) pool.classes.items k c' c at (λ i x at_i differ. ap (λ cs. length (seen.live_cells cs)) (kept_seen i x at_i differ)) in
        let needs = ap (sum_by class_need) classes' in
        let needs_set = sum_set_same class_need class_need pool.classes.items k c' c at (λ i x at_i differ. refl) in
        let fit = all_by_place (fits b) pool.large.entries (λ i e there. large_inside old space id e (all_at (IsLarge old id) pool.large.entries i e is.large there)) in
        let fit' = subst (AllByRecursion (fits b')) (sym large') (all_by_place (fits b') pool.large.entries (λ i e there. large_inside new space' id e (all_at (IsLarge new id) pool.large.entries i e kept_large there))) in
        let larges = ap (sum_by (λ (e : ℕ × ℕ). need e.1)) large' in
        let count = ap (λ (es : List (ℕ × ℕ)). length es) large' in
        record {
          kind = subst seen.IsKind (sym kind) is.kind;
          sizes = ap (map (λ (x : Cells). x.size)) classes' ∙ sizes_same ∙ is.sizes ∙ ap (λ q. map (λ (x : seen.Cells). x.size) (classes_of q)) (sym kind);
          classes = λ i x at_i. changed_class i x (sym (ap (λ (xs : List Cells). slice_get xs i) classes') ∙ at_i);
          ordered = subst (λ (es : List (ℕ × ℕ)). IsStrictlySortedBy nat_cmp (keys_of es)) (sym large') is.ordered;
          large = subst (AllByRecursion (IsLarge new id)) (sym large') kept_large;
          live = omega (arith, live', is.live, live_is b pool, live_is b' pool', lives, lives_set, count);
          slabs = omega (arith, slabs', is.slabs, slabs_is b pool fit, slabs_is b' pool' fit', needs, needs_set, larges);
        }
