-- The class that an object goes to.
use Rattle.std.proofs.Common.{◌≡◌, ℕ, zero, suc, [], ◌∷◌, ◌<◌, ◌≤◌, Bool, false, List, Option, Some, None, length, map, get_or, refl, sym, ap, ◌∙◌, arith}
use Rattle.std.specs.Prelude.{if◌then◌else◌, nat_le, nat_lt, position, slice_get, option_map}
use Rattle.std.specs.List.{position_or_len}
use Rattle.std.proofs.lemmas.Bool.{le-leb, leb-true, lt-ltb, ltb-true, false_from_ne_true}
use Rattle.std.proofs.lemmas.List.Sums.{position_or_len_is}
use Rattle.std.proofs.lemmas.Option.{slice_get-map, get_or_from_slice_get}
use Rattle.slab_space.specs.Pool as seen
use Rattle.pool_runtime.specs.declared.cells.Cells.{Cells}
use Rattle.pool_runtime.specs.declared.pool.Pool.{Pool}
use Rattle.pool_runtime.specs.declared.slabs.Slabs.{Slabs}
use Rattle.pool_runtime.specs.Seen.{class_seen}
use Rattle.pool_runtime.specs.Tables.{IsPool}
use Rattle.pool_runtime.proofs.Sums.{length-mapped}
use Rattle.slab_space.specs.declared.kind.PoolKind.{PoolKind}
use Rattle.slab_space.specs.declared.kind.PoolKind.TheVariants.{Homogeneous, Mixed}

pub some_inside : (xs : List Cells) (k : ℕ) → k < length xs → slice_get xs k ≡ None → ⊥
some_inside [] k inside none = absurd (omega arith)
some_inside (x ∷ xs) zero inside none = cc
some_inside (x ∷ xs) (suc k) inside none = some_inside xs k (omega arith) none

module _ (memory : List ℕ) (cs : List Cells) (bytes i : ℕ) (before : (k : ℕ) (c : Cells) → k < i → slice_get cs k ≡ Some c → c.size < bytes) where
  read_at : (k : ℕ) (c : Cells) (d : seen.Cells) → slice_get cs k ≡ Some c → get_or (map (class_seen memory) cs) k d ≡ class_seen memory c
  read_at k c d at = get_or_from_slice_get (map (class_seen memory) cs) k (class_seen memory c) d (slice_get-map (class_seen memory) cs k ∙ ap (option_map (class_seen memory)) at)

  fails_by : (k : ℕ) (o : Option Cells) (d : seen.Cells) → slice_get cs k ≡ o → k < length cs → k < i → nat_le bytes (get_or (map (class_seen memory) cs) k d).size ≡ false
  fails_by k None d at inside low = absurd (some_inside cs k inside at)
  fails_by k (Some c) d at inside low =
      ap (λ (x : seen.Cells). nat_le bytes x.size) (read_at k c d at)
      ∙ false_from_ne_true (nat_le bytes c.size) (λ t. absurd (omega (arith, leb-true bytes c.size t, before k c low at)))

  fails : (d : seen.Cells) (k : ℕ) → i ≤ length cs → k < i → nat_le bytes (get_or (map (class_seen memory) cs) k d).size ≡ false
  fails d k within low = fails_by k (slice_get cs k) d refl (omega arith) low

  pub first_class : (r : Cells) → slice_get cs i ≡ Some r → i < length cs → bytes ≤ r.size → Some i ≡ position (λ c. nat_le bytes c.size) (map (class_seen memory) cs)
  first_class r at inside fits =
      let xs = map (class_seen memory) cs in let long = length-mapped (class_seen memory) cs in
      let p = λ (c : seen.Cells). nat_le bytes c.size in
      let there : position_or_len p xs ≡ i = position_or_len_is p xs i (class_seen memory r) (omega (arith, long)) (λ k low. fails (class_seen memory r) k (omega arith) low) (λ h. ap p (read_at i r (class_seen memory r) at) ∙ le-leb bytes r.size fits) in
      sym (ap (λ q. if nat_lt q (length xs) then Some q else None) there ∙ ap (λ (b : Bool). if b then Some i else None) (lt-ltb i (length xs) (omega (arith, long))))

  pub no_class : length cs ≡ i → None ≡ position (λ c. nat_le bytes c.size) (map (class_seen memory) cs)
  no_class all =
      let xs = map (class_seen memory) cs in let long = length-mapped (class_seen memory) cs in
      let p = λ (c : seen.Cells). nat_le bytes c.size in
      let there : position_or_len p xs ≡ i = position_or_len_is p xs i (seen.no_cells 0) (omega (arith, long)) (λ k low. fails (seen.no_cells 0) k (omega arith) low) (λ h. absurd (omega (arith, long))) in
      let last : nat_lt i (length xs) ≡ false = false_from_ne_true (nat_lt i (length xs)) (λ t. absurd (omega (arith, ltb-true i (length xs) t, long))) in
      sym (ap (λ q. if nat_lt q (length xs) then Some q else None) there ∙ ap (λ (b : Bool). if b then Some i else None) last)

some_of : (kind : PoolKind) → 1 ≤ length (map (λ (c : seen.Cells). c.size) (seen.classes_of kind))
some_of (Homogeneous source cell indexed) = omega arith
some_of Mixed = omega arith

pub some_class : (slabs : Slabs) (id : ℕ) (pool : Pool) → IsPool slabs id pool → 1 ≤ length pool.classes.items
some_class slabs id pool is =
    let count = sym (length-mapped (λ (c : Cells). c.size) pool.classes.items) ∙ ap (λ (ns : List ℕ). length ns) is.sizes in
    omega (arith, count, some_of pool.kind)
