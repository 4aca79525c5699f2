-- The heap's objects lie from 2 ^ 44 on.
use Rattle.std.proofs.Common.{◌≡◌, ℕ, suc, ◌+◌, ◌^◌, ◌≤◌, ◌<◌, Bool, true, false, List, [], ◌∷◌, ◌++◌, Option, Some, None, map, refl, arith}
use Rattle.std.specs.Prelude.{find, nat_le, if◌then◌else◌, length}
use Rattle.std.specs.List.{flat_map}
use Rattle.std.proofs.lemmas.Bool.{and_parts, leb-true}
use Rattle.slab_space.specs.Pool.{Cells, Large, Pool, Object, live_from, live_cells, large_object}
use Rattle.slab_space.specs.Pools.{Pools, objects_of, objects, object_at}
use Rattle.slab_space.specs.PoolSteps.{covers}

abbrev AreHigh : List Object → Type 0
AreHigh [] = Unit {0}
AreHigh (first ∷ others) = (2 ^ 44 ≤ first.start) × AreHigh others

high_both : (xs ys : List Object) → AreHigh xs → AreHigh ys → AreHigh (xs ++ ys)
high_both [] ys high high' = high'
high_both (x ∷ xs) ys high high' = (high.0, high_both xs ys high.1 high')

cells_high : (c : Cells) (number : ℕ) (cells : List (Option (List ℕ))) → AreHigh (live_from c number cells)
cells_high c number [] = tt
cells_high c number (None ∷ others) = cells_high c (suc number) others
cells_high c number (Some bytes ∷ others) = (omega arith, cells_high c (suc number) others)

classes_high : (classes : List Cells) → AreHigh (flat_map live_cells classes)
classes_high [] = tt
classes_high (c ∷ others) = high_both (live_cells c) (flat_map live_cells others) (cells_high c 1 c.cells) (classes_high others)

large_high : (large : List Large) → AreHigh (map large_object large)
large_high [] = tt
large_high (l ∷ others) = (omega arith, large_high others)

pool_high : (pool : Option Pool) → AreHigh (objects_of pool)
pool_high None = tt
pool_high (Some pool) = high_both (flat_map live_cells pool.classes) (map large_object pool.large) (classes_high pool.classes) (large_high pool.large)

pools_high : (pools : List (Option Pool)) → AreHigh (flat_map objects_of pools)
pools_high [] = tt
pools_high (pool ∷ others) = high_both (objects_of pool) (flat_map objects_of others) (pool_high pool) (pools_high others)

found_high : (address size : ℕ) (list : List Object) → AreHigh list → (object : Object) → find (covers address size) list ≡ Some object → 2 ^ 44 ≤ address
found_high address size [] high object e = absurd (cc)
found_high address size (first ∷ others) high object e = by (covers address size first) refl e (found_high address size others high.1 object)
  where
    by : (b : Bool) → covers address size first ≡ b → (if b then Some first else find (covers address size) others) ≡ Some object → (find (covers address size) others ≡ Some object → 2 ^ 44 ≤ address) → 2 ^ 44 ≤ address
    by true is e rest =
        let both = and_parts (nat_le first.start address) (nat_le (address + size) (first.start + length first.bytes)) is in
        omega (arith, leb-true first.start address both.0, high.0)
    by false is e rest = rest e

-- an object is found at high addresses alone
pub object_high : (pools : Pools) (address size : ℕ) (object : Object) → object_at pools address size ≡ Some object → 2 ^ 44 ≤ address
object_high pools address size object e = found_high address size (objects pools) (pools_high pools.pools) object e

pub none_low : (pools : Pools) (address size : ℕ) → address < 2 ^ 44 → object_at pools address size ≡ None
none_low pools address size low = by (object_at pools address size) refl
  where
    by : (found : Option Object) → object_at pools address size ≡ found → object_at pools address size ≡ None
    by None e = e
    by (Some object) e = absurd (omega (arith, low, object_high pools address size object e))
