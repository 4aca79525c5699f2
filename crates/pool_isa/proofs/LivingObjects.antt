-- The objects in which the machine looks for a range are the live cells and objects of living pools.
use Rattle.std.proofs.Common.{◌≡◌, ◌⊎◌, ℕ, suc, ◌+◌, ◌-◌, inl, inr, Bool, true, false, cond, List, [], ◌∷◌, ◌++◌, Option, Some, None, map, slice_get, get_or, find, refl, ap, ◌∙◌, subst, arith}
use Rattle.std.specs.List.{AllByRecursion, flat_map}
use Rattle.std.proofs.lemmas.Bool.{ne_eqb}
use Rattle.std.proofs.lemmas.Option.{get_or_from_slice_get}
use Rattle.slab_space.specs.Pool.{Cells, Large, Pool, Object, live_from, live_cells, large_object, objects_in}
use Rattle.slab_space.specs.PoolSteps.{covers}
use Rattle.slab_space.specs.Pools.{Pools, pool_at, objects_of, objects}
use Rattle.pool_isa.specs.Accesses.{IsCell, IsLarge}

-- an object of a living pool
pub record Lives (pools : Pools) (object : Object) : Type 0 where
  pub number : ℕ
  pub pool : Pool
  pub living : pool_at pools number ≡ Some pool
  pub live : IsCell pool object ⊎ IsLarge pool object

both : (P : Object → Type 0) (xs ys : List Object) → AllByRecursion P xs → AllByRecursion P ys → AllByRecursion P (xs ++ ys)
both P [] ys all all' = all'
both P (x ∷ xs) ys all all' = (all.0, both P xs ys all.1 all')

module _ (pools : Pools) (id : ℕ) (pool : Pool) (living : pool_at pools id ≡ Some pool) where
  cells_live : (kind : ℕ) (c : Cells) → slice_get pool.classes kind ≡ Some c → (k : ℕ) (rest : List (Option (List ℕ)))
      → ((i : ℕ) (cell : Option (List ℕ)) → slice_get rest i ≡ Some cell → slice_get c.cells (k + i) ≡ Some cell) → AllByRecursion (Lives pools) (live_from c (suc k) rest)
  cells_live kind c of_kind k [] stands = tt
  cells_live kind c of_kind k (None ∷ rest) stands =
      cells_live kind c of_kind (suc k) rest (λ i cell e. let same : suc k + i ≡ k + suc i = omega arith in ap (λ n. slice_get c.cells n) same ∙ stands (suc i) cell e)
  cells_live kind c of_kind k (Some bytes ∷ rest) stands = (
    record {
      number = id;
      pool = pool;
      living = living;
      live = inl (record { kind = kind; cells = c; before = k; of_kind = of_kind; live = (let same : k ≡ k + 0 = omega arith in ap (λ n. slice_get c.cells n) same ∙ stands 0 (Some bytes) refl); start = refl });
    },
    cells_live kind c of_kind (suc k) rest (λ i cell e. let same : suc k + i ≡ k + suc i = omega arith in ap (λ n. slice_get c.cells n) same ∙ stands (suc i) cell e),
  )

  classes_live : (rest : List Cells) → ((i : ℕ) (c : Cells) → slice_get rest i ≡ Some c → (kind : ℕ) × (slice_get pool.classes kind ≡ Some c)) → AllByRecursion (Lives pools) (flat_map live_cells rest)
  classes_live [] among = tt
  classes_live (c ∷ rest) among =
      let here = among 0 c refl in
      both (Lives pools) (live_cells c) (flat_map live_cells rest)
      (cells_live here.0 c here.1 0 c.cells (λ i cell e. let same : 0 + i ≡ i = omega arith in ap (λ n. slice_get c.cells n) same ∙ e))
      (classes_live rest (λ i other e. among (suc i) other e))

  large_live : (rest : List Large) → ((i : ℕ) (l : Large) → slice_get rest i ≡ Some l → (number : ℕ) × (slice_get pool.large number ≡ Some l)) → AllByRecursion (Lives pools) (map large_object rest)
  large_live [] among = tt
  large_live (l ∷ rest) among =
      let here = among 0 l refl in (
        record { number = id; pool = pool; living = living; live = inr (record { number = here.0; large = l; held = here.1; bytes = refl; start = refl }) },
        large_live rest (λ i other e. among (suc i) other e),
      )

  pool_lives : AllByRecursion (Lives pools) (objects_in pool)
  pool_lives = both (Lives pools) (flat_map live_cells pool.classes) (map large_object pool.large) (classes_live pool.classes (λ i c e. (i, e))) (large_live pool.large (λ i l e. (i, e)))

pools_live : (pools : Pools) (rest : List (Option Pool)) → ((i : ℕ) (pool : Pool) → slice_get rest i ≡ Some (Some pool) → (number : ℕ) × (pool_at pools number ≡ Some pool)) → AllByRecursion (Lives pools) (flat_map objects_of rest)
pools_live pools [] among = tt
pools_live pools (None ∷ rest) among = pools_live pools rest (λ i pool e. among (suc i) pool e)
pools_live pools (Some pool ∷ rest) among =
    let here = among 0 pool refl in
    both (Lives pools) (objects_in pool) (flat_map objects_of rest) (pool_lives pools here.0 pool here.1) (pools_live pools rest (λ i other e. among (suc i) other e))

numbered : (pools : Pools) (i : ℕ) (pool : Pool) → slice_get pools.pools i ≡ Some (Some pool) → pool_at pools (suc i) ≡ Some pool
numbered pools i pool e =
    let same : suc i - 1 ≡ i = omega arith in
    ap (λ (b : Bool). cond b None (get_or pools.pools (suc i - 1) None)) (ne_eqb (suc i) 0 (λ z. omega (arith, z)))
    ∙ ap (λ n. get_or pools.pools n None) same ∙ get_or_from_slice_get pools.pools i (Some pool) None e

-- each object is one of a living pool
pub objects_live : (pools : Pools) → AllByRecursion (Lives pools) (objects pools)
objects_live pools = pools_live pools pools.pools (λ i pool e. (suc i, numbered pools i pool e))

-- what is found is in the list, and covers the range
pub found_in : (P : Object → Type 0) (address size : ℕ) (list : List Object) → AllByRecursion P list → (object : Object) → find (covers address size) list ≡ Some object → P object × (covers address size object ≡ true)
found_in P address size [] all object e = absurd (cc)
found_in P address size (first ∷ others) all object e = by (covers address size first) refl e (found_in P address size others all.1 object)
  where
    by : (b : Bool) → covers address size first ≡ b → cond b (Some first) (find (covers address size) others) ≡ Some object
        → (find (covers address size) others ≡ Some object → P object × (covers address size object ≡ true)) → P object × (covers address size object ≡ true)
    by true is e further =
        let same : first ≡ object = cc in
        (subst P same all.0, subst (λ x. covers address size x ≡ true) same is)
    by false is e further = further e
