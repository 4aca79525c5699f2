-- The live cells and objects of all pools.
use Rattle.std.proofs.Common.{◌≡◌, ℕ, zero, suc, ◌+◌, ◌-◌, ◌^◌, ◌<◌, ◌≤◌, Bool, true, false, List, [], ◌∷◌, ◌++◌, Option, Some, None, map, refl, sym, ap, subst, ◌∙◌, inl, inr, ◌⊎◌, arith}
use Rattle.std.specs.Prelude.{◌||◌, if◌then◌else◌, is_some, slice_get, slice_index_or, option_map, find}
use Rattle.std.specs.BTreeMap.{get}
use Rattle.std.specs.Ordering.{nat_cmp}
use Rattle.std.specs.List.{AllByRecursion, flat_map, list_any}
use Rattle.std.proofs.lemmas.List.Folds.{list_any-append}
use Rattle.std.proofs.lemmas.Option.{slice_get-map, slice_get_within, slice_get-get_or, get_or_from_slice_get, same_Some}
use Rattle.slab_space.specs.Pool.{Object, Large, cell_address, live_from, live_cells, large_object, objects_in}
use Rattle.slab_space.specs.Pool as seen
use Rattle.slab_space.specs.Pools.{objects_of, objects}
use Rattle.pool_runtime.specs.declared.cells.Cells.{Cells}
use Rattle.pool_runtime.specs.declared.pool.Pool.{Pool}
use Rattle.pool_runtime.specs.declared.pools.Pools.TheInside.{Inside}
use Rattle.pool_runtime.specs.Bytes.{range}
use Rattle.pool_runtime.specs.Seen.{place, cell_seen, cells_seen, class_seen, large_seen, pool_seen, pools_seen, pools_of}
use Rattle.pool_runtime.specs.Tables.{IsPools}
use Rattle.pool_runtime.proofs.CellsSeen.{length-cells_seen, get_or-cells_seen}
use Rattle.pool_runtime.proofs.PoolsSeen.{one_seen, length-pools_seen, get_or-pools_seen}

-- ---- lists of lists

all_append : {X : Type 0} (P : X → Type 0) (xs ys : List X) → AllByRecursion P xs → AllByRecursion P ys → AllByRecursion P (xs ++ ys)
all_append P [] ys all more = more
all_append P (x ∷ xs) ys all more = (all.0, all_append P xs ys all.1 more)

all_flat : {X Y : Type 0} (P : Y → Type 0) (f : X → List Y) (xs : List X) → ((k : ℕ) (x : X) → slice_get xs k ≡ Some x → AllByRecursion P (f x)) → AllByRecursion P (flat_map f xs)
all_flat P f [] each = tt
all_flat P f (x ∷ xs) each = all_append P (f x) (flat_map f xs) (each 0 x refl) (all_flat P f xs (λ k y at. each (suc k) y at))

all_map : {X Y : Type 0} (P : Y → Type 0) (f : X → Y) (xs : List X) → ((k : ℕ) (x : X) → slice_get xs k ≡ Some x → P (f x)) → AllByRecursion P (map f xs)
all_map P f [] each = tt
all_map P f (x ∷ xs) each = (each 0 x refl, all_map P f xs (λ k y at. each (suc k) y at))

or_left : (a b : Bool) → a ≡ true → (a || b) ≡ true
or_left true b e = refl
or_left false b e = absurd cc

or_right : (a b : Bool) → b ≡ true → (a || b) ≡ true
or_right true b e = refl
or_right false b e = e

any_left : {X : Type 0} (t : X → Bool) (xs ys : List X) → list_any t xs ≡ true → list_any t (xs ++ ys) ≡ true
any_left t xs ys e = list_any-append t xs ys ∙ or_left (list_any t xs) (list_any t ys) e

any_right : {X : Type 0} (t : X → Bool) (xs ys : List X) → list_any t ys ≡ true → list_any t (xs ++ ys) ≡ true
any_right t xs ys e = list_any-append t xs ys ∙ or_right (list_any t xs) (list_any t ys) e

any_flat : {X Y : Type 0} (t : Y → Bool) (f : X → List Y) (xs : List X) (k : ℕ) (x : X) → slice_get xs k ≡ Some x → list_any t (f x) ≡ true → list_any t (flat_map f xs) ≡ true
any_flat t f [] k x at e = absurd cc
any_flat {X} t f (y ∷ xs) zero x at e = any_left t (f y) (flat_map f xs) (subst (λ (z : X). list_any t (f z) ≡ true) (sym (same_Some y x at)) e)
any_flat t f (y ∷ xs) (suc k) x at e = any_right t (f y) (flat_map f xs) (any_flat t f xs k x at e)

any_map : {X Y : Type 0} (t : Y → Bool) (f : X → Y) (xs : List X) (k : ℕ) (x : X) → slice_get xs k ≡ Some x → t (f x) ≡ true → list_any t (map f xs) ≡ true
any_map t f [] k x at e = absurd cc
any_map {X} t f (y ∷ xs) zero x at e = or_left (t (f y)) (list_any t (map f xs)) (subst (λ (z : X). t (f z) ≡ true) (sym (same_Some y x at)) e)
any_map t f (y ∷ xs) (suc k) x at e = or_right (t (f y)) (list_any t (map f xs)) (any_map t f xs k x at e)

-- ---- the first that passes

if_found : {X : Type 0} (b : Bool) (x y : X) (o : Option X) → (if b then Some x else o) ≡ Some y → ((b ≡ true) × (x ≡ y)) ⊎ ((b ≡ false) × (o ≡ Some y))
if_found true x y o e = inl (refl, same_Some x y e)
if_found false x y o e = inr (refl, e)

pub find_all : {X : Type 0} (P : X → Type 0) (t : X → Bool) (xs : List X) (x : X) → AllByRecursion P xs → find t xs ≡ Some x → P x × (t x ≡ true)
find_all P t [] x all e = absurd cc
find_all {X} P t (y ∷ xs) x all e = elim (if_found (t y) y x (find t xs) e) [
  | inl here ↦ (subst P here.1 all.0, subst (λ (z : X). t z ≡ true) here.1 here.0)
  | inr later ↦ find_all P t xs x all.1 later.1
]

some_if : {X : Type 0} (b : Bool) (x : X) (o : Option X) → (b || is_some o) ≡ true → is_some (if b then Some x else o) ≡ true
some_if true x o e = refl
some_if false x o e = e

or_cases : (a b : Bool) → (a || b) ≡ true → (a ≡ true) ⊎ (b ≡ true)
or_cases true b e = inl refl
or_cases false b e = inr e

pub find_some : {X : Type 0} (t : X → Bool) (xs : List X) → list_any t xs ≡ true → is_some (find t xs) ≡ true
find_some t [] e = absurd cc
find_some t (x ∷ xs) e = some_if (t x) x (find t xs) (elim (or_cases (t x) (list_any t xs) e) [
  | inl here ↦ or_left (t x) (is_some (find t xs)) here
  | inr later ↦ or_right (t x) (is_some (find t xs)) (find_some t xs later)
])

pub find_none : {X : Type 0} (t : X → Bool) (xs : List X) → AllByRecursion (λ x. t x ≡ false) xs → find t xs ≡ None
find_none t [] all = refl
find_none t (x ∷ xs) all = ap (λ (b : Bool). if b then Some x else find t xs) all.0 ∙ find_none t xs all.1

-- ---- the live ones among cells

abbrev pub object_of : seen.Cells → ℕ → List ℕ → Object
object_of c number bytes = record { start = cell_address c number; bytes = bytes }

all_live : (P : Object → Type 0) (c : seen.Cells) (number : ℕ) (cells : List (Option (List ℕ))) → ((i : ℕ) (bytes : List ℕ) → slice_get cells i ≡ Some (Some bytes) → P (object_of c (number + i) bytes)) → AllByRecursion P (live_from c number cells)
all_live P c number [] each = tt
all_live P c number (None ∷ cells) each = all_live P c (suc number) cells (λ i bytes at. let e : number + suc i ≡ suc number + i = omega arith in subst (λ n. P (object_of c n bytes)) e (each (suc i) bytes at))
all_live P c number (Some b ∷ cells) each =
    let e : number + 0 ≡ number = omega arith in
    (subst (λ n. P (object_of c n b)) e (each 0 b refl), all_live P c (suc number) cells (λ i bytes at. let e' : number + suc i ≡ suc number + i = omega arith in subst (λ n. P (object_of c n bytes)) e' (each (suc i) bytes at)))

any_live : (t : Object → Bool) (c : seen.Cells) (number : ℕ) (cells : List (Option (List ℕ))) (i : ℕ) (bytes : List ℕ) → slice_get cells i ≡ Some (Some bytes) → t (object_of c (number + i) bytes) ≡ true → list_any t (live_from c number cells) ≡ true
any_live t c number [] i bytes at e = absurd cc
any_live t c number (None ∷ cells) zero bytes at e = absurd cc
any_live t c number (Some b ∷ cells) zero bytes at e =
    let e' : number + 0 ≡ number = omega arith in
    or_left (t (object_of c number b)) (list_any t (live_from c (suc number) cells))
    (ap (λ (bs : List ℕ). t (object_of c number bs)) (let same : b ≡ bytes = cc in same) ∙ ap (λ n. t (object_of c n bytes)) (sym e') ∙ e)
any_live t c number (None ∷ cells) (suc i) bytes at e =
    let e' : suc number + i ≡ number + suc i = omega arith in
    any_live t c (suc number) cells i bytes at (ap (λ n. t (object_of c n bytes)) e' ∙ e)
any_live t c number (Some b ∷ cells) (suc i) bytes at e =
    let e' : suc number + i ≡ number + suc i = omega arith in
    or_right (t (object_of c number b)) (list_any t (live_from c (suc number) cells)) (any_live t c (suc number) cells i bytes at (ap (λ n. t (object_of c n bytes)) e' ∙ e))

live_seen : (b : Bool) (r bytes : List ℕ) → (if b then Some r else None) ≡ Some bytes → (b ≡ true) × (r ≡ bytes)
live_seen true r bytes e = (refl, same_Some r bytes e)
live_seen false r bytes e = absurd cc

module _ (bytes : List ℕ) where
  abbrev pub cell_object : Cells → ℕ → Object
  cell_object c number = object_of (class_seen bytes c) number (range bytes (place c number) c.size)

  pub address_is : (c : Cells) (number : ℕ) → cell_address (class_seen bytes c) number ≡ 2 ^ 44 + place c number
  address_is c number = omega arith

  all_class : (P : Object → Type 0) (c : Cells) → ((number : ℕ) → 1 ≤ number → number ≤ c.made → slice_index_or c.live.items (number - 1) false ≡ true → P (cell_object c number)) → AllByRecursion P (live_cells (class_seen bytes c))
  all_class P c each = all_live P (class_seen bytes c) 1 (cells_seen bytes c c.made) (λ i b at.
      let inside : i < c.made = omega (arith, slice_get_within (cells_seen bytes c c.made) i (Some b) at, length-cells_seen bytes c c.made) in
      let cell = sym (get_or-cells_seen bytes c c.made i None inside) ∙ get_or_from_slice_get (cells_seen bytes c c.made) i (Some b) None at in
      let next : 1 + i ≡ i + 1 = omega arith in
      let live = live_seen (slice_index_or c.live.items (i + 1 - 1) false) (range bytes (place c (i + 1)) c.size) b cell in
      subst (λ n. P (object_of (class_seen bytes c) n b)) (sym next) (subst (λ (bs : List ℕ). P (object_of (class_seen bytes c) (i + 1) bs)) live.1 (each (i + 1) (omega arith) (omega arith) live.0)))

  any_class : (t : Object → Bool) (c : Cells) (number : ℕ) → 1 ≤ number → number ≤ c.made → slice_index_or c.live.items (number - 1) false ≡ true → t (cell_object c number) ≡ true → list_any t (live_cells (class_seen bytes c)) ≡ true
  any_class t c number some made live e =
      let cells = cells_seen bytes c c.made in
      let there : number - 1 + 1 ≡ number = omega arith in let there' : 1 + (number - 1) ≡ number = omega arith in
      let long = length-cells_seen bytes c c.made in
      let cell = get_or-cells_seen bytes c c.made (number - 1) None (omega arith) ∙ ap (cell_seen bytes c) there ∙ ap (λ (b : Bool). if b then Some (range bytes (place c number) c.size) else None) live in
      any_live t (class_seen bytes c) 1 cells (number - 1) (range bytes (place c number) c.size)
      (slice_get-get_or cells (number - 1) None (omega (arith, long)) ∙ ap Some cell)
      (ap (λ n. t (object_of (class_seen bytes c) n (range bytes (place c number) c.size))) there' ∙ e)

  mapped : {X Y : Type 0} (f : X → Y) (xs : List X) (k : ℕ) (y : Y) (o : Option X) → slice_get xs k ≡ o → slice_get (map f xs) k ≡ Some y → (x : X) × (slice_get xs k ≡ Some x) × (f x ≡ y)
  mapped f xs k y None e at = let both = sym at ∙ slice_get-map f xs k ∙ ap (option_map f) e in absurd cc
  mapped f xs k y (Some x) e at = (x, e, same_Some (f x) y (sym (slice_get-map f xs k ∙ ap (option_map f) e) ∙ at))

  pub all_pool : (P : Object → Type 0) (pool : Pool) → ((k number : ℕ) (c : Cells) → slice_get pool.classes.items k ≡ Some c → 1 ≤ number → number ≤ c.made → slice_index_or c.live.items (number - 1) false ≡ true → P (cell_object c number))
      → ((i : ℕ) (e : ℕ × ℕ) → slice_get pool.large.entries i ≡ Some e → P (large_object (large_seen bytes e))) → AllByRecursion P (objects_in (pool_seen bytes pool))
  all_pool P pool cells larges =
      all_append P (flat_map live_cells (map (class_seen bytes) pool.classes.items)) (map large_object (map (large_seen bytes) pool.large.entries))
      (all_flat P live_cells (map (class_seen bytes) pool.classes.items) (λ k x at.
      let from = mapped (class_seen bytes) pool.classes.items k x (slice_get pool.classes.items k) refl at in
      subst (λ (y : seen.Cells). AllByRecursion P (live_cells y)) from.2 (all_class P from.0 (λ number some made live. cells k number from.0 from.1 some made live))))
      (all_map P large_object (map (large_seen bytes) pool.large.entries) (λ k x at.
      let from = mapped (large_seen bytes) pool.large.entries k x (slice_get pool.large.entries k) refl at in
      subst (λ (y : Large). P (large_object y)) from.2 (larges k from.0 from.1)))

  pub any_pool_cell : (t : Object → Bool) (pool : Pool) (k number : ℕ) (c : Cells) → slice_get pool.classes.items k ≡ Some c → 1 ≤ number → number ≤ c.made → slice_index_or c.live.items (number - 1) false ≡ true → t (cell_object c number) ≡ true → list_any t (objects_in (pool_seen bytes pool)) ≡ true
  any_pool_cell t pool k number c at some made live e =
      any_left t (flat_map live_cells (map (class_seen bytes) pool.classes.items)) (map large_object (map (large_seen bytes) pool.large.entries))
      (any_flat t live_cells (map (class_seen bytes) pool.classes.items) k (class_seen bytes c) (slice_get-map (class_seen bytes) pool.classes.items k ∙ ap (option_map (class_seen bytes)) at) (any_class t c number some made live e))

  pub any_pool_large : (t : Object → Bool) (pool : Pool) (i : ℕ) (x : ℕ × ℕ) → slice_get pool.large.entries i ≡ Some x → t (large_object (large_seen bytes x)) ≡ true → list_any t (objects_in (pool_seen bytes pool)) ≡ true
  any_pool_large t pool i x at e =
      any_right t (flat_map live_cells (map (class_seen bytes) pool.classes.items)) (map large_object (map (large_seen bytes) pool.large.entries))
      (any_map t large_object (map (large_seen bytes) pool.large.entries) i (large_seen bytes x) (slice_get-map (large_seen bytes) pool.large.entries i ∙ ap (option_map (large_seen bytes)) at) e)

-- ---- all pools

module _ (s : Inside) where
  one_of : (P : Object → Type 0) (id : ℕ) (o : Option Pool) → get nat_cmp s.pools id ≡ o → ((pool : Pool) → get nat_cmp s.pools id ≡ Some pool → AllByRecursion P (objects_in (pool_seen s.slabs.space.bytes pool))) → AllByRecursion P (objects_of (option_map (pool_seen s.slabs.space.bytes) o))
  one_of P id None e each = tt
  one_of P id (Some pool) e each = each pool e

  pub all_objects : (P : Object → Type 0) → ((id : ℕ) (pool : Pool) → get nat_cmp s.pools id ≡ Some pool → AllByRecursion P (objects_in (pool_seen s.slabs.space.bytes pool))) → AllByRecursion P (objects (pools_of s))
  all_objects P each =
      let bytes = s.slabs.space.bytes in let list = pools_seen bytes s.pools s.made in
      all_flat P objects_of list (λ k x at.
      let inside : k < s.made = omega (arith, slice_get_within list k x at, length-pools_seen bytes s.pools s.made) in
      let is = sym (get_or-pools_seen bytes s.pools s.made k x inside) ∙ get_or_from_slice_get list k x x at in
      subst (λ (y : Option seen.Pool). AllByRecursion P (objects_of y)) is (one_of P (k + 1) (get nat_cmp s.pools (k + 1)) refl (each (k + 1))))

  pub any_object : (t : Object → Bool) (id : ℕ) (pool : Pool) → IsPools s → get nat_cmp s.pools id ≡ Some pool → list_any t (objects_in (pool_seen s.slabs.space.bytes pool)) ≡ true → list_any t (objects (pools_of s)) ≡ true
  any_object t id pool is there e =
      let bytes = s.slabs.space.bytes in let list = pools_seen bytes s.pools s.made in
      let number = is.numbers id (ap is_some there) in let next : id - 1 + 1 ≡ id = omega (arith, number.0) in
      let at = slice_get-get_or list (id - 1) None (omega (arith, length-pools_seen bytes s.pools s.made, number.0, number.1))
      ∙ ap Some (get_or-pools_seen bytes s.pools s.made (id - 1) None (omega (arith, number.0, number.1)) ∙ ap (one_seen bytes s.pools) next ∙ ap (option_map (pool_seen bytes)) there) in
      any_flat t objects_of list (id - 1) (Some (pool_seen bytes pool)) at e
