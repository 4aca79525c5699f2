-- Which cells and objects of a pool begin at an address, told by what was found there.
use Rattle.std.proofs.Common.{◌≡◌, ℕ, zero, suc, ◌+◌, ◌-◌, ◌*◌, ◌^◌, ◌/◌, ◌%◌, ◌≤◌, Bool, true, false, List, [], ◌∷◌, Option, Some, None, map, set, refl, sym, ap, subst, ◌∙◌, inl, inr, ◌⊎◌, arith}
use Rattle.std.specs.Prelude.{if◌then◌else◌, ◌==◌, is_some, IfSome, slice_get, slice_index, slice_index_or, option_map}
use Rattle.std.specs.List.{AllByRecursion}
use Rattle.std.specs.BTreeMap.{get}
use Rattle.std.specs.Ordering.{nat_cmp}
use Rattle.std.proofs.lemmas.Bool.{eqb-true, ne_eqb}
use Rattle.std.proofs.lemmas.Cmp.{nat_cmp_total}
use Rattle.std.proofs.lemmas.Map.Entries.{btree_map_get_place}
use Rattle.std.proofs.lemmas.Option.{same_Some, slice_get-map, slice_get-get_or, some_pair_parts}
use Rattle.std.proofs.Math.Nat.{mul_comm}
use Rattle.slab_space.specs.Runs.{need}
use Rattle.slab_space.specs.Pool.{cells_per_run, cell_address, slab_address, made_in, number_at, is_live, with_freed, large_at}
use Rattle.slab_space.specs.Pool as seen
use Rattle.slab_space.specs.PoolSteps.{freed_among, freed_as, freed_large, freed_in}
use Rattle.pool_runtime.specs.declared.cells.Cells.{Cells}
use Rattle.pool_runtime.specs.declared.pool.Pool.{Pool}
use Rattle.pool_runtime.specs.declared.slabs.Found.{Found}
use Rattle.pool_runtime.specs.declared.slabs.Home.{Home}
use Rattle.pool_runtime.specs.declared.slabs.Held.TheVariants as held
use Rattle.pool_runtime.specs.declared.slabs.Slabs.{Slabs}
use Rattle.pool_runtime.specs.Bytes.{range}
use Rattle.pool_runtime.specs.Seen.{place, class_seen, large_seen, pool_seen}
use Rattle.pool_runtime.specs.Tables.{IsLarge, IsPool, of_class, of_large}
use Rattle.pool_runtime.specs.Lookup.{cell_of}
use Rattle.pool_runtime.specs.Changes.{FindsCell}
use Rattle.pool_runtime.proofs.CellsSeen.{length-cells_seen, get_or-cells_seen}
use Rattle.pool_runtime.proofs.Fresh.{all_at}
use Rattle.pool_runtime.proofs.Freed.{freed_there, freed_nowhere}
use Rattle.pool_runtime.proofs.Lookups.{cell_there, there_is, some_number, made_number, place_is, cell_is_there}
use Rattle.pool_runtime.proofs.Numbers.{Among, number_from}
use Rattle.pool_runtime.proofs.Objects.{address_is}
use Rattle.pool_runtime.proofs.Places.{run_inside, place_high}
use Rattle.pool_runtime.proofs.Stores.{all_by_place}

-- the number at an address is 0, or that of a made cell there
more_made : (c : seen.Cells) (address made : ℕ) (b : Bool) → (cell_address c (suc made) == address) ≡ b → Among c address (number_at c made address) made → Among c address (if b then suc made else number_at c made address) (suc made)
more_made c address made true test among = inr (omega arith, omega arith, eqb-true (cell_address c (suc made)) address test)
more_made c address made false test (inl none) = inl none
more_made c address made false test (inr there) = inr (there.0, omega (arith, there.1), there.2)

number_among : (c : seen.Cells) (address made : ℕ) → Among c address (number_at c made address) made
number_among c address zero = inl refl
number_among c address (suc made) = more_made c address made (cell_address c (suc made) == address) refl (number_among c address made)

some_if : (b : Bool) (bytes : List ℕ) → is_some (if b then Some bytes else None) ≡ b
some_if true bytes = refl
some_if false bytes = refl

live_seen : (bytes : List ℕ) (r : Cells) (number : ℕ) → 1 ≤ number → number ≤ r.made → is_live (class_seen bytes r) number ≡ slice_index_or r.live.items (number - 1) false
live_seen bytes r number some made =
    let next : number - 1 + 1 ≡ number = omega (arith, some) in
    ap is_some (get_or-cells_seen bytes r r.made (number - 1) None (omega (arith, some, made)) ∙ ap (λ n. if slice_index_or r.live.items (n - 1) false then Some (range bytes (place r n) r.size) else None) next)
    ∙ some_if (slice_index_or r.live.items (number - 1) false) (range bytes (place r number) r.size)

same_cells : {k j class run : ℕ} → held.Cells k j ≡ held.Cells class run → (k ≡ class) × (j ≡ run)
same_cells e = (cc, cc)

not_large : {k j : ℕ} → held.Cells k j ≡ held.Large → ⊥
not_large e = cc

no_large : (address : ℕ) (bytes : List ℕ) (es : List (ℕ × ℕ)) → AllByRecursion (λ e. ¬ (slab_address e.0 ≡ address)) es → large_at address (map (large_seen bytes) es) ≡ None
no_large address bytes [] none = refl
no_large address bytes (e ∷ es) none =
    ap (λ (b : Bool). if b then Some (large_seen bytes e) else large_at address (map (large_seen bytes) es)) (ne_eqb (slab_address e.0) address none.0) ∙ no_large address bytes es none.1

module _ (slabs : Slabs) (pool : Pool) (id : ℕ) (is : IsPool slabs id pool) (address : ℕ) (result : Option Found) (finds : FindsCell slabs address result) where
  abbrev number_in : Cells → ℕ
  number_in r = number_at (class_seen slabs.space.bytes r) (made_in (class_seen slabs.space.bytes r)) address

  -- a cell of class `k` that begins at the address is found
  record CellFound (k : ℕ) (r : Cells) (m : ℕ) : Type 0 where
    found : Found
    found_is : result ≡ Some found
    home : found.home ≡ of_class id k ((m - 1) / cells_per_run r.size)
    cell : cell_of pool.classes.items found k ((m - 1) / cells_per_run r.size) ≡ Some (m, 0)

  record Begins (k : ℕ) (r : Cells) : Type 0 where
    some : 1 ≤ number_in r
    made : number_in r ≤ r.made
    there : CellFound k r (number_in r)

  module _ (k : ℕ) (r : Cells) (at : slice_get pool.classes.items k ≡ Some r) where
    begins : (m : ℕ) → 1 ≤ m → m ≤ r.made → cell_address (class_seen slabs.space.bytes r) m ≡ address → CellFound k r m
    begins m some made e =
        let t = is.classes k r at in
        let per = cells_per_run r.size in let j = (m - 1) / per in let first = slice_index r.runs.items j in
        let size : 1 ≤ r.size = omega (arith, t.cells.least) in
        let in_runs = run_inside r m some (omega (arith, made, t.cells.made, t.cells.room)) in
        let start = address_is slabs.space.bytes r m in
        let home = of_class id k j in
        let here : Found = record { first = first; within = address - (2 ^ 44 + 4096 * first); home = home } in
        let swap = mul_comm ((m - 1) % per) r.size in
        let cell = cell_is_there pool.classes.items k m 0 first r here at some made size (omega arith) (slice_get-get_or r.runs.items j 0 in_runs) (omega (arith, start, e, swap)) in
        record {
          found = here;
          found_is = finds.there first (need r.size) home (t.runs j in_runs) (omega (arith, start, e)) (omega (arith, start, e, place_high r m size, size));
          home = refl;
          cell = there_is pool.classes.items here k j m 0 cell;
        }

    counted : made_in (class_seen slabs.space.bytes r) ≡ r.made
    counted = length-cells_seen slabs.space.bytes r r.made

    either : (number_in r ≡ 0) ⊎ Begins k r
    either = elim (number_among (class_seen slabs.space.bytes r) address (made_in (class_seen slabs.space.bytes r))) [
      | inl none ↦ inl none
      | inr there ↦ (
          let made : number_in r ≤ r.made = omega (arith, there.1, counted) in
          inr (record { some = there.0; made = made; there = begins (number_in r) there.0 made there.2 }))
    ]

  seen_from : (o : Option Cells) (x : seen.Cells) → option_map (class_seen slabs.space.bytes) o ≡ Some x → (r : Cells) × (o ≡ Some r) × (class_seen slabs.space.bytes r ≡ x)
  seen_from None x e = absurd cc
  seen_from (Some r) x e = (r, refl, same_Some (class_seen slabs.space.bytes r) x e)

  class_from : (i : ℕ) (x : seen.Cells) → slice_get (map (class_seen slabs.space.bytes) pool.classes.items) i ≡ Some x → (r : Cells) × (slice_get pool.classes.items i ≡ Some r) × (class_seen slabs.space.bytes r ≡ x)
  class_from i x at = seen_from (slice_get pool.classes.items i) x (sym (slice_get-map (class_seen slabs.space.bytes) pool.classes.items i) ∙ at)

  -- a large object that begins at the address is found
  record LargeFound (e : ℕ × ℕ) : Type 0 where
    found : Found
    found_is : result ≡ Some found
    first : found.first ≡ e.0
    within : found.within ≡ 0
    home : found.home ≡ of_large id

  large_begins : (i : ℕ) (e : ℕ × ℕ) → slice_get pool.large.entries i ≡ Some e → slab_address e.0 ≡ address → LargeFound e
  large_begins i e at here =
      let t = all_at (IsLarge slabs id) pool.large.entries i e is.large at in
      record {
        found = record { first = e.0; within = address - (2 ^ 44 + 4096 * e.0); home = of_large id };
        found_is = finds.there e.0 (need e.1) (of_large id) t.run (omega (arith, here)) (omega (arith, here, t.run.run.some));
        first = refl;
        within = omega (arith, here);
        home = refl;
      }

  freed_none : (owners : List (Option ℕ)) → ((i : ℕ) (r : Cells) → slice_get pool.classes.items i ≡ Some r → Begins i r → slice_index_or r.live.items (number_in r - 1) false ≡ false)
      → ((i : ℕ) (e : ℕ × ℕ) → slice_get pool.large.entries i ≡ Some e → ¬ LargeFound e) → freed_in owners (pool_seen slabs.space.bytes pool) address ≡ None
  freed_none owners dead large =
      let p = pool_seen slabs.space.bytes pool in
      ap (freed_as owners p address) (freed_nowhere p.classes address (λ i x at.
      let c = class_from i x at in let r = c.0 in
      subst (λ (y : seen.Cells). (number_at y (made_in y) address ≡ 0) ⊎ (is_live y (number_at y (made_in y) address) ≡ false)) c.2 (elim (either i r c.1) [
        | inl none ↦ inl none
        | inr b ↦ inr (live_seen slabs.space.bytes r (number_in r) b.some b.made ∙ dead i r c.1 b)
      ])))
      ∙ ap (freed_large owners p address) (no_large address slabs.space.bytes pool.large.entries (all_by_place (λ e. ¬ (slab_address e.0 ≡ address)) pool.large.entries (λ i e at here. large i e at (large_begins i e at here))))

  -- nothing of the pool was found
  pub apart_freed : (owners : List (Option ℕ)) → ((found : Found) → result ≡ Some found → ¬ (found.home.pool ≡ id)) → freed_in owners (pool_seen slabs.space.bytes pool) address ≡ None
  apart_freed owners other =
      freed_none owners (λ i r at b. absurd (other b.there.found b.there.found_is (ap (λ (h : Home). h.pool) b.there.home)))
      (λ i e at l. other l.found l.found_is (ap (λ (h : Home). h.pool) l.home))

  module _ (found : Found) (found_is : result ≡ Some found) where
    -- ---- in a run of cells

    module _ (class run : ℕ) (home : found.home.held ≡ held.Cells class run) where
      at_cell : (k : ℕ) (r : Cells) (m : ℕ) → CellFound k r m → (k ≡ class) × (cell_of pool.classes.items found class run ≡ Some (m, 0))
      at_cell k r m b =
          let one : b.found ≡ found = same_Some b.found found (sym b.found_is ∙ found_is) in
          let j = (m - 1) / cells_per_run r.size in
          let same = same_cells (sym (ap (λ (h : Home). h.held) b.home) ∙ ap (λ (f : Found). f.home.held) one ∙ home) in
          (same.0, ap (λ c. cell_of pool.classes.items found c run) (sym same.0) ∙ ap (cell_of pool.classes.items found k) (sym same.1) ∙ ap (λ (f : Found). cell_of pool.classes.items f k j) (sym one) ∙ b.cell)

      no_object : (e : ℕ × ℕ) → ¬ LargeFound e
      no_object e l =
          let one : l.found ≡ found = same_Some l.found found (sym l.found_is ∙ found_is) in
          not_large (sym home ∙ sym (ap (λ (f : Found). f.home.held) one) ∙ ap (λ (h : Home). h.held) l.home)

      -- no live cell begins at the address
      pub no_cell_freed : (owners : List (Option ℕ)) → ((r : Cells) (n : ℕ) → slice_get pool.classes.items class ≡ Some r → cell_of pool.classes.items found class run ≡ Some (n, 0) → slice_index_or r.live.items (n - 1) false ≡ false)
          → freed_in owners (pool_seen slabs.space.bytes pool) address ≡ None
      no_cell_freed owners dead =
          freed_none owners (λ i r at b. let there = at_cell i r (number_in r) b.there in dead r (number_in r) (ap (slice_get pool.classes.items) (sym there.0) ∙ at) there.1)
          (λ i e at. no_object e)

      module _ (r : Cells) (number : ℕ) (at : slice_get pool.classes.items class ≡ Some r) (cell : cell_of pool.classes.items found class run ≡ Some (number, 0)) where
        cell_some : (1 ≤ number) × (number ≤ r.made)
        cell_some =
            let th = cell_there pool.classes.items found class run number 0 cell in
            let same : th.cells ≡ r = same_Some th.cells r (sym th.at ∙ at) in
            (some_number pool.classes.items found class run number 0 th, subst (λ (x : Cells). number ≤ x.made) same (made_number pool.classes.items found class run number 0 th))

        numbered : number_in r ≡ number
        numbered =
            let th = cell_there pool.classes.items found class run number 0 cell in
            let same : th.cells ≡ r = same_Some th.cells r (sym th.at ∙ at) in
            let size : 1 ≤ th.cells.size = subst (λ (x : Cells). 1 ≤ x.size) (sym same) (let least = (is.classes class r at).cells.least in omega arith) in
            let lies = place_is pool.classes.items found class run number 0 th size in
            let here = ap (λ (x : Cells). place x number) same in
            let start = address_is slabs.space.bytes r number in
            let long = counted class r at in
            let where_is : 2 ^ 44 + 4096 * found.first + found.within ≡ address = subst (λ (o : Option Found). IfSome o (λ f. 2 ^ 44 + 4096 * f.first + f.within ≡ address)) found_is finds.at in
            number_from (class_seen slabs.space.bytes r) address number (made_in (class_seen slabs.space.bytes r)) (λ m one inside e.
            let b = at_cell class r m (begins class r at m one (omega (arith, inside, long)) e) in
            (some_pair_parts number m 0 0 (sym cell ∙ b.1)).0) (inr (cell_some.0, omega (arith, cell_some.1, long), omega (arith, start, here, lies, where_is)))

        pub cell_freed : (owners : List (Option ℕ)) → slice_index_or r.live.items (number - 1) false ≡ true
            → freed_in owners (pool_seen slabs.space.bytes pool) address
            ≡ Some (record { owners = owners; pool = record (pool_seen slabs.space.bytes pool) { classes = set (pool_seen slabs.space.bytes pool).classes class (with_freed (class_seen slabs.space.bytes r) number) } })
        cell_freed owners live =
            let p = pool_seen slabs.space.bytes pool in
            ap (freed_as owners p address) (freed_there p.classes address class number (class_seen slabs.space.bytes r) (slice_get-map (class_seen slabs.space.bytes) pool.classes.items class ∙ ap (option_map (class_seen slabs.space.bytes)) at) (λ i x low at_i.
            let c = class_from i x at_i in
            subst (λ (y : seen.Cells). number_at y (made_in y) address ≡ 0) c.2 (elim (either i c.0 c.1) [
              | inl none ↦ none
              | inr b ↦ absurd (omega (arith, (at_cell i c.0 (number_in c.0) b.there).0, low))
            ])) numbered cell_some.0 (live_seen slabs.space.bytes r number cell_some.0 cell_some.1 ∙ live))

    -- ---- in a large object

    module _ (home : found.home.held ≡ held.Large) where
      not_cell : (k : ℕ) (r : Cells) (m : ℕ) → ¬ CellFound k r m
      not_cell k r m b =
          let one : b.found ≡ found = same_Some b.found found (sym b.found_is ∙ found_is) in
          not_large (sym (ap (λ (h : Home). h.held) b.home) ∙ ap (λ (f : Found). f.home.held) one ∙ home)

      pub no_cell : freed_among (pool_seen slabs.space.bytes pool).classes address ≡ None
      no_cell =
          freed_nowhere (pool_seen slabs.space.bytes pool).classes address (λ i x at.
          let c = class_from i x at in
          subst (λ (y : seen.Cells). (number_at y (made_in y) address ≡ 0) ⊎ (is_live y (number_at y (made_in y) address) ≡ false)) c.2 (elim (either i c.0 c.1) [
            | inl none ↦ inl none
            | inr b ↦ absurd (not_cell i c.0 (number_in c.0) b.there)
          ]))

      -- the address lies behind the object's begin
      pub middle_freed : (owners : List (Option ℕ)) → 1 ≤ found.within → freed_in owners (pool_seen slabs.space.bytes pool) address ≡ None
      middle_freed owners behind =
          freed_none owners (λ i r at b. absurd (not_cell i r (number_in r) b.there)) (λ i e at l.
          let one = ap (λ (f : Found). f.within) (same_Some l.found found (sym l.found_is ∙ found_is)) in
          omega (arith, one, l.within, behind))

      -- the object is gone
      pub gone_freed : (owners : List (Option ℕ)) → get nat_cmp pool.large found.first ≡ None → freed_in owners (pool_seen slabs.space.bytes pool) address ≡ None
      gone_freed owners gone =
          freed_none owners (λ i r at b. absurd (not_cell i r (number_in r) b.there)) (λ i e at l.
          let there = btree_map_get_place nat_cmp_total pool.large i e.0 e.1 is.ordered at in
          let one = ap (λ (f : Found). f.first) (same_Some l.found found (sym l.found_is ∙ found_is)) in
          let both = sym gone ∙ ap (get nat_cmp pool.large) (sym one ∙ l.first) ∙ there in
          cc)
