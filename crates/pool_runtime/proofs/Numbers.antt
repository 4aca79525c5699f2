-- The numbers of cells by their addresses.
use Rattle.std.proofs.Common.{◌≡◌, ℕ, zero, suc, ◌+◌, ◌-◌, ◌*◌, ◌/◌, ◌%◌, ◌^◌, ◌≤◌, Bool, true, false, List, Option, Some, None, length, map, refl, sym, ap, subst, ◌∙◌, inl, inr, ◌⊎◌, arith}
use Rattle.std.specs.Prelude.{if◌then◌else◌, ◌==◌, slice_get, slice_index, option_map}
use Rattle.std.specs.BTreeMap.{get}
use Rattle.std.specs.Ordering.{nat_cmp}
use Rattle.std.proofs.lemmas.Bool.{eqb-true, eq-eqb, ne_eqb, cases_eq}
use Rattle.std.proofs.lemmas.Option.{same_Some, slice_get-map, slice_get-get_or, slice_get_within}
use Rattle.std.proofs.Math.Nat.{mul_comm}
use Rattle.slab_space.specs.declared.kind.PoolKind.{PoolKind}
use Rattle.slab_space.specs.declared.kind.PoolKind.TheVariants.{Homogeneous, Mixed}
use Rattle.slab_space.specs.Runs.{need}
use Rattle.slab_space.specs.Pool.{cells_per_run, numbered, number_in, number_at, cell_address, made_in, classes_of}
use Rattle.slab_space.specs.Pool as seen
use Rattle.slab_space.specs.Pools.{cells_of, index_of}
use Rattle.pool_runtime.specs.declared.cells.Cells.{Cells}
use Rattle.pool_runtime.specs.declared.pool.Pool.{Pool}
use Rattle.pool_runtime.specs.declared.pools.Pools.TheInside.{Inside}
use Rattle.pool_runtime.specs.declared.slabs.Found.{Found}
use Rattle.pool_runtime.specs.declared.slabs.Home.{Home}
use Rattle.pool_runtime.specs.declared.slabs.Held.{Held}
use Rattle.pool_runtime.specs.declared.slabs.Held.TheVariants as held
use Rattle.pool_runtime.specs.Seen.{place, class_seen, pools_of}
use Rattle.pool_runtime.specs.Tables.{IsPools, of_class}
use Rattle.pool_runtime.specs.Lookup.{cell_of, number_begun, held_index, index_found, is_homogeneous_kind}
use Rattle.pool_runtime.specs.Changes.{FindsCell}
use Rattle.pool_runtime.proofs.CellsSeen.{length-cells_seen}
use Rattle.pool_runtime.proofs.Places.{run_inside, place_high}
use Rattle.pool_runtime.proofs.PoolsSeen.{pool_there, no_pool_there}
use Rattle.pool_runtime.proofs.Sums.{length-mapped}
use Rattle.pool_runtime.proofs.Classes.{some_class, some_inside}
use Rattle.pool_runtime.proofs.Lookups.{cell_there, there_is, some_number, made_number, place_is, cell_is_there}
use Rattle.pool_runtime.proofs.Objects.{address_is}
use Rattle.pool_runtime.proofs.Addresses.{not_numbered}

-- a number that is that of the only cell at an address
by_tests : (c : seen.Cells) (address result made : ℕ) (b : Bool) → (cell_address c (suc made) == address) ≡ b → (number_at c made address ≡ result) ⊎ (cell_address c (suc made) ≡ address)
    → (cell_address c (suc made) ≡ address → result ≡ suc made) → (if b then suc made else number_at c made address) ≡ result
by_tests c address result made true test either only = sym (only (eqb-true (cell_address c (suc made)) address test))
by_tests c address result made false test (inl e) only = e
by_tests c address result made false test (inr here) only = let both = sym test ∙ eq-eqb (cell_address c (suc made)) address here in absurd cc

-- the number, if it is not beyond `made`
abbrev pub Among : seen.Cells → ℕ → ℕ → ℕ → Type 0
Among c address result made = (result ≡ 0) ⊎ ((1 ≤ result) × (result ≤ made) × (cell_address c result ≡ address))

less : (c : seen.Cells) (address result made : ℕ) → Among c address result (suc made) → Among c address result made ⊎ (cell_address c (suc made) ≡ address)
less c address result made (inl none) = inl (inl none)
less c address result made (inr there) = elim (cases_eq result (suc made)) [
  | inl last ↦ inr (ap (cell_address c) (sym last) ∙ there.2)
  | inr differ ↦ inl (inr (there.0, omega (arith, there.1, differ), there.2))
]

also : (c : seen.Cells) (address result made : ℕ) → (Among c address result made → number_at c made address ≡ result) → Among c address result made ⊎ (cell_address c (suc made) ≡ address) → (number_at c made address ≡ result) ⊎ (cell_address c (suc made) ≡ address)
also c address result made from (inl among) = inl (from among)
also c address result made from (inr here) = inr here

pub number_from : (c : seen.Cells) (address result made : ℕ) → ((m : ℕ) → 1 ≤ m → m ≤ made → cell_address c m ≡ address → result ≡ m) → Among c address result made → number_at c made address ≡ result
number_from c address result zero only (inl none) = sym none
number_from c address result zero only (inr there) = absurd (omega (arith, there.0, there.1))
number_from c address result (suc made) only is =
    by_tests c address result made (cell_address c (suc made) == address) refl
    (also c address result made (number_from c address result made (λ m some inside e. only m some (omega arith) e)) (less c address result made is))
    (only (suc made) (omega arith) (omega arith))

-- ---- the cells of a homogeneous pool

one_class : (kind : PoolKind) → is_homogeneous_kind kind ≡ true → length (map (λ (c : seen.Cells). c.size) (classes_of kind)) ≡ 1
one_class (Homogeneous source cell indexed) e = refl
one_class Mixed e = absurd cc

module _ (s : Inside) (is : IsPools s) (id address : ℕ) (pool : Pool) (there : get nat_cmp s.pools id ≡ Some pool) where
  not_one_kind : is_homogeneous_kind pool.kind ≡ false → 0 ≡ index_of (pools_of s) id address
  not_one_kind e = sym (ap (λ (o : Option seen.Pool). number_in (cells_of o) address) (pool_there s is id pool there) ∙ ap (λ (o : Option seen.Cells). number_in o address) (not_numbered pool.kind _ e))

  module _ (one_kind : is_homogeneous_kind pool.kind ≡ true) (r : Cells) (at : slice_get pool.classes.items 0 ≡ Some r) where
    -- a cell that begins at the address is found
    found_cell : (result : Option Found) → FindsCell s.slabs address result → (m : ℕ) → 1 ≤ m → m ≤ r.made → cell_address (class_seen s.slabs.space.bytes r) m ≡ address
        → (found : Found) × (result ≡ Some found) × (found.home ≡ of_class id 0 ((m - 1) / cells_per_run r.size)) × (cell_of pool.classes.items found 0 ((m - 1) / cells_per_run r.size) ≡ Some (m, 0))
    found_cell result finds m some made e =
        let t = (is.pools id pool there).classes 0 r at in
        let per = cells_per_run r.size in let j = (m - 1) / per in let first = slice_index r.runs.items j in
        let size : 1 ≤ r.size = omega (arith, t.cells.least) in
        let in_runs = run_inside r m some (omega (arith, made, t.cells.made, t.cells.room)) in
        let start = address_is s.slabs.space.bytes r m in
        let home = of_class id 0 j in
        let here : Found = record { first = first; within = address - (2 ^ 44 + 4096 * first); home = home } in
        let swap = mul_comm ((m - 1) % per) r.size in
        let cell = cell_is_there pool.classes.items 0 m 0 first r here at some made size (omega arith) (slice_get-get_or r.runs.items j 0 in_runs) (omega (arith, start, e, swap)) in
        (here, finds.there first (need r.size) home (t.runs j in_runs) (omega (arith, start, e)) (omega (arith, start, e, place_high r m size, size)), refl, there_is pool.classes.items here 0 j m 0 cell)

    counted : made_in (class_seen s.slabs.space.bytes r) ≡ r.made
    counted = length-cells_seen s.slabs.space.bytes r r.made

    index_is : index_of (pools_of s) id address ≡ number_at (class_seen s.slabs.space.bytes r) (made_in (class_seen s.slabs.space.bytes r)) address
    index_is =
        ap (λ (o : Option seen.Pool). number_in (cells_of o) address) (pool_there s is id pool there)
        ∙ ap (λ (o : Option seen.Cells). number_in o address) (numbered_at pool.kind one_kind)
      where
        numbered_at : (kind : PoolKind) → is_homogeneous_kind kind ≡ true → numbered kind (map (class_seen s.slabs.space.bytes) pool.classes.items) ≡ Some (class_seen s.slabs.space.bytes r)
        numbered_at (Homogeneous source cell indexed) e = slice_get-map (class_seen s.slabs.space.bytes) pool.classes.items 0 ∙ ap (option_map (class_seen s.slabs.space.bytes)) at
        numbered_at Mixed e = absurd cc

    from_result : (result : ℕ) → ((m : ℕ) → 1 ≤ m → m ≤ r.made → cell_address (class_seen s.slabs.space.bytes r) m ≡ address → result ≡ m) → Among (class_seen s.slabs.space.bytes r) address result r.made → result ≡ index_of (pools_of s) id address
    from_result result only among =
        sym (index_is ∙ ap (λ n. number_at (class_seen s.slabs.space.bytes r) n address) counted ∙ number_from (class_seen s.slabs.space.bytes r) address result r.made only among)

    pub nothing_begins : FindsCell s.slabs address None → 0 ≡ index_of (pools_of s) id address
    nothing_begins finds = from_result 0 (λ m some made e. let f = found_cell None finds m some made e in let both = f.1 in absurd cc) (inl refl)

    pub other_begins : (found : Found) → FindsCell s.slabs address (Some found) → ¬ (found.home.pool ≡ id) → 0 ≡ index_of (pools_of s) id address
    other_begins found finds other = from_result 0 (λ m some made e.
        let f = found_cell (Some found) finds m some made e in
        let same = same_Some found f.0 f.1 in
        absurd (other (ap (λ (x : Found). x.home.pool) same ∙ ap (λ (h : Home). h.pool) f.2))) (inl refl)

    begun_is : (m : ℕ) (found : Found) (h : Held) (j : ℕ) → h ≡ held.Cells 0 j → cell_of pool.classes.items found 0 j ≡ Some (m, 0) → held_index pool found h ≡ m
    begun_is m found h j e cell = ap (held_index pool found) e ∙ ap number_begun cell

    begun_among : (found : Found) (class' run : ℕ) (o : Option (ℕ × ℕ)) → FindsCell s.slabs address (Some found) → cell_of pool.classes.items found class' run ≡ o → Among (class_seen s.slabs.space.bytes r) address (number_begun o) r.made
    begun_among found class' run None finds e = inl refl
    begun_among found class' run (Some q) finds e = elim (cases_eq q.1 0) [
      | inl begins ↦ (
          let t = (is.pools id pool there).classes 0 r at in
          let cell = cell_there pool.classes.items found class' run q.0 q.1 e in
          let few = sym (length-mapped (λ (c : Cells). c.size) pool.classes.items) ∙ ap (λ (ns : List ℕ). length ns) (is.pools id pool there).sizes ∙ one_class pool.kind one_kind in
          let within = slice_get_within pool.classes.items class' cell.cells cell.at in
          let none : class' ≡ 0 = omega (arith, few, within) in
          let same : cell.cells ≡ r = same_Some cell.cells r (sym cell.at ∙ ap (slice_get pool.classes.items) none ∙ at) in
          let size : 1 ≤ cell.cells.size = subst (λ (x : Cells). 1 ≤ x.size) (sym same) (omega (arith, t.cells.least)) in
          let lies = place_is pool.classes.items found class' run q.0 q.1 cell size in
          let here = ap (λ (x : Cells). place x q.0) same in
          let number : number_begun (Some q) ≡ q.0 = ap (λ (b : Bool). if b then q.0 else 0) (eq-eqb q.1 0 begins) in
          let made = subst (λ (x : Cells). q.0 ≤ x.made) same (made_number pool.classes.items found class' run q.0 q.1 cell) in
          subst (λ n. Among (class_seen s.slabs.space.bytes r) address n r.made) (sym number)
          (inr (some_number pool.classes.items found class' run q.0 q.1 cell, made, omega (arith, address_is s.slabs.space.bytes r q.0, here, lies, begins, finds.at))))
      | inr middle ↦ inl (ap (λ (b : Bool). if b then q.0 else 0) (ne_eqb q.1 0 middle))
    ]

    held_among : (found : Found) (h : Held) → FindsCell s.slabs address (Some found) → Among (class_seen s.slabs.space.bytes r) address (held_index pool found h) r.made
    held_among found (held.Cells class' run) finds = begun_among found class' run (cell_of pool.classes.items found class' run) finds refl
    held_among found held.Large finds = inl refl

    pub index_begins : (found : Found) → FindsCell s.slabs address (Some found) → index_found pool found ≡ index_of (pools_of s) id address
    index_begins found finds =
        ap (λ (b : Bool). if b then held_index pool found found.home.held else 0) one_kind
        ∙ from_result (held_index pool found found.home.held) (λ m some made e.
        let f = found_cell (Some found) finds m some made e in
        let same = same_Some found f.0 f.1 in
        let j = (m - 1) / cells_per_run r.size in
        let home : found.home.held ≡ held.Cells 0 j = ap (λ (x : Found). x.home.held) same ∙ ap (λ (h : Home). h.held) f.2 in
        begun_is m found found.home.held j home (ap (λ (x : Found). cell_of pool.classes.items x 0 j) same ∙ f.3)) (held_among found found.home.held finds)

  with_first : (X : Type 0) (b : Bool) (o : Option Cells) → is_homogeneous_kind pool.kind ≡ b → slice_get pool.classes.items 0 ≡ o → (b ≡ false → X) → ((r : Cells) → is_homogeneous_kind pool.kind ≡ true → slice_get pool.classes.items 0 ≡ Some r → X) → X
  with_first X false o kind at not_one one = not_one refl
  with_first X true None kind at not_one one = absurd (some_inside pool.classes.items 0 (omega (arith, some_class s.slabs id pool (is.pools id pool there))) at)
  with_first X true (Some r) kind at not_one one = one r kind at

  none_of : FindsCell s.slabs address None → 0 ≡ index_of (pools_of s) id address
  none_of finds = with_first (0 ≡ index_of (pools_of s) id address) (is_homogeneous_kind pool.kind) (slice_get pool.classes.items 0) refl refl not_one_kind (λ r kind at. nothing_begins kind r at finds)

  other_of : (found : Found) → FindsCell s.slabs address (Some found) → ¬ (found.home.pool ≡ id) → 0 ≡ index_of (pools_of s) id address
  other_of found finds other = with_first (0 ≡ index_of (pools_of s) id address) (is_homogeneous_kind pool.kind) (slice_get pool.classes.items 0) refl refl not_one_kind (λ r kind at. other_begins kind r at found finds other)

  pub index_some : (found : Found) → FindsCell s.slabs address (Some found) → index_found pool found ≡ index_of (pools_of s) id address
  index_some found finds =
      with_first (index_found pool found ≡ index_of (pools_of s) id address) (is_homogeneous_kind pool.kind) (slice_get pool.classes.items 0) refl refl
      (λ e. ap (λ (b : Bool). if b then held_index pool found found.home.held else 0) e ∙ not_one_kind e) (λ r kind at. index_begins kind r at found finds)

module _ (s : Inside) (is : IsPools s) (id address : ℕ) where
  pub index_gone : get nat_cmp s.pools id ≡ None → 0 ≡ index_of (pools_of s) id address
  index_gone none = sym (ap (λ (o : Option seen.Pool). number_in (cells_of o) address) (no_pool_there s is id none))

  none_by : (o : Option Pool) → get nat_cmp s.pools id ≡ o → FindsCell s.slabs address None → 0 ≡ index_of (pools_of s) id address
  none_by None there finds = index_gone there
  none_by (Some pool) there finds = none_of s is id address pool there finds

  pub index_none : FindsCell s.slabs address None → 0 ≡ index_of (pools_of s) id address
  index_none finds = none_by (get nat_cmp s.pools id) refl finds

  other_by : (o : Option Pool) (found : Found) → get nat_cmp s.pools id ≡ o → FindsCell s.slabs address (Some found) → ¬ (found.home.pool ≡ id) → 0 ≡ index_of (pools_of s) id address
  other_by None found there finds other = index_gone there
  other_by (Some pool) found there finds other = other_of s is id address pool there found finds other

  pub index_other : (found : Found) → FindsCell s.slabs address (Some found) → ¬ (found.home.pool ≡ id) → 0 ≡ index_of (pools_of s) id address
  index_other found finds other = other_by (get nat_cmp s.pools id) found refl finds other
