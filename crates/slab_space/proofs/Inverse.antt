-- The cells made of a homogeneous pool have different addresses, since its runs lie apart; so number and address tell
-- each other.
use Rattle.std.proofs.Common.{◌≡◌, ℕ, zero, suc, ◌+◌, ◌-◌, ◌*◌, ◌/◌, ◌%◌, ◌<◌, ◌≤◌, Bool, true, false, List, Option, Some, None, length, refl, sym, ap, subst, ◌∙◌, inl, inr, arith}
use Rattle.std.specs.Prelude.{◌==◌, ◌≢◌, if◌then◌else◌, slice_get, slice_index, option_map, unwrap_or}
use Rattle.std.proofs.lemmas.Bool.{cases_lt, eqb-true, eqb-false, lt-ltb, le-leb}
use Rattle.std.proofs.lemmas.Nat.{div-add-mod', mod_below, div_below, mul-le}
use Rattle.slab_space.specs.declared.kind.PoolKind.TheVariants.{Homogeneous}
use Rattle.slab_space.specs.Runs.{need, owner_at}
use Rattle.slab_space.specs.Pool.{Cells, Pool, cells_per_run, cell_address, made_in, number_at, numbered, address_in, number_in}
use Rattle.slab_space.specs.Pools.{Pools, pool_at, cells_of, address_of, index_of}
use Rattle.slab_space.specs.Reached.{made_of, AddressesTellNumbers, NumbersTellAddresses}
use Rattle.slab_space.proofs.Peaks.{either, HoldsForPeak, OneHolds, pool_holds, all_hold}
use Rattle.slab_space.proofs.Held.{total, one_of, two_of, in_run, Fits, one_owner, owner_once, cells_cover, pool_fits, all_fit}

-- ---- runs that lie apart

module _ (owners : List (Option ℕ)) (runs : List ℕ) (count : ℕ) (some : 1 ≤ count) (fits : Fits owners (λ owner slab. total (λ first. in_run first count owner slab) runs)) where
  -- two places hold no run of the same first slab
  once : (i j : ℕ) → i < j → j < length runs → slice_index runs i ≢ slice_index runs j
  once i j order inside same =
      let f = slice_index runs j in
      let both = two_of (λ first. in_run first count f f) runs i j 0 order inside in
      let first = ap (λ n. in_run n count f f) same in
      omega (arith, both, first, fits f f, owner_once f (owner_at owners f), some)

  different : (i j : ℕ) → i ≢ j → i < length runs → j < length runs → slice_index runs i ≢ slice_index runs j
  different i j apart low high same =
      elim (cases_lt i j) [
        | inl under ↦ once i j under high same
        | inr over ↦ elim (cases_lt j i) [
          | inl above ↦ once j i above low (sym same)
          | inr most ↦ absurd (apart (omega (arith, over, most)))
        ]
      ]

  behind : (i j : ℕ) → i < length runs → j < length runs → slice_index runs i < slice_index runs j → slice_index runs i + count ≤ slice_index runs j
  behind i j low high order =
      let f = slice_index runs i in let g = slice_index runs j in
      elim (cases_lt g (f + count)) [
        | inl inside ↦ (let one = one_of (λ first. in_run first count f g) runs i 0 low in
            let two = one_of (λ first. in_run first count g g) runs j 0 high in
            absurd (omega (arith, one, two, fits f g, fits g g, one_owner f g (owner_at owners g) order, inside, some, order)))
        | inr past ↦ past
      ]

-- ---- cells that lie apart

-- a cell lies in its run
cell_inside : (size at : ℕ) → 1 ≤ size → at < cells_per_run size → size * at < 4096 * need size
cell_inside size at some inside =
    let slabs : 1 ≤ need size = omega (arith, some) in
    elim (cases_lt at (4096 / size)) [
      | inl many ↦ (let fits = mul-le (at + 1) size (4096 / size) size (omega (arith, many)) (omega arith) in
          let whole = div-add-mod' 4096 size in
          let next : (at + 1) * size ≡ size * at + size = omega arith in
          omega (arith, fits, whole, next, some, slabs))
      | inr none ↦ (let first : at ≡ 0 = omega (arith, inside, none) in let nothing : size * at ≡ 0 = ap (λ n. size * n) first ∙ omega arith in omega (arith, nothing, slabs))
    ]

same_place : (size a b : ℕ) → 1 ≤ size → size * a ≡ size * b → a ≤ b
same_place size a b some same =
    elim (cases_lt b a) [
      | inl less ↦ (let more = mul-le size (b + 1) size a (omega arith) (omega (arith, less)) in let next : size * (b + 1) ≡ size * b + size = omega arith in absurd (omega (arith, more, next, same, some)))
      | inr enough ↦ enough
    ]

module _ (owners : List (Option ℕ)) (c : Cells) (some : 1 ≤ c.size) (fits : Fits owners (λ owner slab. cells_cover owner slab c)) (enough : made_in c ≤ length c.runs * cells_per_run c.size) where
  abbrev per : ℕ
  per = cells_per_run c.size

  slabs : 1 ≤ need c.size
  slabs = omega (arith, some)

  run_of : (number : ℕ) → 1 ≤ number → number ≤ made_in c → (number - 1) / per < length c.runs
  run_of number least most = div_below (number - 1) per (length c.runs) (omega arith) (omega (arith, least, most, enough))

  -- a cell in a run before that of another one
  not_before : (m n : ℕ) → 1 ≤ m → m ≤ made_in c → 1 ≤ n → n ≤ made_in c
      → slice_index c.runs ((m - 1) / per) < slice_index c.runs ((n - 1) / per) → cell_address c m ≢ cell_address c n
  not_before m n m_least m_most n_least n_most order same =
      let apart = behind owners c.runs (need c.size) slabs fits ((m - 1) / per) ((n - 1) / per) (run_of m m_least m_most) (run_of n n_least n_most) order in
      let inside = cell_inside c.size ((m - 1) % per) some (mod_below (m - 1) per (omega arith)) in
      omega (arith, apart, inside, same)

  one_address : (m n : ℕ) → 1 ≤ m → m ≤ made_in c → 1 ≤ n → n ≤ made_in c → cell_address c m ≡ cell_address c n → m ≡ n
  one_address m n m_least m_most n_least n_most same =
      let i = (m - 1) / per in let j = (n - 1) / per in
      let first : slice_index c.runs i ≡ slice_index c.runs j =
      elim (cases_lt (slice_index c.runs i) (slice_index c.runs j)) [
        | inl less ↦ absurd (not_before m n m_least m_most n_least n_most less same)
        | inr more ↦ elim (cases_lt (slice_index c.runs j) (slice_index c.runs i)) [
          | inl less ↦ absurd (not_before n m n_least n_most m_least m_most less (sym same))
          | inr least ↦ omega (arith, more, least)
        ]
      ] in
      let apart : i ≢ j → slice_index c.runs i ≢ slice_index c.runs j = λ other. different owners c.runs (need c.size) slabs fits i j other (run_of m m_least m_most) (run_of n n_least n_most) in
      let place : i ≡ j =
      elim (cases_lt i j) [
        | inl less ↦ absurd (apart (λ e. omega (arith, e, less)) first)
        | inr more ↦ elim (cases_lt j i) [
          | inl less ↦ absurd (apart (λ e. omega (arith, e, less)) first)
          | inr least ↦ omega (arith, more, least)
        ]
      ] in
      let at : c.size * ((m - 1) % per) ≡ c.size * ((n - 1) % per) = omega (arith, same, first) in
      let up = same_place c.size ((m - 1) % per) ((n - 1) % per) some at in
      let down = same_place c.size ((n - 1) % per) ((m - 1) % per) some (sym at) in
      omega (arith, up, down, ap (λ k. k * per) place, div-add-mod' (m - 1) per, div-add-mod' (n - 1) per, m_least, n_least)

-- ---- numbers and addresses

-- the search finds the one cell at its address
found_at : (c : Cells) (number made : ℕ) → ((m : ℕ) → 1 ≤ m → m ≤ made → cell_address c m ≡ cell_address c number → m ≡ number) → 1 ≤ number → number ≤ made → number_at c made (cell_address c number) ≡ number
found_at c number zero alone least most = absurd (omega (arith, least, most))
found_at c number (suc made) alone least most =
    either (λ k. k ≡ number) (cell_address c (suc made) == cell_address c number) (suc made) (number_at c made (cell_address c number))
    (λ e. alone (suc made) (omega arith) (omega arith) (eqb-true (cell_address c (suc made)) (cell_address c number) e))
    (λ e. found_at c number made (λ m low high. alone m low (omega (arith, high))) least
    (elim (cases_lt made number) [
      | inl last ↦ (let is : suc made ≡ number = omega (arith, last, most) in absurd (eqb-false (cell_address c (suc made)) (cell_address c number) e (ap (cell_address c) is)))
      | inr before ↦ before
    ]))

-- what the search finds is a cell at that address
by_test : (c : Cells) (made address number below : ℕ) (b : Bool) → (below ≡ number → (number ≤ made) × (cell_address c number ≡ address))
    → (cell_address c (suc made) == address) ≡ b → (if b then suc made else below) ≡ number → (number ≤ suc made) × (cell_address c number ≡ address)
by_test c made address number below true behind test is = (omega (arith, is), ap (cell_address c) (sym is) ∙ eqb-true (cell_address c (suc made)) address test)
by_test c made address number below false behind test is = let found = behind is in (omega (arith, found.0), found.1)

found_is : (c : Cells) (made address number : ℕ) → 1 ≤ number → number_at c made address ≡ number → (number ≤ made) × (cell_address c number ≡ address)
found_is c zero address number least e = absurd (omega (arith, least, e))
found_is c (suc made) address number least e = by_test c made address number (number_at c made address) (cell_address c (suc made) == address) (found_is c made address number least) refl e

address_is : (c : Cells) (number : ℕ) → 1 ≤ number → number ≤ made_in c → address_in (Some c) number ≡ cell_address c number
address_is c number least most = rw (lt-ltb 0 number least, le-leb number (made_in c) most) refl

cells_are : (p : Pools) (id source cell : ℕ) (indexed : Bool) (pool : Pool) (holds : HoldsForPeak cell pool) → pool_at p id ≡ Some pool → pool.kind ≡ Homogeneous source cell indexed → cells_of (pool_at p id) ≡ Some holds.cells
cells_are p id source cell indexed pool holds here kind =
    ap cells_of here ∙ ap (λ k. numbered k pool.classes) kind ∙ ap (λ (cs : List Cells). slice_get cs 0) holds.only

pub addresses_tell_numbers : AddressesTellNumbers
addresses_tell_numbers p id source cell indexed pool reached here kind some number least most =
    let holds = subst OneHolds here (pool_holds p id (all_hold p reached)) source cell indexed kind in
    let c = holds.cells in let size = holds.fit.size in
    let is = cells_are p id source cell indexed pool holds here kind in
    let made : made_of p id ≡ made_in c = ap (λ (o : Option Cells). unwrap_or (option_map made_in o) 0) is in
    let most' : number ≤ made_in c = omega (arith, most, made) in
    let address : address_of p id number ≡ cell_address c number = ap (λ o. address_in o number) is ∙ address_is c number least most' in
    let fits : Fits p.owners (λ owner slab. cells_cover owner slab c) =
    λ owner slab. omega (arith, pool_fits p id pool here (all_fit p reached) owner slab, ap (total (cells_cover owner slab)) holds.only) in
    let enough : made_in c ≤ length c.runs * cells_per_run c.size = subst (λ n. made_in c ≤ length c.runs * cells_per_run n) (sym size) holds.fit.enough in
    let alone : (m : ℕ) → 1 ≤ m → m ≤ made_in c → cell_address c m ≡ cell_address c number → m ≡ number = λ m low high same. one_address p.owners c (omega (arith, some, size)) fits enough m number low high least most' same in
    let found : index_of p id (cell_address c number) ≡ number = ap (λ o. number_in o (cell_address c number)) is ∙ found_at c number (made_in c) alone least most' in
    (omega (arith, address), ap (index_of p id) address ∙ found)

told_is : (o : Option Cells) (address number : ℕ) → 1 ≤ number → number_in o address ≡ number → (number ≤ unwrap_or (option_map made_in o) 0) × (address_in o number ≡ address)
told_is None address number least e = absurd (omega (arith, least, e))
told_is (Some c) address number least e =
    let found = found_is c (made_in c) address number least e in (found.0, address_is c number least found.0 ∙ found.1)

pub numbers_tell_addresses : NumbersTellAddresses
numbers_tell_addresses p id address number least e = told_is (cells_of (pool_at p id)) address number least e
