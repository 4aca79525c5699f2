-- What an allocation of a cell does, step by step.
use Rattle.std.proofs.Common.{◌≡◌, ℕ, zero, suc, ◌+◌, ◌*◌, ◌<◌, ◌≤◌, Bool, true, false, List, [], ◌∷◌, ◌++◌, Option, Some, None, Err, length, map, get_or, set, refl, sym, ap, subst, ◌∙◌, arith}
use Rattle.std.specs.Prelude.{if◌then◌else◌, ◌==◌, ◌&&◌, ◌||◌, nat_le, nat_lt, is_some, is_none, IsSome, slice_get, slice_index_or, option_map}
use Rattle.std.proofs.lemmas.Bool.{eq-eqb, ne_eqb, lt-ltb}
use Rattle.std.proofs.lemmas.Option.{slice_get-map, slice_get-get_or, get_or_from_slice_get}
use Rattle.std.proofs.lemmas.List.{length_push, get_or-set_same}
use Rattle.slab_space.specs.declared.kind.PoolKind.{PoolKind}
use Rattle.slab_space.specs.declared.kind.PoolKind.TheVariants.{Homogeneous, Mixed}
use Rattle.slab_space.specs.Runs.{need, with_run, lowest_run}
use Rattle.slab_space.specs.Pool.{cells_per_run, made_in, has_room, with_next, no_cells}
use Rattle.slab_space.specs.Pool as seen
use Rattle.slab_space.specs.PoolSteps.{PoolInSlabs, Allocation, index_exhausted, at_limit, placed_cell, placed_in_run, placed_in_class}
use Rattle.slab_space.proofs.LowestRun.{free_from_found}
use Rattle.slab_space.proofs.WithRun.{free_count_taken}
use Rattle.pool_runtime.specs.declared.cells.Cells.{Cells}
use Rattle.pool_runtime.specs.declared.pool.Pool.{Pool}
use Rattle.pool_runtime.specs.declared.pools.AllocEnd.{AllocEnd}
use Rattle.pool_runtime.specs.declared.pools.AllocEnd.TheVariants.{HeapExhausted, IndexExhausted, OutOfMemory}
use Rattle.pool_runtime.specs.declared.slabs.Slabs.{Slabs}
use Rattle.pool_runtime.specs.Lookup.{is_indexed_kind}
use Rattle.pool_runtime.specs.Seen.{threaded, class_seen}
use Rattle.pool_runtime.specs.Tables.{IsCells}
use Rattle.pool_runtime.specs.Changes.{Changes, Ends, TakesSlabs, AddsRun}
use Rattle.pool_runtime.proofs.CellsSeen.{length-cells_seen}
use Rattle.pool_runtime.proofs.Taken.{same_step}

-- ---- the tests

none_by : (bytes : List ℕ) (c : Cells) (f : ℕ) → c.freed ≡ f → is_none (slice_get (threaded bytes c f c.last_freed) 0) ≡ (c.freed == 0)
none_by bytes c zero e = sym (eq-eqb c.freed 0 e)
none_by bytes c (suc f) e = sym (ne_eqb c.freed 0 (λ z. absurd (omega (arith, e, z))))

limit_by : (limit : ℕ) (kind : PoolKind) (cs : seen.Cells) (a b : Bool) → is_none (slice_get cs.freed 0) ≡ a → nat_le limit (made_in cs) ≡ b → at_limit limit kind cs ≡ (is_indexed_kind kind && (a && b))
limit_by limit (Homogeneous source cell true) cs a b ea eb = rw (ea, eb) refl
limit_by limit (Homogeneous source cell false) cs a b ea eb = refl
limit_by limit Mixed cs a b ea eb = refl

pub limit_is : (limit : ℕ) (kind : PoolKind) (bytes : List ℕ) (c : Cells) → at_limit limit kind (class_seen bytes c) ≡ (is_indexed_kind kind && (c.freed == 0 && nat_le limit c.made))
limit_is limit kind bytes c = limit_by limit kind (class_seen bytes c) (c.freed == 0) (nat_le limit c.made) (none_by bytes c c.freed refl) (ap (nat_le limit) (length-cells_seen bytes c c.made))

pub not_limited : (limit : ℕ) (kind : PoolKind) (cs : seen.Cells) → is_indexed_kind kind ≡ false → at_limit limit kind cs ≡ false
not_limited limit (Homogeneous source cell true) cs e = absurd cc
not_limited limit (Homogeneous source cell false) cs e = refl
not_limited limit Mixed cs e = refl

some_by : (bytes : List ℕ) (c : Cells) (f : ℕ) → c.freed ≡ f → is_some (slice_get (threaded bytes c f c.last_freed) 0) ≡ nat_lt 0 f
some_by bytes c zero e = refl
some_by bytes c (suc f) e = sym (lt-ltb 0 (suc f) (omega arith))

pub room_is : (bytes : List ℕ) (c : Cells) → IsCells bytes c → has_room (class_seen bytes c) ≡ (nat_lt 0 c.freed || nat_lt c.made (length c.live.items))
room_is bytes c table =
    ap (λ (b : Bool). b || nat_lt (length (class_seen bytes c).cells) (length c.runs.items * cells_per_run c.size)) (some_by bytes c c.freed refl)
    ∙ ap (λ n. nat_lt 0 c.freed || nat_lt n (length c.runs.items * cells_per_run c.size)) (length-cells_seen bytes c c.made)
    ∙ ap (λ n. nat_lt 0 c.freed || nat_lt c.made n) (sym table.room)

-- ---- one change after another

pub changes_then : (id : ℕ) (a b c : Slabs) (p q r : Pool) → Changes id a b p q → Changes id b c q r → Changes id a c p r
changes_then id a b c p q r one two = record {
  space = two.space;
  long = two.long ∙ one.long;
  is_pool = two.is_pool;
  others = λ first count home other at.
      let first_one = one.others first count home other at in
      let second = two.others first count home other first_one.0 in
      (second.0, λ k low high. second.1 k low high ∙ first_one.1 k low high);
  counted = two.counted ∙ one.counted;
}

set_set : {X : Type 0} (xs : List X) (k : ℕ) (x y : X) → set (set xs k x) k y ≡ set xs k y
set_set [] k x y = refl
set_set (z ∷ xs) zero x y = refl
set_set {X} (z ∷ xs) (suc k) x y = ap (λ (ys : List X). z ∷ ys) (set_set xs k x y)

or_true : (a b : Bool) → b ≡ true → (a || b) ≡ true
or_true true b e = refl
or_true false b e = e

pub same_cell : {os os' : List (Option ℕ)} {p p' : seen.Pool} {c c' : seen.Cells} (k : ℕ) → os ≡ os' → p ≡ p' → c ≡ c' → placed_cell os p k c ≡ placed_cell os' p' k c'
same_cell k eos ep ec = rw (eos, ep, ec) refl

-- what was read of a class of a pool
pub class_read : (bytes : List ℕ) (cs : List Cells) (k : ℕ) (r : Cells) → k < length cs → r ≡ get_or cs k r → slice_index_or (map (class_seen bytes) cs) k (no_cells 0) ≡ class_seen bytes r
class_read bytes cs k r inside is =
    get_or_from_slice_get (map (class_seen bytes) cs) k (class_seen bytes r) (no_cells 0) (slice_get-map (class_seen bytes) cs k ∙ ap (option_map (class_seen bytes)) (slice_get-get_or cs k r inside ∙ ap Some (sym is)))

-- ---- the steps

abbrev step_of : List (Option ℕ) → seen.Pool → ℕ → seen.Cells → Bool → Bool → Allocation PoolInSlabs
step_of owners p k c limited roomy = if limited then index_exhausted else if roomy then placed_cell owners p k c else placed_in_run owners p k c (lowest_run owners (need c.size))

module _ (limit k : ℕ) (owners : List (Option ℕ)) (p : seen.Pool) (c : seen.Cells) where
  pub step_limit : at_limit limit p.kind c ≡ true → placed_in_class limit owners p k c ≡ index_exhausted
  step_limit e = ap (λ (b : Bool). step_of owners p k c b (has_room c)) e

  pub step_room : at_limit limit p.kind c ≡ false → has_room c ≡ true → placed_in_class limit owners p k c ≡ placed_cell owners p k c
  step_room e room = ap (λ (b : Bool). step_of owners p k c b (has_room c)) e ∙ ap (step_of owners p k c false) room

  pub step_run : at_limit limit p.kind c ≡ false → has_room c ≡ false → placed_in_class limit owners p k c ≡ placed_in_run owners p k c (lowest_run owners (need c.size))
  step_run e room = ap (λ (b : Bool). step_of owners p k c b (has_room c)) e ∙ ap (step_of owners p k c false) room

  takes_run : (o : Option ℕ) → lowest_run owners (need c.size) ≡ o → 1 ≤ need c.size → IsSome o → TakesSlabs owners (placed_in_run owners p k c o)
  takes_run None e some has = absurd cc
  takes_run (Some first) e some has = let taken = free_count_taken owners first (need c.size) (free_from_found owners (need c.size) first e) in omega (arith, taken, some)

  -- no run was added
  pub ends_without : (old new : Slabs) (pool pool' : Pool) (end : AllocEnd) → old.space.owners ≡ owners → at_limit limit p.kind c ≡ false → has_room c ≡ false → 1 ≤ need c.size
      → AddsRun k old new pool pool' c (Err end) → Ends (placed_in_class limit owners p k c) old new pool pool' (Err end)
  ends_without old new pool pool' HeapExhausted os e room some added =
      (step_run e room ∙ ap (placed_in_run owners p k c) (ap (λ (x : List (Option ℕ)). lowest_run x (need c.size)) (sym os) ∙ added.0), added.1)
  ends_without old new pool pool' IndexExhausted os e room some added = absurd added
  ends_without old new pool pool' OutOfMemory os e room some added = (
    subst (λ (x : List (Option ℕ)). TakesSlabs x (placed_in_class limit owners p k c)) (sym os)
        (subst (TakesSlabs owners) (sym (step_run e room)) (takes_run (lowest_run owners (need c.size)) refl some (subst (λ (x : List (Option ℕ)). IsSome (lowest_run x (need c.size))) os added.0))),
    added.1,
  )

  -- a cell of the new run
  module _ (first : ℕ) (lowest : lowest_run owners (need c.size) ≡ Some first) (inside : k < length p.classes) where
    pub class_more : slice_index_or (set p.classes k (record c { runs = c.runs ++ first ∷ [] })) k (no_cells 0) ≡ record c { runs = c.runs ++ first ∷ [] }
    class_more = get_or-set_same p.classes k (record c { runs = c.runs ++ first ∷ [] }) (no_cells 0) inside

    pub room_more : length c.cells ≤ length c.runs * cells_per_run c.size → 1 ≤ cells_per_run c.size → has_room (record c { runs = c.runs ++ first ∷ [] }) ≡ true
    room_more within some =
        let count = length_push c.runs first in
        let more_room : (length c.runs + 1) * cells_per_run c.size ≡ length c.runs * cells_per_run c.size + cells_per_run c.size = omega arith in
        let total = ap (λ n. n * cells_per_run c.size) count in
        or_true (is_some (slice_get c.freed 0)) (nat_lt (length c.cells) (length (c.runs ++ first ∷ []) * cells_per_run c.size)) (lt-ltb (length c.cells) (length (c.runs ++ first ∷ []) * cells_per_run c.size) (omega (arith, within, some, total, more_room)))

    pub step_more : at_limit limit p.kind c ≡ false → has_room c ≡ false
        → placed_in_class limit owners p k c ≡ placed_cell (with_run owners first (need c.size) (Some first)) (record p { classes = set p.classes k (record c { runs = c.runs ++ first ∷ [] }) }) k (record c { runs = c.runs ++ first ∷ [] })
    step_more e room =
        let c' : seen.Cells = record c { runs = c.runs ++ first ∷ [] } in
        let classes = set_set p.classes k c' (with_next c' c.freed) in
        step_run e room ∙ ap (placed_in_run owners p k c) lowest
        ∙ same_step refl refl (ap (λ (cs : List seen.Cells). seen.with_peak (record p { classes = cs })) (sym classes))

-- what is read of a class has as many cells as there is room for, at most
pub cells_within : (bytes : List ℕ) (r : Cells) (c : seen.Cells) → c ≡ class_seen bytes r → IsCells bytes r → length c.cells ≤ length c.runs * cells_per_run c.size
cells_within bytes r c is table =
    subst (λ (x : seen.Cells). length x.cells ≤ length x.runs * cells_per_run x.size) (sym is) (omega (arith, length-cells_seen bytes r r.made, table.made, table.room))
