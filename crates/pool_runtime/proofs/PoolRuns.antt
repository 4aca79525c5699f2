-- The runs of a pool lie apart; what giving them back makes of the slabs.
use Rattle.std.proofs.Common.{Less, ◌≡◌, ℕ, suc, ◌+◌, ◌*◌, ◌<◌, ◌≤◌, List, [], ◌∷◌, ◌++◌, Some, None, length, drop, map, refl, sym, ap, subst, ◌∙◌, arith}
use Rattle.std.specs.Prelude.{slice_get, slice_index, slice_index_or, sum_by}
use Rattle.std.specs.List.{AllByRecursion}
use Rattle.std.specs.Ordering.{nat_cmp}
use Rattle.std.specs.List.Sorted.{IsStrictlySortedBy}
use Rattle.std.proofs.lemmas.Cmp.{nat_cmp_total, tied_itself}
use Rattle.std.proofs.lemmas.List.{drop_more}
use Rattle.std.proofs.lemmas.List.Sums.{sum_by-cons, sum_by-append}
use Rattle.std.proofs.lemmas.Option.{same_Some}
use Rattle.slab_space.specs.Runs.{need, with_run, IsHeldRun}
use Rattle.slab_space.specs.Space.{Space, with_given}
use Rattle.slab_space.specs.Pool.{given_runs, given_classes, given_large, given_pool}
use Rattle.pool_runtime.specs.declared.cells.Cells.{Cells}
use Rattle.pool_runtime.specs.declared.pool.Pool.{Pool}
use Rattle.pool_runtime.specs.declared.slabs.Held.TheVariants as held
use Rattle.pool_runtime.specs.declared.slabs.Home.{Home}
use Rattle.pool_runtime.specs.declared.slabs.Slabs.{Slabs}
use Rattle.pool_runtime.specs.Seen.{class_seen, large_seen, pool_seen}
use Rattle.pool_runtime.specs.Tables.{IsSpace, IsAtHome, IsClass, IsLarge, IsPool, of_class, of_large}
use Rattle.pool_runtime.specs.Given.{given_all, AreGivable, runs_of, class_runs, large_runs, pool_runs}
use Rattle.pool_runtime.specs.Changes.{ReturnsSlabs}
use Rattle.pool_runtime.proofs.AddRun.{larges_fit}
use Rattle.pool_runtime.proofs.Ranges.{length-range}
use Rattle.pool_runtime.proofs.Sums.{class_need, fits, slabs_is}
use Rattle.pool_runtime.proofs.GivenRuns.{given_append, all_from, all_append, IsOther, AreDistinct, AllHeld, distinct_append, givable, slabs_of, AllGiven, all_given}

-- the runs of the classes from one on
pub class_turn : (cs : List Cells) (k : ℕ) (c : Cells) (count : ℕ) (firsts : List ℕ) → k < length cs → c ≡ slice_index_or cs k c → count ≡ need c.size → firsts ≡ c.runs.items
    → class_runs (drop k cs) ≡ runs_of count firsts ++ class_runs (drop (k + 1) cs)
class_turn cs k c count firsts inside is counts runs =
    ap class_runs (drop_more cs k c inside)
    ∙ ap (λ (x : Cells). class_runs (x ∷ drop (k + 1) cs)) (sym is)
    ∙ ap (λ n. runs_of n c.runs.items ++ class_runs (drop (k + 1) cs)) (sym counts)
    ∙ ap (λ (fs : List ℕ). runs_of count fs ++ class_runs (drop (k + 1) cs)) (sym runs)

-- the first of the large objects that are left
module _ (es rest : List (ℕ × ℕ)) (first size count : ℕ) (space : Space) (here : es ≡ (first, size) ∷ rest) (counts : count ≡ need size) where
  turn : large_runs es ≡ (first, count) ∷ large_runs rest
  turn = ap large_runs here ∙ ap (λ n. (first, n) ∷ large_runs rest) (sym counts)

  pub large_turn : AreGivable (large_runs es) space → IsHeldRun space.owners first count × AreGivable (large_runs rest) (with_given space first count)
  large_turn able = subst (λ (rs : List (ℕ × ℕ)). AreGivable rs space) turn able

  pub large_given : given_all (large_runs rest) (with_given space first count) ≡ given_all (large_runs es) space
  large_given = ap (λ (rs : List (ℕ × ℕ)). given_all rs space) (sym turn)

pub slabs_with : (slabs old : Slabs) (space : Space) → slabs.space ≡ space → slabs.homes ≡ old.homes → slabs ≡ record old { space = space }
slabs_with slabs old space e f = ap (λ (x : Space). record slabs { space = x }) e ∙ ap (λ h. record { space = space; homes = h }) f

-- ---- the runs of a pool lie apart

home_same : (homes : List Home) (a b : ℕ) (h h' : Home) → a ≡ b → slice_get homes a ≡ Some h → slice_get homes b ≡ Some h' → h ≡ h'
home_same homes a b h h' e at at' = same_Some h h' (sym at ∙ ap (slice_get homes) e ∙ at')

held_class : {k k' j j' : ℕ} → held.Cells k j ≡ held.Cells k' j' → k ≡ k'
held_class e = cc

held_run : {k k' j j' : ℕ} → held.Cells k j ≡ held.Cells k' j' → j ≡ j'
held_run e = cc

not_large : {k j : ℕ} → ¬ (held.Cells k j ≡ held.Large)
not_large e = cc

module _ (slabs : Slabs) (id : ℕ) where
  -- a run of class `k`, of number `j` or behind it
  record IsInClass (k j : ℕ) (run : ℕ × ℕ) : Type 0 where
    pub number : ℕ
    pub from : j ≤ number
    pub noted : slice_get slabs.homes.items run.0 ≡ Some (of_class id k number)

  -- a run of a class, of number `k` or behind it
  record IsInClasses (k : ℕ) (run : ℕ × ℕ) : Type 0 where
    pub class : ℕ
    pub number : ℕ
    pub from : k ≤ class
    pub noted : slice_get slabs.homes.items run.0 ≡ Some (of_class id class number)

  abbrev IsOfLarge : ℕ × ℕ → Type 0
  IsOfLarge run = slice_get slabs.homes.items run.0 ≡ Some (of_large id)

  record AreApart (P : ℕ × ℕ → Type 0) (runs : List (ℕ × ℕ)) : Type 0 where
    pub held : AllHeld slabs.space runs
    pub noted : AllByRecursion P runs
    pub distinct : AreDistinct runs

  abbrev AtHome : ℕ → ℕ → ℕ → List ℕ → Type 0
  AtHome k count j firsts = (i : ℕ) → i < length firsts → IsAtHome slabs (slice_index firsts i) count (of_class id k (j + i))

  class_apart : (k count j : ℕ) (firsts : List ℕ) → AtHome k count j firsts → AreApart (IsInClass k j) (runs_of count firsts)
  class_apart k count j [] at = record { held = tt; noted = tt; distinct = tt }
  class_apart k count j (f ∷ fs) at =
      let rest = class_apart k count (j + 1) fs (λ i inside. subst (λ n. IsAtHome slabs (slice_index fs i) count (of_class id k n)) (let e : j + suc i ≡ j + 1 + i = omega arith in e) (at (suc i) (omega arith))) in
      let here = at 0 (omega arith) in
      record {
        held = (here.run, rest.held);
        noted = (record { number = j + 0; from = omega arith; noted = here.noted }, all_from (runs_of count fs) (λ r is. record { number = is.number; from = omega (arith, is.from); noted = is.noted }) rest.noted);
        distinct = (
          all_from (runs_of count fs) (λ r is. λ e.
              let same = held_run (ap (λ (h : Home). h.held) (home_same slabs.homes.items f r.0 (of_class id k (j + 0)) (of_class id k is.number) e here.noted is.noted)) in
              absurd (omega (arith, same, is.from))) rest.noted,
          rest.distinct,
        );
      }

  abbrev AreClasses : ℕ → List Cells → Type 0
  AreClasses k cs = (m : ℕ) (c : Cells) → slice_get cs m ≡ Some c → IsClass slabs id (k + m) c

  classes_apart : (k : ℕ) (cs : List Cells) → AreClasses k cs → AreApart (IsInClasses k) (class_runs cs)
  classes_apart k [] at = record { held = tt; noted = tt; distinct = tt }
  classes_apart k (c ∷ cs) at =
      let runs = runs_of (need c.size) c.runs.items in
      let here : IsClass slabs id k c = subst (λ n. IsClass slabs id n c) (let e : k + 0 ≡ k = omega arith in e) (at 0 c refl) in
      let one = class_apart k (need c.size) 0 c.runs.items (λ i inside. subst (λ n. IsAtHome slabs (slice_index c.runs.items i) (need c.size) (of_class id k n)) (let e : i ≡ 0 + i = omega arith in e) (here.runs i inside)) in
      let rest = classes_apart (k + 1) cs (λ m x there. subst (λ n. IsClass slabs id n x) (let e : k + suc m ≡ k + 1 + m = omega arith in e) (at (suc m) x there)) in
      record {
        held = all_append (λ (run : ℕ × ℕ). IsHeldRun slabs.space.owners run.0 run.1) runs (class_runs cs) one.held rest.held;
        noted = all_append (IsInClasses k) runs (class_runs cs) (all_from runs (λ r is. record { class = k; number = is.number; from = omega arith; noted = is.noted }) one.noted)
            (all_from (class_runs cs) (λ r is. record { class = is.class; number = is.number; from = omega (arith, is.from); noted = is.noted }) rest.noted);
        distinct = distinct_append runs (class_runs cs) (λ x y is also. λ e.
            let same = held_class (ap (λ (h : Home). h.held) (home_same slabs.homes.items x.0 y.0 (of_class id k is.number) (of_class id also.class also.number) e is.noted also.noted)) in
            absurd (omega (arith, same, also.from))) one.noted rest.noted one.distinct rest.distinct;
      }

  keys_differ : (first : ℕ) (es : List (ℕ × ℕ)) → AllByRecursion (λ y. nat_cmp first y ≡ Less) (map (λ (e : ℕ × ℕ). e.0) es) → IsOther first (large_runs es)
  keys_differ first [] above = tt
  keys_differ first (e ∷ es) above = (λ same. absurd (let both = sym (tied_itself nat_cmp_total first) ∙ ap (nat_cmp first) same ∙ above.0 in cc), keys_differ first es above.1)

  large_apart : (es : List (ℕ × ℕ)) → AllByRecursion (IsLarge slabs id) es → IsStrictlySortedBy nat_cmp (map (λ (e : ℕ × ℕ). e.0) es) → AreApart IsOfLarge (large_runs es)
  unfolding IsStrictlySortedBy
  large_apart [] all order = record { held = tt; noted = tt; distinct = tt }
  large_apart (e ∷ es) all order =
      let rest = large_apart es all.1 order.1 in
      record { held = (all.0.run.run, rest.held); noted = (all.0.run.noted, rest.noted); distinct = (keys_differ e.0 es order.0, rest.distinct) }

  -- a run that was taken for this pool
  pub record IsOfPool (run : ℕ × ℕ) : Type 0 where
    pub home : Home
    pub pool : home.pool ≡ id
    pub noted : slice_get slabs.homes.items run.0 ≡ Some home

  module _ (pool : Pool) (is : IsPool slabs id pool) where
    pool_apart : AreApart IsOfPool (pool_runs pool)
    pool_apart =
        let cs = class_runs pool.classes.items in let ls = large_runs pool.large.entries in
        let classes = classes_apart 0 pool.classes.items (λ m c there. subst (λ n. IsClass slabs id n c) (let e : m ≡ 0 + m = omega arith in e) (is.classes m c there)) in
        let larges = large_apart pool.large.entries is.large is.ordered in
        record {
          held = all_append (λ (run : ℕ × ℕ). IsHeldRun slabs.space.owners run.0 run.1) cs ls classes.held larges.held;
          noted = all_append IsOfPool cs ls (all_from cs (λ r its. record { home = of_class id its.class its.number; pool = refl; noted = its.noted }) classes.noted) (all_from ls (λ r at. record { home = of_large id; pool = refl; noted = at }) larges.noted);
          distinct = distinct_append cs ls (λ x y its also. λ e.
              absurd (not_large (ap (λ (h : Home). h.held) (home_same slabs.homes.items x.0 y.0 (of_class id its.class its.number) (of_large id) e its.noted also))))
              classes.noted larges.noted classes.distinct larges.distinct;
        }

    pub pool_givable : IsSpace slabs.space → AreGivable (pool_runs pool) slabs.space
    pool_givable space = givable (pool_runs pool) slabs.space space pool_apart.held pool_apart.distinct

-- ---- the owners, and how many slabs are free

runs_given : (count : ℕ) (firsts : List ℕ) (space : Space) → (given_all (runs_of count firsts) space).owners ≡ given_runs count firsts space.owners
runs_given count [] space = refl
runs_given count (f ∷ fs) space = runs_given count fs (with_given space f count)

classes_given : (bytes : List ℕ) (cs : List Cells) (space : Space) → (given_all (class_runs cs) space).owners ≡ given_classes (map (class_seen bytes) cs) space.owners
classes_given bytes [] space = refl
classes_given bytes (c ∷ cs) space =
    let runs = runs_of (need c.size) c.runs.items in
    ap (λ (s : Space). s.owners) (given_append runs (class_runs cs) space) ∙ classes_given bytes cs (given_all runs space) ∙ ap (given_classes (map (class_seen bytes) cs)) (runs_given (need c.size) c.runs.items space)

larges_given : (bytes : List ℕ) (es : List (ℕ × ℕ)) (space : Space) → AllByRecursion (fits bytes) es → (given_all (large_runs es) space).owners ≡ given_large (map (large_seen bytes) es) space.owners
larges_given bytes [] space fit = refl
larges_given bytes (e ∷ es) space fit =
    larges_given bytes es (with_given space e.0 (need e.1)) fit.1
    ∙ ap (λ n. given_large (map (large_seen bytes) es) (with_run space.owners e.0 (need n) None)) (sym (length-range bytes (4096 * e.0) e.1 fit.0))

slabs_of_runs : (count : ℕ) (firsts : List ℕ) → slabs_of (runs_of count firsts) ≡ count * length firsts
slabs_of_runs count [] = omega arith
slabs_of_runs count (f ∷ fs) =
    let more : count * length (f ∷ fs) ≡ count + count * length fs = omega arith in
    omega (arith, sum_by-cons (λ (run : ℕ × ℕ). run.1) (f, count) (runs_of count fs), slabs_of_runs count fs, more)

slabs_of_classes : (cs : List Cells) → slabs_of (class_runs cs) ≡ sum_by class_need cs
slabs_of_classes [] = refl
slabs_of_classes (c ∷ cs) =
    omega (arith, sum_by-append (λ (run : ℕ × ℕ). run.1) (runs_of (need c.size) c.runs.items) (class_runs cs), slabs_of_runs (need c.size) c.runs.items, slabs_of_classes cs, sum_by-cons class_need c cs)

slabs_of_larges : (es : List (ℕ × ℕ)) → slabs_of (large_runs es) ≡ sum_by (λ (e : ℕ × ℕ). need e.1) es
slabs_of_larges [] = refl
slabs_of_larges (e ∷ es) = omega (arith, sum_by-cons (λ (run : ℕ × ℕ). run.1) (e.0, need e.1) (large_runs es), slabs_of_larges es, sum_by-cons (λ (x : ℕ × ℕ). need x.1) e es)

module _ (slabs : Slabs) (id : ℕ) (pool : Pool) (space : IsSpace slabs.space) (is : IsPool slabs id pool) where
  fit : AllByRecursion (fits slabs.space.bytes) pool.large.entries
  fit = larges_fit slabs id pool space is

  owners_given : (given_all (pool_runs pool) slabs.space).owners ≡ given_pool (pool_seen slabs.space.bytes pool) slabs.space.owners
  owners_given =
      let cs = class_runs pool.classes.items in
      ap (λ (s : Space). s.owners) (given_append cs (large_runs pool.large.entries) slabs.space)
      ∙ larges_given slabs.space.bytes pool.large.entries (given_all cs slabs.space) fit
      ∙ ap (given_large (map (large_seen slabs.space.bytes) pool.large.entries)) (classes_given slabs.space.bytes pool.classes.items slabs.space)

  slabs_given : slabs_of (pool_runs pool) ≡ pool.slabs
  slabs_given =
      omega (arith, sum_by-append (λ (run : ℕ × ℕ). run.1) (class_runs pool.classes.items) (large_runs pool.large.entries), slabs_of_classes pool.classes.items, slabs_of_larges pool.large.entries, slabs_is slabs.space.bytes pool fit, is.slabs)

  all : AllGiven (pool_runs pool) slabs.space (given_all (pool_runs pool) slabs.space)
  all = all_given (pool_runs pool) slabs.space space (pool_givable slabs id pool is space)

  pub pool_given : ReturnsSlabs id pool slabs (record slabs { space = given_all (pool_runs pool) slabs.space })
  pool_given = record {
    space = all.space;
    long = all.long;
    owners = owners_given;
    others = λ first count home differ at.
        let other = all_from (pool_runs pool) (λ r of. λ e. differ (ap (λ (h : Home). h.pool) (home_same slabs.homes.items first r.0 home of.home e at.noted of.noted) ∙ of.pool)) (pool_apart slabs id pool is).noted in
        let kept = all.kept first count at.run other in
        (record { run = kept.0; noted = at.noted }, kept.1);
    counted = omega (arith, all.counted, slabs_given);
  }
