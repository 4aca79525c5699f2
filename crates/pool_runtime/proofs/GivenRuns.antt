-- Held runs that lie apart may be given back one after another.
use Rattle.std.proofs.Common.{◌≡◌, ℕ, ◌+◌, ◌*◌, ◌≤◌, List, [], ◌∷◌, ◌++◌, None, length, refl, sym, ◌∙◌, inl, inr, arith}
use Rattle.std.specs.Prelude.{⊤, sum_by}
use Rattle.std.specs.List.{AllByRecursion}
use Rattle.std.proofs.lemmas.List.Sums.{sum_by-cons}
use Rattle.slab_space.specs.Runs.{free_count, IsHeldRun}
use Rattle.slab_space.specs.Space.{Space, with_given}
use Rattle.slab_space.proofs.WithRun.{length-with_run, get_or-with_run_below, get_or-with_run_above, free_count_given}
use Rattle.pool_runtime.specs.Bytes.{SameAt}
use Rattle.pool_runtime.specs.Tables.{IsSpace}
use Rattle.pool_runtime.specs.Given.{given_all, AreGivable}
use Rattle.pool_runtime.proofs.Apart.{held_apart, held_kept}

-- ---- lists of runs one after another

pub given_append : (xs ys : List (ℕ × ℕ)) (space : Space) → given_all (xs ++ ys) space ≡ given_all ys (given_all xs space)
given_append [] ys space = refl
given_append (x ∷ xs) ys space = given_append xs ys (with_given space x.0 x.1)

pub givable_append : (xs ys : List (ℕ × ℕ)) (space : Space) → AreGivable (xs ++ ys) space → AreGivable xs space × AreGivable ys (given_all xs space)
givable_append [] ys space all = (tt, all)
givable_append (x ∷ xs) ys space all = let rest = givable_append xs ys (with_given space x.0 x.1) all.1 in ((all.0, rest.0), rest.1)

pub all_from : {X : Type 0} {P Q : X → Type 0} (xs : List X) → ((x : X) → P x → Q x) → AllByRecursion P xs → AllByRecursion Q xs
all_from [] from all = tt
all_from (x ∷ xs) from all = (from x all.0, all_from xs from all.1)

pub all_append : {X : Type 0} (P : X → Type 0) (xs ys : List X) → AllByRecursion P xs → AllByRecursion P ys → AllByRecursion P (xs ++ ys)
all_append P [] ys all also = also
all_append P (x ∷ xs) ys all also = (all.0, all_append P xs ys all.1 also)

-- none of these runs begins with this slab
abbrev pub IsOther : ℕ → List (ℕ × ℕ) → Type 0
IsOther first runs = AllByRecursion (λ (run : ℕ × ℕ). ¬ (first ≡ run.0)) runs

-- no two of them begin with the same slab
abbrev pub AreDistinct : List (ℕ × ℕ) → Type 0
AreDistinct [] = ⊤
AreDistinct (run ∷ rest) = IsOther run.0 rest × AreDistinct rest

abbrev pub AllHeld : Space → List (ℕ × ℕ) → Type 0
AllHeld space runs = AllByRecursion (λ (run : ℕ × ℕ). IsHeldRun space.owners run.0 run.1) runs

pub distinct_append : {P Q : ℕ × ℕ → Type 0} (xs ys : List (ℕ × ℕ)) → ((x y : ℕ × ℕ) → P x → Q y → ¬ (x.0 ≡ y.0)) → AllByRecursion P xs → AllByRecursion Q ys → AreDistinct xs → AreDistinct ys → AreDistinct (xs ++ ys)
distinct_append [] ys differ p q one other = other
distinct_append (x ∷ xs) ys differ p q one other = (all_append (λ (y : ℕ × ℕ). ¬ (x.0 ≡ y.0)) xs ys one.0 (all_from ys (λ y is. differ x y p.0 is) q), distinct_append xs ys differ p.1 q one.1 other)

-- ---- one run

module _ (space : Space) (is : IsSpace space) (g m : ℕ) (run : IsHeldRun space.owners g m) where
  bytes_inside : 4096 * g + 4096 * m ≤ length space.bytes
  bytes_inside = omega (arith, run.inside, is.whole)

  pub given_long : length (with_given space g m).owners ≡ length space.owners
  given_long = length-with_run space.owners g m None run.inside

  pub given_space : IsSpace (with_given space g m)
  given_space = record { whole = omega (arith, length-with_run space.bytes (4096 * g) (4096 * m) 0 bytes_inside, given_long, is.whole); small = omega (arith, given_long, is.small) }

  pub given_kept : (f n : ℕ) → IsHeldRun space.owners f n → ¬ (f ≡ g) → IsHeldRun (with_given space g m).owners f n × SameAt space.bytes (with_given space g m).bytes (4096 * f) (4096 * n)
  given_kept f n one differ =
      let apart = held_apart space.owners f n one g m run differ in (
        held_kept space.owners f n one g m None run.inside apart,
        λ at low high. elim apart [
          | inl before ↦ get_or-with_run_below space.bytes (4096 * g) (4096 * m) at 0 0 bytes_inside (omega arith)
          | inr behind ↦ get_or-with_run_above space.bytes (4096 * g) (4096 * m) at 0 0 bytes_inside (omega arith)
        ],
      )

  pub given_held : (runs : List (ℕ × ℕ)) → AllHeld space runs → IsOther g runs → AllHeld (with_given space g m) runs
  given_held [] held other = tt
  given_held (r ∷ rest) held other = ((given_kept r.0 r.1 held.0 (λ e. other.0 (sym e))).0, given_held rest held.1 other.1)

-- ---- all of them

pub givable : (runs : List (ℕ × ℕ)) (space : Space) → IsSpace space → AllHeld space runs → AreDistinct runs → AreGivable runs space
givable [] space is held distinct = tt
givable (r ∷ rest) space is held distinct =
    (held.0, givable rest (with_given space r.0 r.1) (given_space space is r.0 r.1 held.0) (given_held space is r.0 r.1 held.0 rest held.1 distinct.0) distinct.1)

abbrev pub slabs_of : List (ℕ × ℕ) → ℕ
slabs_of runs = sum_by (λ (run : ℕ × ℕ). run.1) runs

pub record AllGiven (runs : List (ℕ × ℕ)) (old new : Space) : Type 0 where
  pub space : IsSpace new
  pub long : length new.owners ≡ length old.owners
  pub counted : free_count new.owners ≡ free_count old.owners + slabs_of runs
  pub kept : (f n : ℕ) → IsHeldRun old.owners f n → IsOther f runs → IsHeldRun new.owners f n × SameAt old.bytes new.bytes (4096 * f) (4096 * n)

pub all_given : (runs : List (ℕ × ℕ)) (space : Space) → IsSpace space → AreGivable runs space → AllGiven runs space (given_all runs space)
all_given [] space is able = record { space = is; long = refl; counted = omega arith; kept = λ f n held other. (held, λ at low high. refl) }
all_given (r ∷ rest) space is able =
    let next = with_given space r.0 r.1 in
    let all = all_given rest next (given_space space is r.0 r.1 able.0) able.1 in
    record {
      space = all.space;
      long = all.long ∙ given_long space is r.0 r.1 able.0;
      counted = omega (arith, all.counted, free_count_given space.owners r.0 r.1 able.0, sum_by-cons (λ (run : ℕ × ℕ). run.1) r rest);
      kept = λ f n held other.
          let one = given_kept space is r.0 r.1 able.0 f n held other.0 in
          let more = all.kept f n one.0 other.1 in
          (more.0, λ at low high. more.1 at low high ∙ one.1 at low high);
    }
