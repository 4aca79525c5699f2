-- A run is taken at the lowest place where it fits: so the slabs that are held lie below the number of those that were asked
-- for so far.
use Rattle.std.proofs.Common.{◌≡◌, ℕ, zero, suc, ◌+◌, ◌-◌, ◌<◌, ◌≤◌, true, List, [], ◌∷◌, ◌++◌, Option, Some, None, length, take, drop, replicate, refl, sym, subst, ◌∙◌, inl, inr, arith, length-append, length-take, length-drop}
use Rattle.std.specs.Prelude.{if◌then◌else◌, option_map}
use Rattle.std.proofs.lemmas.Bool.{cases_lt}
use Rattle.std.proofs.lemmas.List.{length-replicate, get_or-replicate, get_or-take, get_or-drop, get_or_append_left, get_or-append_right, get_or_past}
use Rattle.slab_space.specs.Runs.{owner_at, with_run, free_front, lowest_run}
use Rattle.slab_space.proofs.WithRun.{length-with_run, get_or-with_run_above}
use Rattle.slab_space.proofs.LowestRun.{free_from_found}
use Rattle.slab_space.proofs.Peaks.{either}

-- all slabs from this one on are free
abbrev pub FreeFrom : ℕ → List (Option ℕ) → Type 0
FreeFrom used owners = (slab : ℕ) → used ≤ slab → owner_at owners slab ≡ None

-- there are so many slabs, and those that are held lie below `used`
pub record HeldBelow (limit used : ℕ) (owners : List (Option ℕ)) : Type 0 where
  pub all : limit ≤ length owners
  pub free : FreeFrom used owners

pub more_used : (limit used more : ℕ) (owners : List (Option ℕ)) → HeldBelow limit used owners → HeldBelow limit (used + more) owners
more_used limit used more owners so_far = record { all = so_far.all; free = λ slab from. so_far.free slab (omega (arith, from)) }

-- ---- giving back

module _ (limit used : ℕ) (owners : List (Option ℕ)) (first count : ℕ) where
  all_there : length owners ≤ length (with_run owners first count None)
  all_there = simp (length-append, length-take, length-replicate, length-drop) (omega arith)

  still_free : FreeFrom used owners → FreeFrom used (with_run owners first count None)
  still_free free slab from =
      let start = take first owners in let none : List (Option ℕ) = replicate count None in let back = drop (first + count) owners in
      let long = length-take first owners in let filled = length-replicate {A = Option ℕ} count None in let both = length-append start none in
      elim (cases_lt slab (length (start ++ none))) [
        | inl before ↦ get_or_append_left (start ++ none) back None slab before ∙ elim (cases_lt slab (length start)) [
          | inl low ↦ get_or_append_left start none None slab low ∙ (get_or-take first owners slab None (omega (arith, low, long)) ∙ free slab from)
          | inr within ↦ get_or-append_right start none (length start) slab None refl within
              ∙ get_or-replicate count (slab - length start) None None (omega (arith, before, both, filled, within))
        ]
        | inr above ↦ (
            let at = slab - length (start ++ none) in
            get_or-append_right (start ++ none) back (length (start ++ none)) slab None refl above ∙ (get_or-drop (first + count) owners at None
            ∙ elim (cases_lt (first + count + at) (length owners)) [
              | inl inside ↦ free (first + count + at) (omega (arith, inside, above, long, filled, both, from))
              | inr past ↦ get_or_past owners (first + count + at) None past
            ]))
      ]

  pub given_back : HeldBelow limit used owners → HeldBelow limit used (with_run owners first count None)
  given_back so_far = record { all = omega (arith, so_far.all, all_there); free = still_free so_far.free }

-- ---- taking

front_free : (count : ℕ) (owners : List (Option ℕ)) → FreeFrom 0 owners → count ≤ length owners → free_front count owners ≡ true
front_free zero owners free room = refl
front_free (suc count) [] free room = absurd (omega (arith, room))
front_free (suc count) (None ∷ rest) free room = front_free count rest (λ slab from. free (suc slab) (omega arith)) (omega (arith, room))
front_free (suc count) (Some owner ∷ rest) free room = let held : Some owner ≡ None = free 0 (omega arith) in absurd cc

-- a run was found, and no later than here
abbrev FoundBy : ℕ → Option ℕ → Type 0
FoundBy used None = ⊥
FoundBy used (Some first) = first ≤ used

one_further : (used : ℕ) (found : Option ℕ) → FoundBy used found → FoundBy (suc used) (option_map (λ first. suc first) found)
one_further used None by = by
one_further used (Some first) by = omega (arith, by)

found_by : (used count : ℕ) (owners : List (Option ℕ)) → FreeFrom used owners → 1 ≤ length owners → used + count ≤ length owners → FoundBy used (lowest_run owners count)
found_by used count [] free some room = absurd (omega (arith, some))
found_by used zero (owner ∷ rest) free some room = omega arith
found_by zero (suc count) (owner ∷ rest) free some room =
    subst (λ b. FoundBy 0 (if b then Some 0 else option_map (λ first. suc first) (lowest_run rest (suc count))))
    (sym (front_free (suc count) (owner ∷ rest) free (omega (arith, room)))) (omega arith)
found_by (suc used) (suc count) (owner ∷ rest) free some room =
    either (FoundBy (suc used)) (free_front (suc count) (owner ∷ rest)) (Some 0) (option_map (λ first. suc first) (lowest_run rest (suc count))) (λ e. omega arith)
    (λ e. one_further used (lowest_run rest (suc count)) (found_by used (suc count) rest (λ slab from. free (suc slab) (omega (arith, from))) (omega (arith, room)) (omega (arith, room))))

module _ (limit used more count : ℕ) (owners : List (Option ℕ)) (so_far : HeldBelow limit used owners) (enough : count ≤ more) (some : 1 ≤ more) where
  -- where no run is found, more was asked for than there is
  pub too_many : lowest_run owners count ≡ None → limit < used + more
  too_many none =
      elim (cases_lt (length owners) (used + count)) [
        | inl short ↦ omega (arith, short, so_far.all, enough)
        | inr room ↦ elim (cases_lt 0 (length owners)) [
          | inl slabs ↦ absurd (subst (FoundBy used) none (found_by used count owners so_far.free slabs room))
          | inr empty ↦ omega (arith, empty, so_far.all, some)
        ]
      ]

  ends_by : (first : ℕ) → first + count ≤ length owners → lowest_run owners count ≡ Some first → first + count ≤ used + more
  ends_by first inside found =
      elim (cases_lt (length owners) (used + count)) [
        | inl short ↦ omega (arith, short, inside, enough)
        | inr room ↦ elim (cases_lt 0 (length owners)) [
          | inl slabs ↦ (let early = subst (FoundBy used) found (found_by used count owners so_far.free slabs room) in omega (arith, early, enough))
          | inr empty ↦ omega (arith, empty, inside)
        ]
      ]

  pub taken_low : (first : ℕ) → lowest_run owners count ≡ Some first → HeldBelow limit (used + more) (with_run owners first count (Some first))
  taken_low first found =
      let inside = (free_from_found owners count first found).inside in
      record {
        all = omega (arith, so_far.all, length-with_run owners first count (Some first) inside);
        free = λ slab from. get_or-with_run_above owners first count slab (Some first) None inside (omega (arith, from, ends_by first inside found)) ∙ so_far.free slab (omega (arith, from));
      }
