-- The lowest run that is found is the one that the function tells, and none where the space is full.
use Rattle.std.proofs.Common.{◌≡◌, ℕ, zero, suc, ◌+◌, ◌<◌, ◌≤◌, Bool, true, false, List, [], ◌∷◌, Option, Some, None, refl, sym, subst, ◌∙◌, arith}
use Rattle.std.specs.Prelude.{if◌then◌else◌, option_map}
use Rattle.slab_space.specs.Runs.{owner_at, free_front, lowest_run, IsFreeRun, IsLowestRun, Full}

-- a run behind the first slab
run_behind : (owner : Option ℕ) (rest : List (Option ℕ)) (first count : ℕ) → IsFreeRun (owner ∷ rest) (suc first) count → IsFreeRun rest first count
run_behind owner rest first count run = record { inside = omega (arith, run.inside); free = λ slab low high. run.free (suc slab) (omega arith) (omega arith) }

free_behind : (owner : Option ℕ) (rest : List (Option ℕ)) (first count : ℕ) → IsFreeRun rest first count → (slab : ℕ) → suc first ≤ slab → slab < suc first + count → owner_at (owner ∷ rest) slab ≡ None
free_behind owner rest first count run zero low high = absurd (omega arith)
free_behind owner rest first count run (suc slab) low high = run.free slab (omega arith) (omega arith)

run_pushed : (owner : Option ℕ) (rest : List (Option ℕ)) (first count : ℕ) → IsFreeRun rest first count → IsFreeRun (owner ∷ rest) (suc first) count
run_pushed owner rest first count run = record { inside = omega (arith, run.inside); free = free_behind owner rest first count run }

front_behind : (owner : Option ℕ) (rest : List (Option ℕ)) (count : ℕ) → IsFreeRun (owner ∷ rest) 0 (suc count) → IsFreeRun rest 0 count
front_behind owner rest count run = record { inside = omega (arith, run.inside); free = λ slab low high. run.free (suc slab) (omega arith) (omega arith) }

front_of : (count : ℕ) (owners : List (Option ℕ)) → IsFreeRun owners 0 count → free_front count owners ≡ true
front_of zero owners run = refl
front_of (suc count) [] run = absurd (omega (arith, run.inside))
front_of (suc count) (None ∷ rest) run = front_of count rest (front_behind None rest count run)
front_of (suc count) (Some owner ∷ rest) run = let held : Some owner ≡ None = run.free 0 (omega arith) (omega arith) in cc

free_pushed : (rest : List (Option ℕ)) (count : ℕ) → IsFreeRun rest 0 count → (slab : ℕ) → 0 ≤ slab → slab < 0 + suc count → owner_at (None ∷ rest) slab ≡ None
free_pushed rest count run zero low high = refl
free_pushed rest count run (suc slab) low high = run.free slab (omega arith) (omega arith)

run_of : (count : ℕ) (owners : List (Option ℕ)) → free_front count owners ≡ true → IsFreeRun owners 0 count
run_of zero owners e = record { inside = omega arith; free = λ slab low high. absurd (omega arith) }
run_of (suc count) [] e = cc
run_of (suc count) (None ∷ rest) e = let run = run_of count rest e in record { inside = omega (arith, run.inside); free = free_pushed rest count run }
run_of (suc count) (Some owner ∷ rest) e = cc

-- no run begins with the first slab
no_front : (count : ℕ) (owners : List (Option ℕ)) (b : Bool) → free_front count owners ≡ b → ¬ IsFreeRun owners 0 count → b ≡ false
no_front count owners true e none = absurd (none (run_of count owners e))
no_front count owners false e none = refl

pub lowest_run_found : (owners : List (Option ℕ)) (count first : ℕ) → 1 ≤ count → IsLowestRun owners count first → lowest_run owners count ≡ Some first
lowest_run_found [] count first some run = absurd (omega (arith, run.free.inside))
lowest_run_found (owner ∷ rest) count zero some run = rw (front_of count (owner ∷ rest) run.free) refl
lowest_run_found (owner ∷ rest) count (suc first) some run =
    let behind : IsLowestRun rest count first = record {
      free = run_behind owner rest first count run.free;
      lowest = λ lower below here. run.lowest (suc lower) (omega arith) (run_pushed owner rest lower count here);
    } in
    rw (no_front count (owner ∷ rest) (free_front count (owner ∷ rest)) refl (run.lowest 0 (omega arith)), lowest_run_found rest count first some behind) refl

pub lowest_run_full : (owners : List (Option ℕ)) (count : ℕ) → Full owners count → lowest_run owners count ≡ None
lowest_run_full [] count full = refl
lowest_run_full (owner ∷ rest) count full =
    let behind : Full rest count = λ first run. full (suc first) (run_pushed owner rest first count run) in
    rw (no_front count (owner ∷ rest) (free_front count (owner ∷ rest)) refl (full 0), lowest_run_full rest count behind) refl

no_run : (owner : Option ℕ) (rest : List (Option ℕ)) (count : ℕ) → free_front count (owner ∷ rest) ≡ false → Full rest count → (first : ℕ) → ¬ IsFreeRun (owner ∷ rest) first count
no_run owner rest count none full zero run = let both = sym none ∙ front_of count (owner ∷ rest) run in absurd cc
no_run owner rest count none full (suc first) run = full first (run_behind owner rest first count run)

none_behind : (o : Option ℕ) → option_map (λ first. suc first) o ≡ None → o ≡ None
none_behind None e = refl
none_behind (Some first) e = absurd cc

by_front : (owner : Option ℕ) (rest : List (Option ℕ)) (count : ℕ) (b : Bool) → (lowest_run rest count ≡ None → Full rest count) → free_front count (owner ∷ rest) ≡ b
    → (if b then Some 0 else option_map (λ first. suc first) (lowest_run rest count)) ≡ None → Full (owner ∷ rest) count
by_front owner rest count true behind f e = absurd cc
by_front owner rest count false behind f e = no_run owner rest count f (behind (none_behind (lowest_run rest count) e))

-- where none is found the space is full
pub full_from_none : (owners : List (Option ℕ)) (count : ℕ) → 1 ≤ count → lowest_run owners count ≡ None → Full owners count
full_from_none [] count some e = λ first run. absurd (omega (arith, run.inside))
full_from_none (owner ∷ rest) count some e = by_front owner rest count (free_front count (owner ∷ rest)) (full_from_none rest count some) refl e

found_front : (owner : Option ℕ) (rest : List (Option ℕ)) (count first : ℕ) (b : Bool) (o : Option ℕ) → free_front count (owner ∷ rest) ≡ b → ((f : ℕ) → o ≡ Some f → IsFreeRun rest f count)
    → (if b then Some 0 else option_map (λ f. suc f) o) ≡ Some first → IsFreeRun (owner ∷ rest) first count
found_front owner rest count first true o front behind e = subst (λ f. IsFreeRun (owner ∷ rest) f count) (let is : 0 ≡ first = cc in is) (run_of count (owner ∷ rest) front)
found_front owner rest count first false None front behind e = absurd cc
found_front owner rest count first false (Some f) front behind e = subst (λ g. IsFreeRun (owner ∷ rest) g count) (let is : suc f ≡ first = cc in is) (run_pushed owner rest f count (behind f refl))

-- the run that is found is free
pub free_from_found : (owners : List (Option ℕ)) (count first : ℕ) → lowest_run owners count ≡ Some first → IsFreeRun owners first count
free_from_found [] count first e = absurd cc
free_from_found (owner ∷ rest) count first e = found_front owner rest count first (free_front count (owner ∷ rest)) (lowest_run rest count) refl (λ f at. free_from_found rest count f at) e
