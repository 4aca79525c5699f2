-- Slabs one after another, each free or held. The owner of a held slab is the first slab of the run that it was taken in.
use Rattle.std.specs.Prelude.{◌≡◌, ℕ, zero, suc, ◌+◌, ◌/◌, ◌<◌, ◌≤◌, Bool, true, false, if◌then◌else◌, List, [], ◌∷◌, ◌++◌, length, take, drop, replicate, slice_index_or, option_map, Option, Some, None}

-- the slabs that so many bytes need
abbrev pub need : ℕ → ℕ
need bytes = (bytes + 4095) / 4096

-- the owner of a slab; none where it is free
abbrev pub owner_at : List (Option ℕ) → ℕ → Option ℕ
owner_at owners slab = slice_index_or owners slab None

-- how many slabs are free
abbrev pub free_count : List (Option ℕ) → ℕ
free_count [] = 0
free_count (None ∷ rest) = 1 + free_count rest
free_count (Some owner ∷ rest) = free_count rest

-- these slabs are there and free
pub record IsFreeRun (owners : List (Option ℕ)) (first count : ℕ) : Type 0 where
  pub inside : first + count ≤ length owners
  pub free : (slab : ℕ) → first ≤ slab → slab < first + count → owner_at owners slab ≡ None

-- these slabs are there and held in the run that begins with the first of them
pub record IsHeldRun (owners : List (Option ℕ)) (first count : ℕ) : Type 0 where
  pub some : 1 ≤ count
  pub inside : first + count ≤ length owners
  pub held : (slab : ℕ) → first ≤ slab → slab < first + count → owner_at owners slab ≡ Some first

-- no so many adjacent slabs are free
abbrev pub Full : List (Option ℕ) → ℕ → Type 0
Full owners count = (first : ℕ) → ¬ IsFreeRun owners first count

-- the lowest so many adjacent free slabs begin with this one
pub record IsLowestRun (owners : List (Option ℕ)) (count first : ℕ) : Type 0 where
  pub free : IsFreeRun owners first count
  pub lowest : (lower : ℕ) → lower < first → ¬ IsFreeRun owners lower count

-- a list after `count` elements from `first` on were each made `x`
abbrev pub with_run : {X : Type 0} → List X → ℕ → ℕ → X → List X
with_run xs first count x = take first xs ++ replicate count x ++ drop (first + count) xs

-- the first so many slabs are there and free
abbrev pub free_front : ℕ → List (Option ℕ) → Bool
free_front zero owners = true
free_front (suc count) [] = false
free_front (suc count) (None ∷ rest) = free_front count rest
free_front (suc count) (Some owner ∷ rest) = false

-- the first of the lowest so many adjacent free slabs, if there are any
abbrev pub lowest_run : List (Option ℕ) → ℕ → Option ℕ
lowest_run [] count = None
lowest_run (owner ∷ rest) count = if free_front count (owner ∷ rest) then Some 0 else option_map (λ first. suc first) (lowest_run rest count)
