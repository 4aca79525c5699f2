-- A pool as plain data: its cells, numbered from 1 in the order in which they were made, and its large objects.
use Rattle.std.specs.Prelude.{◌≡◌, ◌≤◌, ⊤, ℕ, zero, suc, ◌+◌, ◌-◌, ◌*◌, ◌/◌, ◌%◌, ◌^◌, ◌==◌, Bool, ◌||◌, ◌&&◌, nat_lt, nat_le, max, if◌then◌else◌, List, [], ◌∷◌, ◌++◌, length, map, sum_by, position, slice_get, slice_index, slice_index_or, slice_set, Option, Some, None, is_some}
use Rattle.std.specs.List.{flat_map}
use Rattle.run_theory.specs.Words.{zeros}
use Rattle.slab_space.specs.declared.kind.PoolKind.{PoolKind}
use Rattle.slab_space.specs.declared.kind.PoolKind.TheVariants.{Homogeneous, Mixed}
use Rattle.slab_space.specs.Runs.{need, with_run}

-- the address of a slab's first byte
abbrev pub slab_address : ℕ → ℕ
slab_address slab = 2 ^ 44 + 4096 * slab

-- cells of one size: the first slabs of the runs that hold them, in the order in which these were taken; for each cell
-- made its bytes, or none where it is freed; and the numbers of the freed cells, the last one freed first
pub record Cells : Type 0 where
  pub size : ℕ
  pub runs : List ℕ
  pub cells : List (Option (List ℕ))
  pub freed : List ℕ

-- an object beyond the classes: the first slab of its run, and its bytes
pub record Large : Type 0 where
  pub first : ℕ
  pub bytes : List ℕ

-- a pool: one kind of cells where it is homogeneous, one for each class where it is mixed; its large objects by their
-- slabs; and the most cells and objects that lived in it at once
pub record Pool : Type 0 where
  pub kind : PoolKind
  pub classes : List Cells
  pub large : List Large
  pub peak : ℕ

-- a live cell or object: its address and its bytes
pub record Object : Type 0 where
  pub start : ℕ
  pub bytes : List ℕ

-- ---- cells

-- no cells of this size yet
abbrev pub no_cells : ℕ → Cells
no_cells size = record { size = size; runs = []; cells = []; freed = [] }

-- the cells in a run of `need size` slabs
abbrev pub cells_per_run : ℕ → ℕ
cells_per_run size = max 1 (4096 / size)

-- the address of cell `number`
abbrev pub cell_address : Cells → ℕ → ℕ
cell_address c number =
    slab_address (slice_index c.runs ((number - 1) / cells_per_run c.size)) + c.size * ((number - 1) % cells_per_run c.size)

abbrev pub made_in : Cells → ℕ
made_in c = length c.cells

-- the live ones of these cells, which are numbered from `number` on
abbrev pub live_from : Cells → ℕ → List (Option (List ℕ)) → List Object
live_from c number [] = []
live_from c number (None ∷ rest) = live_from c (suc number) rest
live_from c number (Some bytes ∷ rest) = record { start = cell_address c number; bytes = bytes } ∷ live_from c (suc number) rest

abbrev pub live_cells : Cells → List Object
live_cells c = live_from c 1 c.cells

-- the number of the cell at an address, among the first so many; 0 where there is none
abbrev pub number_at : Cells → ℕ → ℕ → ℕ
number_at c zero address = 0
number_at c (suc made) address = if cell_address c (suc made) == address then suc made else number_at c made address

-- the cells after another one has become live: the last one freed, or the next one made
abbrev pub with_next : Cells → List ℕ → Cells
with_next c [] = record c { cells = c.cells ++ Some (zeros c.size) ∷ [] }
with_next c (number ∷ rest) = record c { cells = slice_set c.cells (number - 1) (Some (zeros c.size)); freed = rest }

-- the number of that cell
abbrev pub next_number : Cells → List ℕ → ℕ
next_number c [] = made_in c + 1
next_number c (number ∷ rest) = number

-- a cell is there for the next allocation in a slab that is held
abbrev pub has_room : Cells → Bool
has_room c = is_some (slice_get c.freed 0) || nat_lt (made_in c) (length c.runs * cells_per_run c.size)

abbrev pub with_freed : Cells → ℕ → Cells
with_freed c number = record c { cells = slice_set c.cells (number - 1) None; freed = number ∷ c.freed }

abbrev pub is_live : Cells → ℕ → Bool
is_live c number = is_some (slice_index_or c.cells (number - 1) None)

-- ---- large objects, in the order of their slabs

abbrev pub large_object : Large → Object
large_object l = record { start = slab_address l.first; bytes = l.bytes }

abbrev pub with_large : ℕ → List ℕ → List Large → List Large
with_large first bytes [] = record { first = first; bytes = bytes } ∷ []
with_large first bytes (l ∷ rest) = if nat_lt first l.first then record { first = first; bytes = bytes } ∷ l ∷ rest else l ∷ with_large first bytes rest

abbrev pub large_at : ℕ → List Large → Option Large
large_at address [] = None
large_at address (l ∷ rest) = if slab_address l.first == address then Some l else large_at address rest

abbrev pub without_large : ℕ → List Large → List Large
without_large address [] = []
without_large address (l ∷ rest) = if slab_address l.first == address then rest else l ∷ without_large address rest

-- ---- pools

-- the kinds that a pool may be made of
abbrev pub IsKind : PoolKind → Type 0
IsKind (Homogeneous source cell indexed) = (1 ≤ source) × (source ≤ 1048576) × (4 ≤ cell) × (cell ≤ 1048576) × (cell % 4 ≡ 0)
IsKind Mixed = ⊤

-- a new pool
abbrev pub classes_of : PoolKind → List Cells
classes_of (Homogeneous source cell indexed) = no_cells cell ∷ []
classes_of Mixed = map no_cells (16 ∷ 32 ∷ 64 ∷ 128 ∷ 256 ∷ 512 ∷ 1024 ∷ 2048 ∷ [])

abbrev pub new_pool : PoolKind → Pool
new_pool kind = record { kind = kind; classes = classes_of kind; large = []; peak = 0 }

-- the class that an object of so many bytes goes to: the one kind of cells, or the least class that holds it; none where
-- it is large
abbrev pub class_for : PoolKind → List Cells → ℕ → Option ℕ
class_for (Homogeneous source cell indexed) classes bytes = Some 0
class_for Mixed classes bytes = position (λ c. nat_le bytes c.size) classes

-- the cells and objects that live in a pool
abbrev pub objects_in : Pool → List Object
objects_in pool = flat_map live_cells pool.classes ++ map large_object pool.large

abbrev pub live_in : Pool → ℕ
live_in pool = length (objects_in pool)

-- the slabs that a pool holds
abbrev pub slabs_in : Pool → ℕ
slabs_in pool = sum_by (λ c. need c.size * length c.runs) pool.classes + sum_by (λ l. need (length l.bytes)) pool.large

-- the pool with its peak as it is now
abbrev pub with_peak : Pool → Pool
with_peak pool = record pool { peak = max pool.peak (live_in pool) }

-- the owners once all slabs of a pool were given back
abbrev pub given_runs : ℕ → List ℕ → List (Option ℕ) → List (Option ℕ)
given_runs count [] owners = owners
given_runs count (first ∷ rest) owners = given_runs count rest (with_run owners first count None)

abbrev pub given_classes : List Cells → List (Option ℕ) → List (Option ℕ)
given_classes [] owners = owners
given_classes (c ∷ rest) owners = given_classes rest (given_runs (need c.size) c.runs owners)

abbrev pub given_large : List Large → List (Option ℕ) → List (Option ℕ)
given_large [] owners = owners
given_large (l ∷ rest) owners = given_large rest (with_run owners l.first (need (length l.bytes)) None)

abbrev pub given_pool : Pool → List (Option ℕ) → List (Option ℕ)
given_pool pool owners = given_large pool.large (given_classes pool.classes owners)

-- ---- the numbers of cells

-- cells are told by number in a homogeneous pool alone
abbrev pub numbered : PoolKind → List Cells → Option Cells
numbered (Homogeneous source cell indexed) classes = slice_get classes 0
numbered Mixed classes = None

-- 0 for a cell that was not made
abbrev pub address_in : Option Cells → ℕ → ℕ
address_in None number = 0
address_in (Some c) number = if nat_lt 0 number && nat_le number (made_in c) then cell_address c number else 0

-- 0 where no made cell begins
abbrev pub number_in : Option Cells → ℕ → ℕ
number_in None address = 0
number_in (Some c) address = number_at c (made_in c) address
