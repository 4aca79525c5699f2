-- Runs of slabs that are given back one after another, each as its first slab and the number of its slabs.
use Rattle.std.specs.Prelude.{ℕ, List, [], ◌∷◌, ◌++◌, ⊤, map}
use Rattle.slab_space.specs.Runs.{need, IsHeldRun}
use Rattle.slab_space.specs.Space.{Space, with_given}
use Rattle.pool_runtime.specs.declared.cells.Cells.{Cells}
use Rattle.pool_runtime.specs.declared.pool.Pool.{Pool}

-- the space once all of them were given back
abbrev pub given_all : List (ℕ × ℕ) → Space → Space
given_all [] space = space
given_all (run ∷ rest) space = given_all rest (with_given space run.0 run.1)

-- each is held when its turn comes
abbrev pub AreGivable : List (ℕ × ℕ) → Space → Type 0
AreGivable [] space = ⊤
AreGivable (run ∷ rest) space = IsHeldRun space.owners run.0 run.1 × AreGivable rest (with_given space run.0 run.1)

-- runs of the same number of slabs
abbrev pub runs_of : ℕ → List ℕ → List (ℕ × ℕ)
runs_of count firsts = map (λ first. (first, count)) firsts

-- the runs that hold the cells of these classes
abbrev pub class_runs : List Cells → List (ℕ × ℕ)
class_runs [] = []
class_runs (c ∷ rest) = runs_of (need c.size) c.runs.items ++ class_runs rest

-- the runs that hold these large objects
abbrev pub large_runs : List (ℕ × ℕ) → List (ℕ × ℕ)
large_runs entries = map (λ (e : ℕ × ℕ). (e.0, need e.1)) entries

-- all runs of a pool
abbrev pub pool_runs : Pool → List (ℕ × ℕ)
pool_runs pool = class_runs pool.classes.items ++ large_runs pool.large.entries
