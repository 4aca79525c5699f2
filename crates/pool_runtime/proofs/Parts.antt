-- Cells and pools whose parts are equal.
use Rattle.std.proofs.Common.{◌≡◌, ℕ, List, Option, refl}
use Rattle.slab_space.specs.declared.kind.PoolKind.{PoolKind}
use Rattle.slab_space.specs.Pool.{Cells, Large, Pool}

abbrev cells_of : ℕ → List ℕ → List (Option (List ℕ)) → List ℕ → Cells
cells_of s rs cs fs = record { size = s; runs = rs; cells = cs; freed = fs }

pub same_cells : {s s' : ℕ} {rs rs' : List ℕ} {cs cs' : List (Option (List ℕ))} {fs fs' : List ℕ} → s ≡ s' → rs ≡ rs' → cs ≡ cs' → fs ≡ fs' → cells_of s rs cs fs ≡ cells_of s' rs' cs' fs'
same_cells es ers ecs efs = rw (es, ers, ecs, efs) refl

abbrev pool_of : PoolKind → List Cells → List Large → ℕ → Pool
pool_of k cs ls p = record { kind = k; classes = cs; large = ls; peak = p }

pub same_pool : {k k' : PoolKind} {cs cs' : List Cells} {ls ls' : List Large} {p p' : ℕ} → k ≡ k' → cs ≡ cs' → ls ≡ ls' → p ≡ p' → pool_of k cs ls p ≡ pool_of k' cs' ls' p'
same_pool ek ecs els ep = rw (ek, ecs, els, ep) refl
