-- Cells, which hold targets, and how they are changed.
use Rattle.std.specs.Prelude.{ℕ, zero, suc, ◌+◌, ◌-◌, ◌^◌, min, ◌==◌, Bool, true, false, if◌then◌else◌, List, [], ◌∷◌}
use Rattle.heap_graph.specs.declared.graph.Target as memory_target

-- where a target is once a node lies in another, behind so many of its slots
abbrev pub moved_cell : ℕ → ℕ → ℕ → memory_target.Target → memory_target.Target
moved_cell gone kept distance target = if target.node == gone then record { node = kept; shift = min (target.shift + distance) (2 ^ 64 - 1) } else target

-- where a target is once a node has one slot
abbrev pub flat_cell : ℕ → memory_target.Target → memory_target.Target
flat_cell node target = if target.node == node then record { node = node; shift = 0 } else target

-- one cell was changed
abbrev pub changed_at : (memory_target.Target → memory_target.Target) → ℕ → List memory_target.Target → List memory_target.Target
changed_at change number [] = []
changed_at change zero (target ∷ cells) = change target ∷ cells
changed_at change (suc number) (target ∷ cells) = target ∷ changed_at change number cells

-- some cells were changed, one after the other
abbrev pub changed_all : (memory_target.Target → memory_target.Target) → List ℕ → List memory_target.Target → List memory_target.Target
changed_all change [] cells = cells
changed_all change (number ∷ numbers) cells = changed_all change numbers (changed_at change number cells)

-- a number stands in a list
abbrev pub has_number : List ℕ → ℕ → Bool
has_number [] number = false
has_number (other ∷ numbers) number = if other == number then true else has_number numbers number
