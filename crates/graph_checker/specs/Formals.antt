-- Parameters that have targets.
use Rattle.std.specs.Prelude.{ℕ, suc, Bool, true, ◌&&◌, List, [], ◌∷◌, Option}
use Rattle.c_typed.specs.Types.{CType}
use Rattle.heap_graph.specs.Graphs.{Target}
use Rattle.heap_graph.specs.Targets.{has_target, implies}
use Rattle.heap_graph.specs.Points.{is_data_pointer}

-- from a number on, those that are pointers to an object or to void
abbrev pub have_targets : (ℕ → Option Target) → ℕ → List CType → Bool
have_targets targets number [] = true
have_targets targets number (c_type ∷ types) = implies (is_data_pointer c_type) (has_target (targets number)) && have_targets targets (suc number) types
