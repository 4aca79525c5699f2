-- Where pointers are stored, below a bound.
use Rattle.std.specs.Prelude.{◌≡◌, ℕ, ◌<◌, Option, Some, None}
use Rattle.tac_ir.specs.Code as O
use Rattle.tac_ir.specs.Code.{Op, Tac}
use Rattle.tac_ir.specs.States.{Owner}
use Rattle.heap_graph.specs.Graphs.{Target, Graph}
use Rattle.heap_graph.specs.Points.{path_part}

module _ (tac : Tac) (graph : Graph) (owner : Owner) where
  -- where a point stores
  abbrev pub stored_at : Op → Option Target
  stored_at (O.Store path scalar value) = (path_part tac graph owner path).target
  stored_at op = None

-- its slot is below the bound
abbrev pub PathWithin : ℕ → Tac → Graph → Owner → Op → Type 0
PathWithin bound tac graph owner op = (target : Target) → stored_at tac graph owner op ≡ Some target → target.shift < bound
