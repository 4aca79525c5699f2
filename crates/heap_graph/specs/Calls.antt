-- What the calls of a function ask of its graph.
use Rattle.std.specs.Prelude.{Bool, true, ◌&&◌, List, [], ◌∷◌, length}
use Rattle.tac_ir.specs.Code as O
use Rattle.tac_ir.specs.Code.{Op}
use Rattle.tac_ir.specs.States.{Owner}
use Rattle.heap_graph.specs.Closed.{Family, call_closed}

module _ (family : Family) (owner : Owner) where
  -- what a point asks that is a call
  abbrev pub call_point_closed : Op → Bool
  call_point_closed (O.Call site callee arguments) = call_closed family owner (length family.tac.functions) site callee arguments
  call_point_closed op = true

  abbrev pub calls_closed : List Op → Bool
  calls_closed [] = true
  calls_closed (op ∷ ops) = call_point_closed op && calls_closed ops
