-- What the points of a function ask of its graph that are no calls.
use Rattle.std.specs.Prelude.{Bool, true, ◌&&◌, List, [], ◌∷◌}
use Rattle.tac_ir.specs.Code.{Op, Tac}
use Rattle.tac_ir.specs.States.{Owner}
use Rattle.heap_graph.specs.Points.{point_closed}
use Rattle.heap_graph.specs.Closed.{Family, graph_of, mentions_closed}

module _ (tac : Tac) (family : Family) (owner : Owner) where
  -- what its path begins with is mentioned, and what it asks of the function's own graph is kept; a call asks nothing here
  abbrev pub plain_point_closed : Op → Bool
  plain_point_closed op = mentions_closed family owner op && point_closed tac (graph_of family owner) owner op

  abbrev pub plain_closed : List Op → Bool
  plain_closed [] = true
  plain_closed (op ∷ ops) = plain_point_closed op && plain_closed ops
