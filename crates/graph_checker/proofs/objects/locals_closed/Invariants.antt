use Rattle.std.proofs.Common.{◌≡◌, map, drop}
use Rattle.tac_ir.specs.States.{Owner}
use Rattle.tac_ir.specs.Views.{object_in}
use Rattle.heap_graph.specs.Closed.{Family, locals_closed}
use Rattle.heap_graph.specs.Shows.{ShowsGraph, ShowsNames}
use Rattle.graph_checker.proofs.objects.locals_closed.Given as goal

-- the objects from the index on are closed just where all are
abbrev pub invariant-loop-object : goal.invariant-loop-object
invariant-loop-object l = (family : Family) (owner : Owner) → ShowsGraph l.types family owner l.graph → ShowsNames family owner l.names
    → locals_closed family owner (map (object_in l.types) (drop l.object-index l.objects)) ≡ locals_closed family owner (map (object_in l.types) l.objects)
