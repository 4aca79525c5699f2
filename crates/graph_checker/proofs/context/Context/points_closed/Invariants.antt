use Rattle.std.proofs.Common.{◌≡◌, map, drop}
use Rattle.tac_ir.specs.Views.{op_in}
use Rattle.heap_graph.specs.Closed.{Family}
use Rattle.heap_graph.specs.Shows.{ShowsGraph, ShowsNames}
use Rattle.graph_checker.specs.Contexts.{code_of, owner_of}
use Rattle.heap_graph.specs.Plain.{plain_closed}
use Rattle.graph_checker.proofs.context.Context.points_closed.Given as goal

-- the points from the index on ask what all ask
abbrev pub invariant-loop-op : goal.invariant-loop-op
invariant-loop-op l =
    (family : Family) → ShowsGraph l.self.tac.now.types family (owner_of l.self) l.self.graph.now → ShowsNames family (owner_of l.self) l.self.names.now
    → plain_closed (code_of l.self) family (owner_of l.self) (map (op_in l.self.tac.now.types) (drop l.op-index l.points))
    ≡ plain_closed (code_of l.self) family (owner_of l.self) (map (op_in l.self.tac.now.types) l.points)
