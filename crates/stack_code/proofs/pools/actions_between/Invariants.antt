use Rattle.std.proofs.Common.{◌≡◌, map, drop}
use Rattle.pool_ir.specs.States.{actions_from}
use Rattle.pool_ir.specs.Views.{edge_of}
use Rattle.stack_code.proofs.pools.actions_between.Given as goal

-- the edge is none of those before
abbrev pub invariant-loop-edge : goal.invariant-loop-edge
invariant-loop-edge l =
    actions_from (map edge_of (drop l.edge-index l.function.edges.items)) l.from l.to ≡ actions_from (map edge_of l.function.edges.items) l.from l.to
