use Rattle.std.proofs.Common.{◌≡◌, map, take}
use Rattle.pool_ir.specs.Views.{edge_of}
use Rattle.pool_rewrite.proofs.functions.copied_edges.Given as goal

-- the edges before the index
abbrev pub invariant-loop-edge : goal.invariant-loop-edge
invariant-loop-edge l = map edge_of l.copy.items ≡ map edge_of (take l.edge-index l.edges)
