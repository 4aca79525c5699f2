use Rattle.std.proofs.Common.{take}
use Rattle.call_graph.specs.Rows.{AreRows}
use Rattle.call_graph.proofs.row_lists.rows.Given as goal

-- those of the edges so far
abbrev pub invariant-loop-edge : goal.invariant-loop-edge
invariant-loop-edge l = AreRows l.nodes (take l.edge-index l.edges) l.rows
