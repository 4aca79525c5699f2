use Rattle.std.proofs.Common.{◌≡◌, drop}
use Rattle.graph_unification.specs.Memory.{made_edge}
use Rattle.graph_unification.proofs.nodes.edge_of.Given as goal

abbrev pub invariant-loop-edge : goal.invariant-loop-edge
invariant-loop-edge l = made_edge l.edges l.slot ≡ made_edge (drop l.edge-index l.edges) l.slot
