use Rattle.std.proofs.Common.{ℕ, ◌+◌, List, take, get_or, refl, subst, arith}
use Rattle.call_graph.specs.Rows.{AreRows}
use Rattle.call_graph.proofs.RowLists.{read_take, take_all}
use Rattle.call_graph.proofs.AddedEdges.{no_edges, edge_more}
use Rattle.call_graph.proofs.row_lists.rows.Goals as goal

pub loop-edge-init : goal.loop-edge-init
loop-edge-init c = no_edges c.args.nodes _ c.in_ok-rows.ensures

pub loop-edge-preserved : goal.loop-edge-preserved
loop-edge-preserved c =
    let edges = c.args.edges.now in
    let i = c.loop-edge.edge-index in
    edge_more c.args.nodes (take i edges) (take (i + 1) edges) (get_or edges i (0, 0)) c.loop-edge.rows c.add_edge.new.rows c.loop-edge.invariant c.in_ok-add_edge.ensures
    (read_take edges i (i + 1) (get_or edges i (0, 0)) (0, 0) refl (omega arith) refl)

pub returns : goal.returns
returns c = subst (λ (l : List (ℕ × ℕ)). AreRows c.args.nodes l c.loop-edge.rows) (take_all c.loop-edge.edge-index c.args.edges.now (omega arith)) c.loop-edge.invariant
