use Rattle.std.proofs.Common.{◌≤◌, length, sym, ap, subst, arith}
use Rattle.std.proofs.lemmas.Option.{slice_get-get_or}
use Rattle.heap_graph.specs.Marks.{IsNodeOf}
use Rattle.heap_graph.specs.Edges.{LeadsTo, Grows}
use Rattle.heap_graph.proofs.Adding.{IsAmongFirst}
use Rattle.heap_graph.proofs.Coming.{edge_target, edge_to, leads_from_place, place_from_leads}
use Rattle.heap_graph.proofs.Growing.{grows_none, grows_more, grows_same}
use Rattle.heap_graph.proofs.search.Search.follow.Goals as goal

pub loop-edge-init : goal.loop-edge-init
loop-edge-init c = grows_none c.args.self.now (edge_to c.deref-edge-items.result.now)

pub loop-edge-preserved : goal.loop-edge-preserved
loop-edge-preserved c =
    let edges = c.deref-edge-items.result.now in
    let at = c.loop-edge.edge-index in
    grows_more c.args.self.now c.loop-edge.self c.come_to.new.self (edge_to edges) at c.loop-edge.invariant
    (subst (λ e. Grows c.loop-edge.self c.come_to.new.self (IsNodeOf (edge_target e))) (sym (slice_get-get_or edges at _ c.loop-edge-test.true)) c.in_ok-come_to.ensures)

pub returns : goal.returns
returns c =
    let nodes = c.args.graph.now.nodes.items in
    let number = c.args.number in
    let node = c.in-Some.node.now in
    let grows = subst (λ l. Grows c.args.self.now c.loop-edge.self (IsAmongFirst c.loop-edge.edge-index (edge_to l))) c.deref-edge-items.ensures.value c.loop-edge.invariant in
    let long : length node.edges.items ≤ c.loop-edge.edge-index = omega (arith, c.loop-edge-test.false, ap length c.deref-edge-items.ensures.value) in
    grows_same c.args.self.now c.loop-edge.self (IsAmongFirst c.loop-edge.edge-index (edge_to node.edges.items)) (LeadsTo nodes number)
    (leads_from_place nodes number node c.in-Some.ensures c.loop-edge.edge-index) (λ other. place_from_leads nodes number node c.in-Some.ensures c.loop-edge.edge-index other long) grows
