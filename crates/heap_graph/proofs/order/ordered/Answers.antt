use Rattle.std.proofs.Common.{arith}
use Rattle.heap_graph.proofs.NodesInOrder.Searching.{search_begins, search_goes_on, search_shrinks, search_ends}
use Rattle.heap_graph.proofs.order.ordered.Goals as goal

pub loop-node-init : goal.loop-node-init
loop-node-init c = search_begins c.args.graph.now.nodes.items c.args.starts.now c.in_ok-made.made c.in_ok-pending.pending.items c.in_ok-made.ensures.order c.in_ok-made.ensures.numbers c.in_ok-pending.ensures

pub loop-node-smaller : goal.loop-node-smaller
loop-node-smaller c = search_shrinks c.args.graph.now.nodes.items c.args.starts.now c.in-Some.node c.loop-node.made c.go_on.new.self c.loop-node.pending.items c.pop.new.self.items c.go_on.new.pending.items c.loop-node.invariant c.in-Some.ensures.items c.in_ok-go_on.ensures

pub loop-node-preserved : goal.loop-node-preserved
loop-node-preserved c = search_goes_on c.args.graph.now.nodes.items c.args.starts.now c.in-Some.node c.loop-node.made c.go_on.new.self c.loop-node.pending.items c.pop.new.self.items c.go_on.new.pending.items c.loop-node.invariant c.in-Some.ensures.items c.in_ok-go_on.ensures

pub returns : goal.returns
returns c = search_ends c.args.graph.now.nodes.items c.args.starts.now c.loop-node.made c.loop-node.pending.items c.loop-node.invariant (omega (arith, c.in_default.ensures.cases.0, c.loop-node.pending.ok.0))
