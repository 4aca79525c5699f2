use Rattle.std.proofs.Common.{◌≡◌, length, drop, sym, ap, ◌∙◌, arith}
use Rattle.graph_unification.specs.Memory.{made_edge}
use Rattle.graph_unification.proofs.Indexed.{drop_length, made_here, made_later}
use Rattle.graph_unification.proofs.nodes.edge_of.Goals as goal

pub loop-edge-preserved : goal.loop-edge-preserved
loop-edge-preserved c = c.loop-edge.invariant ∙ made_later c.args.edges.now c.args.slot c.loop-edge.edge-index _ c.loop-edge-test.true c.if-edge-slot.false

pub returns-then-edge-slot : goal.returns-then-edge-slot
returns-then-edge-slot c = sym (c.loop-edge.invariant ∙ made_here c.args.edges.now c.args.slot c.loop-edge.edge-index _ c.loop-edge-test.true c.if-edge-slot.true)

pub returns : goal.returns
returns c =
    let all : c.loop-edge.edge-index ≡ length c.args.edges.now = omega arith in
    sym (c.loop-edge.invariant ∙ ap (λ k. made_edge (drop k c.args.edges.now) c.args.slot) all ∙ ap (λ l. made_edge l c.args.slot) (drop_length c.args.edges.now))
