use Rattle.std.proofs.Common.{◌+◌, ◌&&◌, Some, get_or, drop, sym, ap, ◌∙◌}
use Rattle.std.proofs.lemmas.List.{drop_all}
use Rattle.heap_graph.specs.Memory.{target_of}
use Rattle.heap_graph.specs.Closed.{edges_kept}
use Rattle.heap_graph.specs.declared.frozen.Edge.{Edge}
use Rattle.heap_graph.specs.Frozen.{edges_of, static_in}
use Rattle.graph_checker.proofs.Cases.{next_item}
use Rattle.graph_checker.proofs.Keeping.{one_edge}
use Rattle.graph_checker.proofs.kept.are_edges_kept.Goals as goal

pub loop-edge-init : goal.loop-edge-init
loop-edge-init c = λ table family owner images shows same. ap (λ edges. edges_kept family owner images (Some (target_of c.args.at)) (edges_of edges)) c.deref-edge-items.ensures.value

pub returns-then-not-is_edge_kept : goal.returns-then-not-is_edge_kept
returns-then-not-is_edge_kept c = λ table family owner images shows same.
    let edges = c.deref-edge-items.result.now in
    let index = c.loop-edge.edge-index in
    let other : Edge = record { slot = 0; to = record { node = 0; shift = 0 } } in
    let at = Some (target_of c.args.at) in
    let one =
    one_edge table family owner c.args.graph.now shows images (static_in c.args.embedding.now) same at (get_or edges index other) edges index c.is_edge_kept.result
    (next_item edges index other c.loop-edge-test.true) (c.is_edge_kept.ensures table) in
    sym (one ∙ ap (λ test. test && edges_kept family owner images at (edges_of (drop (index + 1) edges))) c.if-not-is_edge_kept.true) ∙ c.loop-edge.invariant table family owner images shows same

pub loop-edge-preserved : goal.loop-edge-preserved
loop-edge-preserved c = λ table family owner images shows same.
    let edges = c.deref-edge-items.result.now in
    let index = c.loop-edge.edge-index in
    let other : Edge = record { slot = 0; to = record { node = 0; shift = 0 } } in
    let at = Some (target_of c.args.at) in
    let one =
    one_edge table family owner c.args.graph.now shows images (static_in c.args.embedding.now) same at (get_or edges index other) edges index c.is_edge_kept.result
    (next_item edges index other c.loop-edge-test.true) (c.is_edge_kept.ensures table) in
    sym (one ∙ ap (λ test. test && edges_kept family owner images at (edges_of (drop (index + 1) edges))) c.if-not-is_edge_kept.false) ∙ c.loop-edge.invariant table family owner images shows same

pub returns : goal.returns
returns c = λ table family owner images shows same.
    sym (ap (λ edges. edges_kept family owner images (Some (target_of c.args.at)) (edges_of edges)) (drop_all c.loop-edge.edge-index c.deref-edge-items.result.now c.loop-edge-test.false))
    ∙ c.loop-edge.invariant table family owner images shows same
