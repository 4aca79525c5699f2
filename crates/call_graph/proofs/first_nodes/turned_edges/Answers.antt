use Rattle.std.proofs.Common.{◌+◌, ◌<◌, ◌++◌, length, drop, get_or, refl, sym, ap, ◌∙◌, append-nil, arith}
use Rattle.std.proofs.lemmas.List.{drop_all}
use Rattle.call_graph.proofs.RowLists.{has_read, read_drop, gather_more, gather_none}
use Rattle.call_graph.specs.Heads.{turned_edge, turned_edges}
use Rattle.call_graph.proofs.CountSteps.{turned_some, turned_none}
use Rattle.call_graph.proofs.first_nodes.turned_edges.Goals.{then-caller-callee+in_ok-push, else-caller-callee}
use Rattle.call_graph.proofs.first_nodes.turned_edges.Goals as goal

pub loop-edge-init : goal.loop-edge-init
loop-edge-init c = ap (λ l. l ++ turned_edges c.args.heads.now c.args.edges.now) c.new-turned.ensures.items

pub loop-edge-preserved : goal.loop-edge-preserved
loop-edge-preserved c =
    let edges = c.args.edges.now in
    let heads = c.args.heads.now in
    let i = c.loop-edge.edge-index in
    let edge = get_or edges i (0, 0) in
    let caller = get_or heads edge.0 0 in
    let callee = get_or heads edge.1 0 in
    let next = read_drop edges i (i + 1) edge (0, 0) refl (omega arith) refl in
    let done = c.loop-edge.turned.items in
    elim c.if-caller-callee.branch [
      | then-caller-callee+in_ok-push w ↦
          gather_more (turned_edge heads) (drop i edges) (drop (i + 1) edges) edge done _ _ next
          (ap (λ v. v.items) w.turned-is ∙ (w.in_ok-push.ensures.items ∙ ap (λ l. done ++ l) (turned_some heads edge caller callee refl refl w.if-caller-callee.true))) c.loop-edge.invariant
      | else-caller-callee w ↦
          gather_more (turned_edge heads) (drop i edges) (drop (i + 1) edges) edge done _ _ next
          (ap (λ v. v.items) w.turned-is ∙ (sym (append-nil done) ∙ ap (λ l. done ++ l) (turned_none heads edge caller callee refl refl w.if-caller-callee.false))) c.loop-edge.invariant
    ]

pub bounds-heads-edge : goal.bounds-heads-edge
bounds-heads-edge c =
    let edges = c.args.edges.now in
    let i = c.loop-edge.edge-index in
    (c.requires (get_or edges i (0, 0)) (has_read edges i (get_or edges i (0, 0)) (0, 0) (omega arith) refl)).0

pub bounds-heads-edge-in-loop-edge : goal.bounds-heads-edge-in-loop-edge
bounds-heads-edge-in-loop-edge c =
    let edges = c.args.edges.now in
    let i = c.loop-edge.edge-index in
    (c.requires (get_or edges i (0, 0)) (has_read edges i (get_or edges i (0, 0)) (0, 0) (omega arith) refl)).1

pub offset_bounds-heads-edge : goal.offset_bounds-heads-edge
offset_bounds-heads-edge c =
    let edges = c.args.edges.now in
    let i = c.loop-edge.edge-index in
    let lt : (get_or edges i (0, 0)).0 < length c.args.heads.now = (c.requires (get_or edges i (0, 0)) (has_read edges i (get_or edges i (0, 0)) (0, 0) (omega arith) refl)).0 in
    omega arith

pub offset_bounds-heads-edge-in-loop-edge : goal.offset_bounds-heads-edge-in-loop-edge
offset_bounds-heads-edge-in-loop-edge c =
    let edges = c.args.edges.now in
    let i = c.loop-edge.edge-index in
    let lt : (get_or edges i (0, 0)).1 < length c.args.heads.now = (c.requires (get_or edges i (0, 0)) (has_read edges i (get_or edges i (0, 0)) (0, 0) (omega arith) refl)).1 in
    omega arith

pub returns : goal.returns
returns c = gather_none (turned_edge c.args.heads.now) (drop c.loop-edge.edge-index c.args.edges.now) c.loop-edge.turned.items _ (drop_all c.loop-edge.edge-index c.args.edges.now (omega arith)) c.loop-edge.invariant
