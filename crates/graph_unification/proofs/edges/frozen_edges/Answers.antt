use Rattle.std.proofs.Common.{List, sym, ap, subst, ◌∙◌}
use Rattle.graph_unification.specs.Memory.{graph_in}
use Rattle.heap_graph.specs.declared.frozen.Edge as memory_edge
use Rattle.heap_graph.specs.Frozen.{edges_of}
use Rattle.graph_unification.proofs.GatheredEdges.{edges_at, Gathers, apart_at, gathers_none, one_kept, one_left_out, all_gathered}
use Rattle.graph_unification.proofs.edges.frozen_edges.Goals as goal
use Rattle.graph_unification.proofs.edges.frozen_edges.Goals.{then-is_certain+in_ok-place-in-Some, else-is_certain}

pub loop-index-init : goal.loop-index-init
loop-index-init c = λ table fine.
    let graph = graph_in table c.args.graph.now in
    subst (λ (l : List memory_edge.Edge). Gathers graph (edges_at graph c.args.number) (edges_at graph c.args.number) (edges_of l)) (sym c.new-edges.ensures.items) (gathers_none graph (edges_at graph c.args.number) (apart_at table c.args.graph.now c.args.number fine))

pub returns-in-None : goal.returns-in-None
returns-in-None c = λ table fine. all_gathered (graph_in table c.args.graph.now) c.args.number c.loop-index.index c.loop-index.edges.items (c.loop-index.invariant table fine) (c.in-None.ensures table fine)

pub loop-index-preserved : goal.loop-index-preserved
loop-index-preserved c = λ table fine. elim c.if-is_certain.branch [
  | then-is_certain+in_ok-place-in-Some w ↦
      one_kept (graph_in table c.args.graph.now) c.args.number c.loop-index.index c.loop-index.edges.items (c.loop-index.invariant table fine) (record { slot = c.in-Some.slot; to = c.in-Some.to }) c.if-is_certain.edges.items (c.in-Some.ensures table fine)
      (sym (c.is_certain.ensures table) ∙ w.if-is_certain.true) (ap (λ v. v.items) w.edges-is ∙ w.in_ok-place-in-Some.ensures)
  | else-is_certain w ↦
      let graph = graph_in table c.args.graph.now in
      let done = one_left_out graph c.args.number c.loop-index.index c.loop-index.edges.items (c.loop-index.invariant table fine) (record { slot = c.in-Some.slot; to = c.in-Some.to }) (c.in-Some.ensures table fine) (sym (c.is_certain.ensures table) ∙ w.if-is_certain.false) in
      rw w.edges-is done
]
