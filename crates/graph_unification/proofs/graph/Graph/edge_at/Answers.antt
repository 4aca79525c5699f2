use Rattle.std.proofs.Common.{Some, refl, sym, ap, ◌∙◌}
use Rattle.std.specs.Prelude.{option_map}
use Rattle.graph_unification.specs.Memory.{content, edge_of}
use Rattle.graph_unification.specs.Changes.{told_edge}
use Rattle.graph_unification.proofs.CellLists.{read_item, read_past}
use Rattle.graph_unification.proofs.Told.{node_read, none_read, none_numbered, numbered}
use Rattle.graph_unification.proofs.graph.Graph.edge_at.Goals as goal

pub get-requires : goal.get-requires
get-requires c κs = (refl, tt)

pub returns-in_err-node : goal.returns-in_err-node
returns-in_err-node c = λ table fine.
    ap (option_map told_edge) c.from_residual.ensures
    ∙ sym (none_numbered table c.args.self.now c.args.number c.args.index (none_read c.deref.result.now c.args.self.now.nodes.list.items c.args.number c.deref.ensures.value (sym c.in_err-node.ensures.lookup.0)))

pub get-requires-in-Some : goal.get-requires-in-Some
get-requires-in-Some c κs = (refl, tt)

pub returns-in_err-edge-in-Some : goal.returns-in_err-edge-in-Some
returns-in_err-edge-in-Some c = λ table fine.
    ap (option_map told_edge) c.from_residual-in_err-edge-in-Some.ensures
    ∙ sym (numbered table c.args.self.now c.args.number c.args.index c.in-Some.node (node_read c.deref.result.now c.args.self.now.nodes.list.items c.args.number c.in_ok-node.field-0.now c.deref.ensures.value (sym c.in_ok-node.ensures.lookup.0) c.in_ok-node.ensures.lookup.1 ∙ c.in-Some.is)
    ∙ ap (option_map (edge_of (content c.args.self.now.nodes))) (read_past c.deref-in-Some.result.now c.in-Some.node.edges.items c.args.index c.deref-in-Some.ensures.value (sym c.in_err-edge-in-Some.ensures.lookup.0)))

pub returns-in_ok-edge-in-Some : goal.returns-in_ok-edge-in-Some
returns-in_ok-edge-in-Some c = λ table fine.
    ap (λ t. Some (record { slot = c.in_ok-edge-in-Some.edge.now.slot; to = t })) c.find.ensures
    ∙ sym (numbered table c.args.self.now c.args.number c.args.index c.in-Some.node (node_read c.deref.result.now c.args.self.now.nodes.list.items c.args.number c.in_ok-node.field-0.now c.deref.ensures.value (sym c.in_ok-node.ensures.lookup.0) c.in_ok-node.ensures.lookup.1 ∙ c.in-Some.is)
    ∙ ap (option_map (edge_of (content c.args.self.now.nodes)))
    (read_item c.deref-in-Some.result.now c.in-Some.node.edges.items c.args.index c.in_ok-edge-in-Some.edge.now c.deref-in-Some.ensures.value (sym c.in_ok-edge-in-Some.ensures.lookup.0) c.in_ok-edge-in-Some.ensures.lookup.1))

pub returns-in-None : goal.returns-in-None
returns-in-None c = λ table fine. sym (none_numbered table c.args.self.now c.args.number c.args.index (node_read c.deref.result.now c.args.self.now.nodes.list.items c.args.number c.in_ok-node.field-0.now c.deref.ensures.value (sym c.in_ok-node.ensures.lookup.0) c.in_ok-node.ensures.lookup.1 ∙ c.in-None.is))
