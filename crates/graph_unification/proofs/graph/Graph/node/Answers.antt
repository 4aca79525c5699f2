use Rattle.std.proofs.Common.{refl, sym, subst, ◌∙◌}
use Rattle.heap_graph.specs.Graphs.{node_at}
use Rattle.graph_unification.specs.Memory.{graph_in}
use Rattle.graph_unification.specs.Changes.{TellsNode, TellsStanding}
use Rattle.graph_unification.proofs.Told.{node_read, none_read, tells_none, tells_node}
use Rattle.graph_unification.proofs.graph.Graph.node.Goals as goal

pub get-requires : goal.get-requires
get-requires c κs = (refl, tt)

pub returns-in_err-node-clause-stands : goal.returns-in_err-node-clause-stands
returns-in_err-node-clause-stands c = λ table fine. subst (TellsStanding table) (sym c.from_residual.ensures) tt

pub returns-in_err-node-clause-tells : goal.returns-in_err-node-clause-tells
returns-in_err-node-clause-tells c = λ table.
    subst (TellsNode table (node_at (graph_in table c.args.self.now) c.args.number)) (sym c.from_residual.ensures)
    (tells_none table c.args.self.now c.args.number (none_read c.deref.result.now c.args.self.now.nodes.list.items c.args.number c.deref.ensures.value (sym c.in_err-node.ensures.lookup.0)))

pub returns-in-Some-clause-stands : goal.returns-in-Some-clause-stands
returns-in-Some-clause-stands c = λ table fine. fine.stand c.args.number c.in-Some.node (node_read c.deref.result.now c.args.self.now.nodes.list.items c.args.number c.in_ok-node.field-0.now c.deref.ensures.value (sym c.in_ok-node.ensures.lookup.0) c.in_ok-node.ensures.lookup.1 ∙ c.in-Some.is)

pub returns-in-Some-clause-tells : goal.returns-in-Some-clause-tells
returns-in-Some-clause-tells c = λ table. tells_node table c.args.self.now c.args.number c.in-Some.node (node_read c.deref.result.now c.args.self.now.nodes.list.items c.args.number c.in_ok-node.field-0.now c.deref.ensures.value (sym c.in_ok-node.ensures.lookup.0) c.in_ok-node.ensures.lookup.1 ∙ c.in-Some.is)

pub returns-in-None-clause-tells : goal.returns-in-None-clause-tells
returns-in-None-clause-tells c = λ table. tells_none table c.args.self.now c.args.number (node_read c.deref.result.now c.args.self.now.nodes.list.items c.args.number c.in_ok-node.field-0.now c.deref.ensures.value (sym c.in_ok-node.ensures.lookup.0) c.in_ok-node.ensures.lookup.1 ∙ c.in-None.is)
