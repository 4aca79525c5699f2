use Rattle.std.proofs.Common.{refl, sym, ◌∙◌, rules, arith}
use Rattle.std.proofs.lemmas.Result.{on_ok_weaker}
use Rattle.graph_unification.proofs.Settling.{one_graph, one_node, least_collapsed, first_slot, least_bare}
use Rattle.graph_unification.proofs.Relating.{node_within}
use Rattle.graph_unification.proofs.graph.Graph.collapse.Goals as goal

pub flatten-requires : goal.flatten-requires
flatten-requires c = node_within c.args.types.now c.args.self.now c.args.node c.requires.node

pub returns-then-edge_count-eq0-clause-graph : goal.returns-then-edge_count-eq0-clause-graph
returns-then-edge_count-eq0-clause-graph c = (least_bare c.args.types.now c.requires.made c.args.self.now (record { nodes = c.flatten.new.self; names = c.args.self.now.names }) c.requires.graph refl c.args.node c.requires.node (sym c.edge_count.ensures ∙ c.if-edge_count-eq0.true) c.flatten.ensures.flattens).0

pub returns-then-edge_count-eq0-clause-least : goal.returns-then-edge_count-eq0-clause-least
returns-then-edge_count-eq0-clause-least c = (least_bare c.args.types.now c.requires.made c.args.self.now (record { nodes = c.flatten.new.self; names = c.args.self.now.names }) c.requires.graph refl c.args.node c.requires.node (sym c.edge_count.ensures ∙ c.if-edge_count-eq0.true) c.flatten.ensures.flattens).1

pub returns-in_err-first-clause-graph : goal.returns-in_err-first-clause-graph
returns-in_err-first-clause-graph c = search rules

pub returns-in_err-first-clause-least : goal.returns-in_err-first-clause-least
returns-in_err-first-clause-least c = search rules

pub settle-requires-clause-made : goal.settle-requires-clause-made
settle-requires-clause-made c = c.requires.made

pub settle-requires-clause-graph : goal.settle-requires-clause-graph
settle-requires-clause-graph c = one_graph c.args.types.now c.requires.made c.args.self.now (record { nodes = c.new_cell.new.self; names = c.args.self.now.names }) c.in_ok-first.first (record { node = c.args.node; shift = 0 }) c.requires.graph refl c.in_ok-first.ensures (first_slot c.args.types.now c.args.self.now c.requires.graph c.args.node c.requires.node (let some = c.if-edge_count-eq0.false in let is = c.edge_count.ensures in omega (arith, some, is)))

pub settle-requires-clause-asks : goal.settle-requires-clause-asks
settle-requires-clause-asks c = one_node c.args.types.now c.requires.made c.args.self.now (record { nodes = c.new_cell.new.self; names = c.args.self.now.names }) c.in_ok-first.first (record { node = c.args.node; shift = 0 }) c.requires.graph refl c.in_ok-first.ensures (first_slot c.args.types.now c.args.self.now c.requires.graph c.args.node c.requires.node (let some = c.if-edge_count-eq0.false in let is = c.edge_count.ensures in omega (arith, some, is)))

pub returns-clause-graph : goal.returns-clause-graph
returns-clause-graph c = on_ok_weaker c.settle.result (λ goes. goes.graph) c.settle.ensures

pub returns-clause-least : goal.returns-clause-least
returns-clause-least c =
    on_ok_weaker c.settle.result
    (least_collapsed c.args.types.now c.requires.made c.args.self.now (record { nodes = c.new_cell.new.self; names = c.args.self.now.names }) c.in_ok-first.first (record { node = c.args.node; shift = 0 }) c.requires.graph refl c.in_ok-first.ensures (first_slot c.args.types.now c.args.self.now c.requires.graph c.args.node c.requires.node (let some = c.if-edge_count-eq0.false in let is = c.edge_count.ensures in omega (arith, some, is))) c.settle.new.self)
    c.settle.ensures
