use Rattle.std.proofs.Common.{refl, rules}
use Rattle.std.proofs.lemmas.Result.{on_ok_weaker}
use Rattle.graph_unification.proofs.Settling.{two_graph, two_slots, least_one}
use Rattle.graph_unification.proofs.graph.Graph.merge.Goals as goal

pub returns-in_err-first-clause-graph : goal.returns-in_err-first-clause-graph
returns-in_err-first-clause-graph c = search rules

pub returns-in_err-first-clause-least : goal.returns-in_err-first-clause-least
returns-in_err-first-clause-least c = search rules

pub returns-in_err-second-clause-graph : goal.returns-in_err-second-clause-graph
returns-in_err-second-clause-graph c = search rules

pub returns-in_err-second-clause-least : goal.returns-in_err-second-clause-least
returns-in_err-second-clause-least c = search rules

pub settle-requires-clause-made : goal.settle-requires-clause-made
settle-requires-clause-made c = c.requires.made

pub settle-requires-clause-graph : goal.settle-requires-clause-graph
settle-requires-clause-graph c = two_graph c.args.types.now c.requires.made c.args.self.now (record { nodes = c.new_cell.new.self; names = c.args.self.now.names }) c.in_ok-first.first c.args.a c.requires.graph refl c.in_ok-first.ensures c.requires.first (record { nodes = c.new_cell-2.new.self; names = c.args.self.now.names }) c.in_ok-second.second c.args.b refl c.in_ok-second.ensures c.requires.second

pub settle-requires-clause-asks : goal.settle-requires-clause-asks
settle-requires-clause-asks c = two_slots c.args.types.now c.requires.made c.args.self.now (record { nodes = c.new_cell.new.self; names = c.args.self.now.names }) c.in_ok-first.first c.args.a c.requires.graph refl c.in_ok-first.ensures c.requires.first (record { nodes = c.new_cell-2.new.self; names = c.args.self.now.names }) c.in_ok-second.second c.args.b refl c.in_ok-second.ensures c.requires.second

pub returns-clause-graph : goal.returns-clause-graph
returns-clause-graph c = on_ok_weaker c.settle.result (λ goes. goes.graph) c.settle.ensures

pub returns-clause-least : goal.returns-clause-least
returns-clause-least c =
    on_ok_weaker c.settle.result
    (least_one c.args.types.now c.requires.made c.args.self.now (record { nodes = c.new_cell.new.self; names = c.args.self.now.names }) c.in_ok-first.first c.args.a c.requires.graph refl c.in_ok-first.ensures c.requires.first (record { nodes = c.new_cell-2.new.self; names = c.args.self.now.names }) c.in_ok-second.second c.args.b refl c.in_ok-second.ensures c.requires.second c.settle.new.self)
    c.settle.ensures
