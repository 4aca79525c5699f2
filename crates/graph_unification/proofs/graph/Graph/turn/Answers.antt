use Rattle.std.proofs.Common.{◌∷◌, reverse, sym, subst}
use Rattle.std.proofs.lemmas.Result.{on_ok_weaker}
use Rattle.c_typed.specs.Table.{structs_in}
use Rattle.heap_graph.specs.Steps.{IsOf}
use Rattle.graph_unification.specs.Memory.{graph_in}
use Rattle.graph_unification.specs.Turns.{ask_in, asks_in, Goes}
use Rattle.graph_unification.proofs.graph.Graph.turn.Goals as goal

pub unite-requires-clause-made : goal.unite-requires-clause-made
unite-requires-clause-made c = c.requires.made

pub unite-requires-clause-graph : goal.unite-requires-clause-graph
unite-requires-clause-graph c = c.requires.graph

pub unite-requires-clause-first : goal.unite-requires-clause-first
unite-requires-clause-first c = (subst (λ k. IsOf (structs_in c.args.types.now) (graph_in c.args.types.now c.args.self.now) (ask_in c.args.self.now.nodes k)) c.in-One.is c.requires.ask).0

pub unite-requires-clause-second : goal.unite-requires-clause-second
unite-requires-clause-second c = (subst (λ k. IsOf (structs_in c.args.types.now) (graph_in c.args.types.now c.args.self.now) (ask_in c.args.self.now.nodes k)) c.in-One.is c.requires.ask).1

pub unite-requires-clause-asks : goal.unite-requires-clause-asks
unite-requires-clause-asks c = c.requires.asks

pub flatten-requires-clause-made : goal.flatten-requires-clause-made
flatten-requires-clause-made c = c.requires.made

pub flatten-requires-clause-graph : goal.flatten-requires-clause-graph
flatten-requires-clause-graph c = c.requires.graph

pub flatten-requires-clause-node : goal.flatten-requires-clause-node
flatten-requires-clause-node c = (subst (λ k. IsOf (structs_in c.args.types.now) (graph_in c.args.types.now c.args.self.now) (ask_in c.args.self.now.nodes k)) c.in-Collapse.is c.requires.ask)

pub flatten-requires-clause-asks : goal.flatten-requires-clause-asks
flatten-requires-clause-asks c = c.requires.asks

pub point-requires-clause-made : goal.point-requires-clause-made
point-requires-clause-made c = c.requires.made

pub point-requires-clause-graph : goal.point-requires-clause-graph
point-requires-clause-graph c = c.requires.graph

pub point-requires-clause-from : goal.point-requires-clause-from
point-requires-clause-from c = (subst (λ k. IsOf (structs_in c.args.types.now) (graph_in c.args.types.now c.args.self.now) (ask_in c.args.self.now.nodes k)) c.in-Points.is c.requires.ask).0

pub point-requires-clause-to : goal.point-requires-clause-to
point-requires-clause-to c = (subst (λ k. IsOf (structs_in c.args.types.now) (graph_in c.args.types.now c.args.self.now) (ask_in c.args.self.now.nodes k)) c.in-Points.is c.requires.ask).1

pub point-requires-clause-asks : goal.point-requires-clause-asks
point-requires-clause-asks c = c.requires.asks

pub returns-in-One : goal.returns-in-One
returns-in-One c =
    on_ok_weaker c.unite.result
    (subst (λ k. Goes c.args.types.now c.args.self.now c.unite.new.self (ask_in c.args.self.now.nodes k ∷ asks_in c.args.self.now.nodes (reverse c.args.work.now.items)) (asks_in c.unite.new.self.nodes (reverse c.unite.new.work.items))) (sym c.in-One.is))
    c.unite.ensures

pub returns-in-Collapse : goal.returns-in-Collapse
returns-in-Collapse c =
    on_ok_weaker c.flatten.result
    (subst (λ k. Goes c.args.types.now c.args.self.now c.flatten.new.self (ask_in c.args.self.now.nodes k ∷ asks_in c.args.self.now.nodes (reverse c.args.work.now.items)) (asks_in c.flatten.new.self.nodes (reverse c.flatten.new.work.items))) (sym c.in-Collapse.is))
    c.flatten.ensures

pub returns-in-Points : goal.returns-in-Points
returns-in-Points c =
    on_ok_weaker c.point.result
    (subst (λ k. Goes c.args.types.now c.args.self.now c.point.new.self (ask_in c.args.self.now.nodes k ∷ asks_in c.args.self.now.nodes (reverse c.args.work.now.items)) (asks_in c.point.new.self.nodes (reverse c.point.new.work.items))) (sym c.in-Points.is))
    c.point.ensures
