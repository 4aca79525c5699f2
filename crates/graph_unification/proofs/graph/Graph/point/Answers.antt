use Rattle.std.proofs.Common.{◌≡◌, ◌∷◌, None, Some, reverse, refl, sym, subst}
use Rattle.std.proofs.lemmas.Result.{on_ok_weaker}
use Rattle.heap_graph.specs.Graphs.{Target}
use Rattle.heap_graph.specs.Steps.{Points}
use Rattle.graph_unification.specs.Memory.{content, made_edge}
use Rattle.graph_unification.specs.Turns.{asks_in, edges_in, AddsEdge, Goes}
use Rattle.graph_unification.proofs.Turning.{asks_one, adds_edge}
use Rattle.graph_unification.proofs.Relating.{found_within}
use Rattle.graph_unification.proofs.graph.Graph.point.Goals as goal

pub add_edge-requires : goal.add_edge-requires
add_edge-requires c = found_within c.args.types.now c.args.self.now c.requires.graph c.find-here.result (content c.args.self.now.nodes c.args.at) c.find-here.ensures c.requires.from

pub returns-in-Some : goal.returns-in-Some
returns-in-Some c =
    on_ok_weaker c.push.result
    (λ e. subst (λ w. Goes c.args.types.now c.args.self.now c.args.self.now (Points (content c.args.self.now.nodes c.args.at).node (content c.args.self.now.nodes c.args.at).shift (content c.args.self.now.nodes c.args.to) ∷ asks_in c.args.self.now.nodes (reverse c.args.work.now.items)) (asks_in c.args.self.now.nodes w)) (sym e)
    (asks_one c.args.types.now c.requires.made c.args.self.now c.requires.graph (reverse c.args.work.now.items) c.requires.asks (content c.args.self.now.nodes c.args.at) c.in-Some.own c.args.to c.requires.from c.requires.to
    (subst (λ (t : Target). made_edge (edges_in c.args.self.now.nodes.list.items t.node) t.shift ≡ Some c.in-Some.own) c.find-here.ensures (sym c.in-Some.ensures))))
    c.push.ensures

pub returns-in-None : goal.returns-in-None
returns-in-None c =
    on_ok_weaker c.add_edge.result
    (λ adds. adds_edge c.args.types.now c.requires.made c.args.self.now c.requires.graph (reverse c.args.work.now.items) c.requires.asks (record { nodes = c.add_edge.new.self; names = c.args.self.now.names }) refl (content c.args.self.now.nodes c.args.at) c.args.to
    c.requires.from c.requires.to (subst (λ (t : Target). made_edge (edges_in c.args.self.now.nodes.list.items t.node) t.shift ≡ None) c.find-here.ensures (sym c.in-None.ensures))
    (subst (λ (t : Target). AddsEdge c.args.self.now.nodes c.add_edge.new.self t.node t.shift c.args.to) c.find-here.ensures adds))
    c.add_edge.ensures
