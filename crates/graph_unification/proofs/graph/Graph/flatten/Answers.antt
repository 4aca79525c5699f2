use Rattle.std.proofs.Common.{◌≡◌, ◌∷◌, ◌++◌, map, true, reverse, refl, sym, ap, subst, ◌∙◌}
use Rattle.std.proofs.lemmas.Result.{on_ok_weaker}
use Rattle.heap_graph.specs.Graphs.{Target}
use Rattle.heap_graph.specs.Steps.{Collapse, IsNode}
use Rattle.graph_unification.specs.Memory.{content, graph_in}
use Rattle.graph_unification.specs.Turns.{asked_again, asks_in, element_at, is_flat, edges_in, Flattens, Goes}
use Rattle.graph_unification.proofs.Turning.{drops_collapse, flattens_node}
use Rattle.graph_unification.proofs.Relating.{node_within}
use Rattle.graph_unification.proofs.graph.Graph.flatten.Goals as goal

pub returns-then-is_collapsed : goal.returns-then-is_collapsed
returns-then-is_collapsed c =
    drops_collapse c.args.types.now c.requires.made c.args.self.now c.requires.graph (reverse c.args.work.now.items) c.requires.asks (content c.args.self.now.nodes c.args.cell).node c.requires.node
    (subst (λ (t : Target). is_flat (element_at c.args.self.now.nodes.list.items t.node) ≡ true) c.find-node.ensures (sym c.if-is_collapsed.ensures))

pub flatten-edges-requires : goal.flatten-edges-requires
flatten-edges-requires c =
    node_within c.args.types.now c.args.self.now c.find-node.result.node (subst (λ (t : Target). IsNode (graph_in c.args.types.now c.args.self.now) t.node) (sym c.find-node.ensures) c.requires.node)

pub returns : goal.returns
returns c =
    on_ok_weaker c.push_edges.result
    (λ e. subst (λ w. Goes c.args.types.now c.args.self.now (record { nodes = c.flatten-edges.new.self; names = c.args.self.now.names }) (Collapse (content c.args.self.now.nodes c.args.cell).node ∷ asks_in c.args.self.now.nodes (reverse c.args.work.now.items)) (asks_in c.flatten-edges.new.self w))
    (sym (e ∙ ap (λ es. map (asked_again c.args.cell) es ++ (reverse c.args.work.now.items)) (c.deref.ensures.value ∙ c.flatten-edges.ensures.edges ∙ ap (λ (t : Target). edges_in c.args.self.now.nodes.list.items t.node) c.find-node.ensures)))
    (flattens_node c.args.types.now c.requires.made c.args.self.now c.requires.graph (reverse c.args.work.now.items) c.requires.asks (record { nodes = c.flatten-edges.new.self; names = c.args.self.now.names }) refl c.args.cell c.requires.node
    (subst (λ (t : Target). Flattens c.args.self.now.nodes c.flatten-edges.new.self t.node) c.find-node.ensures c.flatten-edges.ensures.flattens)))
    c.push_edges.ensures
