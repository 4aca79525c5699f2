use Rattle.std.proofs.Common.{◌∷◌, reverse, sym, ap, subst, ◌∙◌}
use Rattle.std.proofs.lemmas.Result.{on_ok_weaker}
use Rattle.heap_graph.specs.Graphs.{Target}
use Rattle.heap_graph.specs.Steps.{One}
use Rattle.graph_unification.specs.Memory.{content}
use Rattle.graph_unification.specs.Turns.{asks_in, Goes}
use Rattle.graph_unification.proofs.Turning.{drops_one, asks_collapse}
use Rattle.graph_unification.proofs.graph.Graph.unite.Goals as goal

pub relate-requires-clause-made : goal.relate-requires-clause-made
relate-requires-clause-made c = c.requires.made

pub relate-requires-clause-graph : goal.relate-requires-clause-graph
relate-requires-clause-graph c = c.requires.graph

pub relate-requires-clause-first : goal.relate-requires-clause-first
relate-requires-clause-first c = c.requires.first

pub relate-requires-clause-second : goal.relate-requires-clause-second
relate-requires-clause-second c = c.requires.second

pub relate-requires-clause-differ : goal.relate-requires-clause-differ
relate-requires-clause-differ c = λ e. c.if-first-second.true (ap (λ (t : Target). t.node) c.find-first.ensures ∙ e ∙ sym (ap (λ (t : Target). t.node) c.find-second.ensures))

pub relate-requires-clause-asks : goal.relate-requires-clause-asks
relate-requires-clause-asks c = c.requires.asks

pub returns-then-first-second : goal.returns-then-first-second
returns-then-first-second c = c.relate.ensures

pub returns-then-first-second-2 : goal.returns-then-first-second-2
returns-then-first-second-2 c =
    drops_one c.args.types.now c.requires.made c.args.self.now c.requires.graph (reverse c.args.work.now.items) c.requires.asks (content c.args.self.now.nodes c.args.a) (content c.args.self.now.nodes c.args.b)
    (sym (ap (λ (t : Target). t.node) c.find-first.ensures) ∙ c.if-first-second.false ∙ ap (λ (t : Target). t.node) c.find-second.ensures)
    (sym (ap (λ (t : Target). t.shift) c.find-first.ensures) ∙ c.if-first-second-2.true ∙ ap (λ (t : Target). t.shift) c.find-second.ensures) c.requires.first

pub returns : goal.returns
returns c =
    on_ok_weaker c.push.result
    (λ e. subst (λ w. Goes c.args.types.now c.args.self.now c.args.self.now (One (content c.args.self.now.nodes c.args.a) (content c.args.self.now.nodes c.args.b) ∷ asks_in c.args.self.now.nodes (reverse c.args.work.now.items)) (asks_in c.args.self.now.nodes w)) (sym e)
    (asks_collapse c.args.types.now c.requires.made c.args.self.now c.requires.graph (reverse c.args.work.now.items) c.requires.asks c.args.a c.args.b
    (sym (ap (λ (t : Target). t.node) c.find-first.ensures) ∙ c.if-first-second.false ∙ ap (λ (t : Target). t.node) c.find-second.ensures)
    (λ e. c.if-first-second-2.false (ap (λ (t : Target). t.shift) c.find-first.ensures ∙ e ∙ sym (ap (λ (t : Target). t.shift) c.find-second.ensures))) c.requires.first c.requires.second))
    c.push.ensures
