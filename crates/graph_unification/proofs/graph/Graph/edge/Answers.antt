use Rattle.std.proofs.Common.{Some, sym, ap, ◌∙◌}
use Rattle.std.specs.Prelude.{option_map}
use Rattle.graph_unification.specs.Memory.{content}
use Rattle.graph_unification.proofs.Told.{found_edge}
use Rattle.graph_unification.proofs.graph.Graph.edge.Goals as goal

pub returns-in-Some : goal.returns-in-Some
returns-in-Some c = λ table fine.
    ap Some c.find.ensures ∙ ap (option_map (content c.args.self.now.nodes)) c.in-Some.ensures ∙ sym (found_edge table c.args.self.now c.args.number c.args.slot)

pub returns-in-None : goal.returns-in-None
returns-in-None c = λ table fine. ap (option_map (content c.args.self.now.nodes)) c.in-None.ensures ∙ sym (found_edge table c.args.self.now c.args.number c.args.slot)
