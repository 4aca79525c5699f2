use Rattle.std.proofs.Common.{ap, ◌∙◌}
use Rattle.heap_graph.specs.Targets.{edge_at}
use Rattle.graph_checker.specs.Contexts.{graph_of}
use Rattle.graph_checker.proofs.context.Context.edge.Goals as goal

pub returns : goal.returns
returns c = c.edge_at.ensures c.args.self.now.tac.now.types ∙ ap (edge_at (graph_of c.args.self.now)) c.place-at.ensures
