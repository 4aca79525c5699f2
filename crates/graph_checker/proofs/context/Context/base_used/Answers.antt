use Rattle.std.proofs.Common.{◌∙◌}
use Rattle.heap_graph.specs.Targets.{at_target, implies}
use Rattle.graph_checker.specs.Contexts.{graph_of}
use Rattle.graph_checker.proofs.context.Context.base_used.Goals as goal

pub returns : goal.returns
returns c =
    c.is_array_if.ensures c.args.self.now.tac.now.types
    ∙ (λ i. at_target (graph_of c.args.self.now) (c.base_target-base.ensures i) (λ node shift. implies (c.is_indexed-asked.ensures i) node.flags.array))
