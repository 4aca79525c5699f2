use Rattle.std.proofs.Common.{◌∙◌}
use Rattle.heap_graph.specs.Targets.{at_target}
use Rattle.graph_checker.specs.Contexts.{graph_of}
use Rattle.graph_checker.proofs.context.Context.is_base_modified.Goals as goal

pub returns : goal.returns
returns c =
    c.is_modified.ensures c.args.self.now.tac.now.types ∙ (λ i. at_target (graph_of c.args.self.now) (c.base_target-base.ensures i) (λ node shift. node.flags.modified))
