use Rattle.std.proofs.Common.{ap}
use Rattle.heap_graph.specs.Targets.{Part}
use Rattle.graph_checker.proofs.context.Context.base_target.Goals as goal

pub returns : goal.returns
returns c = ap (λ (part : Part). part.target) c.root_of-root.ensures
