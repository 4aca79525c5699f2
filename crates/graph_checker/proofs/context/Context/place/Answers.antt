use Rattle.std.proofs.Common.{map, ◌∙◌}
use Rattle.tac_ir.specs.Views.{step_of}
use Rattle.heap_graph.specs.Points.{steps_part}
use Rattle.graph_checker.specs.Contexts.{code_of, graph_of, owner_of}
use Rattle.graph_checker.proofs.context.Context.place.Goals as goal

pub returns : goal.returns
returns c =
    let own = c.args.self.now in
    c.place_of.ensures ∙ (λ i. (steps_part (code_of own) (graph_of own) (owner_of own) (map step_of (c.as_slice.ensures.value i)) (c.root_of-root.ensures i)).target)
