use Rattle.std.proofs.Common.{ap, ◌∙◌}
use Rattle.std.proofs.lemmas.Result.{IfOk-weaker}
use Rattle.graph_unification.specs.Cells.{has_number}
use Rattle.graph_unification.specs.Memory.{content}
use Rattle.graph_unification.specs.Statics.{global_numbers}
use Rattle.graph_unification.proofs.StaticNames.{globals_told}
use Rattle.graph_unification.proofs.graph.Graph.globals.Goals as goal

pub returns : goal.returns
returns c =
    IfOk-weaker c.globals_among.result _ _
    (λ numbers is table number.
    ap (λ found. has_number found number) (is ∙ ap global_numbers (c.as_slice.ensures ∙ c.keys.ensures.rest))
    ∙ globals_told (content c.args.self.now.nodes) c.args.self.now.names.entries number)
    c.globals_among.ensures
