use Rattle.std.proofs.Common.{ap, ◌∙◌}
use Rattle.std.proofs.lemmas.Result.{IfOk-weaker}
use Rattle.graph_unification.specs.Cells.{has_number}
use Rattle.graph_unification.specs.Memory.{content}
use Rattle.graph_unification.specs.Statics.{literal_numbers}
use Rattle.graph_unification.proofs.StaticNames.{literals_told}
use Rattle.graph_unification.proofs.graph.Graph.literals.Goals as goal

pub returns : goal.returns
returns c =
    IfOk-weaker c.literals_among.result _ _
    (λ numbers is table number.
    ap (λ found. has_number found number) (is ∙ ap literal_numbers (c.as_slice.ensures ∙ c.keys.ensures.rest))
    ∙ literals_told (content c.args.self.now.nodes) c.args.self.now.names.entries number)
    c.literals_among.ensures
