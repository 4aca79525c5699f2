use Rattle.std.proofs.Common.{Some, ap, ◌∙◌}
use Rattle.std.specs.Prelude.{option_map}
use Rattle.graph_unification.specs.Memory.{name_of, content}
use Rattle.graph_unification.proofs.Told.{set_by_key}
use Rattle.graph_unification.proofs.graph.Graph.target.Goals as goal

pub returns-in-Some : goal.returns-in-Some
returns-in-Some c = λ table fine.
    ap Some c.find.ensures ∙ ap (option_map (content c.args.self.now.nodes)) (c.in-Some.ensures.value ∙ set_by_key c.args.self.now (name_of c.args.name) c.key.result c.key.ensures)

pub returns-in-None : goal.returns-in-None
returns-in-None c = λ table fine.
    ap (option_map (content c.args.self.now.nodes)) (c.in-None.ensures.value ∙ set_by_key c.args.self.now (name_of c.args.name) c.key.result c.key.ensures)
