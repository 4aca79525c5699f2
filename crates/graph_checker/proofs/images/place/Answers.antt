use Rattle.std.proofs.Common.{sym, ap, ◌∙◌}
use Rattle.heap_graph.specs.Frozen.{optional_target, bare}
use Rattle.graph_checker.specs.Images.{placed_by}
use Rattle.graph_checker.proofs.images.place.Goals as goal

pub returns-in-Embedded : goal.returns-in-Embedded
returns-in-Embedded c = λ table. c.image.ensures table ∙ sym (ap (λ places. placed_by (bare table c.args.graph.now) places (optional_target c.args.target)) c.in-Embedded.is)
