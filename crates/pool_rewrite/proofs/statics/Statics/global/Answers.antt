use Rattle.std.proofs.Common.{◌∙◌}
use Rattle.pool_rewrite.proofs.PlacedObjects.{static_read}
use Rattle.pool_rewrite.proofs.statics.Statics.global.Goals as goal

pub returns : goal.returns
returns c = λ tac are. c.begin.ensures ∙ static_read tac c.args.self.now c.args.global.0 are
