use Rattle.std.proofs.Common.{◌∙◌, arith}
use Rattle.pool_rewrite.proofs.PlacedObjects.{literal_read, literal_past}
use Rattle.pool_rewrite.proofs.statics.Statics.literal.Goals as goal

pub returns-in-Some : goal.returns-in-Some
returns-in-Some c = λ tac are. c.begin.ensures ∙ literal_read tac c.args.self.now c.args.literal.0 c.in-Some.number are c.in-Some.ensures.1

pub returns-in-None : goal.returns-in-None
returns-in-None c = λ tac are.
    literal_past tac c.args.self.now c.args.literal.0 are (omega (arith, c.in-None.ensures, c.args.self.now.begins.ok.0, c.args.self.now.begins.ok.1, c.args.self.now.begins.small))
