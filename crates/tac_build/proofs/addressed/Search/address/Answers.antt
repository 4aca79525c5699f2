use Rattle.std.proofs.Common.{subst}
use Rattle.tac_build.specs.Marks.{Marks}
use Rattle.tac_build.proofs.Marking.{marks_none}
use Rattle.tac_build.proofs.addressed.Search.address.Goals as goal

pub returns-in_default : goal.returns-in_default
returns-in_default c = λ table. subst (λ f. Marks c.args.self.now c.args.self.now f) (λ i. λ number. c.in_default.ensures {u = tt} table number i) (marks_none c.args.self.now)
