use Rattle.machine.proofs.Advancing.{duplicated}
use Rattle.machine.proofs.activation.Activation.duplicate_within.Goals as goal

pub returns-in-Some-clause-advances : goal.returns-in-Some-clause-advances
returns-in-Some-clause-advances c = duplicated c.args.height c.in-Some.word c.push_within.result c.args.self.now c.push_within.new.self c.in-Some.ensures c.push_within.ensures.advances
