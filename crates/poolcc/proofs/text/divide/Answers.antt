use Rattle.std.proofs.Common.{sym, subst}
use Rattle.poolcc.specs.Refused.{IsStop}
use Rattle.poolcc.proofs.Refusing.{stops_so}
use Rattle.poolcc.proofs.text.divide.Goals as goal

pub returns-in-Err-clause-stop : goal.returns-in-Err-clause-stop
returns-in-Err-clause-stop c = subst (IsStop c.args.text.now) (sym c.stop_of.ensures) (stops_so c.args.text.now c.in-Err.error c.in-Err.ensures.refused)
