use Rattle.std.proofs.Common.{Err, sym, ap, subst}
use Rattle.poolcc.specs.Refused.{IsOverfull}
use Rattle.poolcc.proofs.FirstValues.{overfull}
use Rattle.poolcc.proofs.text.image_of.Goals as goal

pub returns-in-Err-Graph-clause-stop : goal.returns-in-Err-Graph-clause-stop
returns-in-Err-Graph-clause-stop c =
    let found = c.in-Ok.ensures.found in
    let count = c.in-Err-Graph.count in
    subst (IsOverfull c.args.text.now) (sym c.in-Err-Graph.count-is)
    (overfull c.args.text.now found.0 c.in-Ok.typed count found.1 found.2 found.3 (c.in-Err-Graph.ensures.refused count (ap Err c.in-Err-Graph.field-0-is)))
