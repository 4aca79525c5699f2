use Rattle.std.proofs.Common.{subst}
use Rattle.ref_meaning.specs.Holding.{NodeStands}
use Rattle.ref_meaning.proofs.entry.beginning.Goals as goal

pub returns-in-Object-clause-stands : goal.returns-in-Object-clause-stands
returns-in-Object-clause-stands c = λ table stands. c.object_entry.ensures.stands table c.args.node (subst (NodeStands table) c.in-Object.is stands)

pub returns-in-Address-clause-stands : goal.returns-in-Address-clause-stands
returns-in-Address-clause-stands c = λ table stands. c.address_entry.ensures.stands table c.args.node (subst (NodeStands table) c.in-Address.is stands)

pub returns-in-Designator-clause-stands : goal.returns-in-Designator-clause-stands
returns-in-Designator-clause-stands c = λ table stands. c.designator_entry.ensures.stands table c.args.node (subst (NodeStands table) c.in-Designator.is stands)
