use Rattle.std.proofs.Common.{IfSome, sym, subst}
use Rattle.ref_meaning.specs.Fitting.{IsObjectType}
use Rattle.ref_meaning.specs.Trees.{TypesFit}
use Rattle.ref_meaning.specs.Holding.{NodeStands}
use Rattle.ref_meaning.proofs.Arguments.{parameter-stands}
use Rattle.ref_meaning.proofs.call.parameter.Goals as goal

pub returns-in-Body-clause-stands : goal.returns-in-Body-clause-stands
returns-in-Body-clause-stands c = λ table stands.
    subst (λ r. IfSome r (IsObjectType table)) (sym c.copied.ensures)
    (parameter-stands table c.deref.result.now c.args.number c.get.result c.get.ensures.lookup (subst (TypesFit table) (sym c.deref.ensures.value) (subst (NodeStands table) c.in-Body.is stands).1))
