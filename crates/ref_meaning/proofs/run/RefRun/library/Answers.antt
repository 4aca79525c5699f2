use Rattle.std.proofs.Common.{arith, subst}
use Rattle.ref_meaning.specs.declared.control.Control.{Control}
use Rattle.ref_meaning.specs.Views.{table_of}
use Rattle.ref_meaning.specs.Holding.{NodeStands}
use Rattle.ref_meaning.proofs.Naming.{first-moves}
use Rattle.ref_meaning.proofs.run.RefRun.library.Goals as goal

pub returns-in-Some-clause-moves : goal.returns-in-Some-clause-moves
returns-in-Some-clause-moves c =
    let old = c.args.self.now in
    first-moves old c.wait.new.self c.args.call c.in-Some.first c.args.groups c.wait.result c.requires.holds c.requires.control (omega (arith, c.if-groups-gt0.false))
    (c.in-Some.ensures.is (table_of old)) (c.in-Some.ensures.stands (table_of old) (subst (λ (x : Control). NodeStands (table_of old) x.node) c.requires.control c.requires.holds.node)) c.wait.ensures.waits c.wait.ensures.same c.wait.ensures.only
