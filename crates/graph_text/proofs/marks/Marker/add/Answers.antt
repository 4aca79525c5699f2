use Rattle.std.proofs.Common.{refl}
use Rattle.graph_text.specs.Adding.{scope_at}
use Rattle.graph_text.proofs.MarksAdded.{adds-one}
use Rattle.graph_text.proofs.marks.Marker.add.Goals as goal

pub returns-clause-scope : goal.returns-clause-scope
unfolding scope_at
returns-clause-scope c = refl

pub returns-clause-marks : goal.returns-clause-marks
returns-clause-marks c = adds-one c.args.self.now (record { pass = c.args.self.now.pass; marks = c.push.new.self }) c.args.mark c.in_ok-push.ensures.items
