use Rattle.graph_text.specs.Adding.{scope_at}
use Rattle.graph_text.proofs.marks.Marker.leave.Goals as goal

pub leave-requires : goal.leave-requires
unfolding scope_at
leave-requires c = c.requires

pub returns-clause-scope : goal.returns-clause-scope
unfolding scope_at
returns-clause-scope c = λ block around split long. (c.leave.ensures block around split long).scope
