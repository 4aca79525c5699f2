use Rattle.graph_text.specs.Adding.{scope_at}
use Rattle.graph_text.proofs.marks.Marker.declare.Goals as goal

pub returns-clause-scope : goal.returns-clause-scope
unfolding scope_at
returns-clause-scope c = c.declare_local.ensures
