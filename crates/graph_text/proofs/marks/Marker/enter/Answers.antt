use Rattle.graph_text.specs.Adding.{scope_at}
use Rattle.graph_text.proofs.marks.Marker.enter.Goals as goal

pub returns-clause-scope : goal.returns-clause-scope
unfolding scope_at
returns-clause-scope c = c.enter.ensures.scope.scope

pub returns-clause-outer : goal.returns-clause-outer
unfolding scope_at
returns-clause-outer c = c.enter.ensures.outer
