use Rattle.graph_text.specs.Adding.{scope_at}
use Rattle.graph_text.proofs.marks.Marker.declare_item.Goals as goal

pub declare_item-requires : goal.declare_item-requires
unfolding scope_at
declare_item-requires c = c.requires

pub returns-clause-scope : goal.returns-clause-scope
unfolding scope_at
returns-clause-scope c = c.declare_item.ensures.scope

pub returns-clause-outside : goal.returns-clause-outside
unfolding scope_at
returns-clause-outside c = c.declare_item.ensures.outside
