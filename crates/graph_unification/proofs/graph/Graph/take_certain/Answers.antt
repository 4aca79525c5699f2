use Rattle.std.proofs.Common.{refl}
use Rattle.graph_unification.proofs.graph.Graph.take_certain.Goals as goal

pub returns-clause-graph : goal.returns-clause-graph
returns-clause-graph c = λ table fine. record { held = fine.held; apart = fine.apart; stand = fine.stand; slots = fine.slots; sound = fine.sound }

pub returns-clause-same : goal.returns-clause-same
returns-clause-same c = λ table. refl
