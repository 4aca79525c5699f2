use Rattle.heap_graph.specs.Memory.{target_of}
use Rattle.graph_unification.specs.Memory.{graph_in}
use Rattle.graph_unification.proofs.CertainTargets.{flag_told, none_told}
use Rattle.graph_unification.proofs.certain.is_certain.Goals as goal

pub returns-in-Some : goal.returns-in-Some
returns-in-Some c = λ table. flag_told table (graph_in table c.args.graph.now) (target_of c.args.target) c.in-Some.field-0-0 c.in-Some.flags (c.in-Some.ensures.tells table)

pub returns-in-None : goal.returns-in-None
returns-in-None c = λ table. none_told table (graph_in table c.args.graph.now) (target_of c.args.target) (c.in-None.ensures.tells table)
