use Rattle.std.proofs.Common.{Some, sym, ap, ◌∙◌}
use Rattle.heap_graph.specs.Memory.{target_of}
use Rattle.graph_unification.specs.Memory.{graph_in}
use Rattle.heap_graph.specs.Restricted.{if_certain}
use Rattle.heap_graph.proofs.Certain.{if_yes, if_not}
use Rattle.graph_unification.proofs.certain.certain_target.Goals as goal

pub returns-then-is_certain : goal.returns-then-is_certain
returns-then-is_certain c = λ table fine.
    sym (if_yes (graph_in table c.args.graph.now) (Some (target_of c.in-Some.target)) (sym (c.is_certain.ensures table) ∙ c.if-is_certain.true)) ∙ ap (if_certain (graph_in table c.args.graph.now)) (c.in-Some.ensures table fine)

pub returns-else-is_certain : goal.returns-else-is_certain
returns-else-is_certain c = λ table fine.
    sym (if_not (graph_in table c.args.graph.now) (Some (target_of c.in-Some.target)) (sym (c.is_certain.ensures table) ∙ c.if-is_certain.false)) ∙ ap (if_certain (graph_in table c.args.graph.now)) (c.in-Some.ensures table fine)
