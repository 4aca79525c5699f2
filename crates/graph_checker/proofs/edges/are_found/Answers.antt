use Rattle.std.proofs.Common.{sym, ap, ◌∙◌}
use Rattle.heap_graph.specs.Frozen.{edges_of}
use Rattle.graph_checker.specs.Tests.{ascend_from}
use Rattle.graph_checker.proofs.EdgesTold.{ascending_found}
use Rattle.graph_checker.proofs.edges.are_found.Goals as goal

pub returns-then-ascend : goal.returns-then-ascend
returns-then-ascend c = sym (ascending_found (edges_of c.args.node.now.edges.items) 0 (ap (λ edges. ascend_from 0 (edges_of edges)) (sym c.as_slice.ensures.value) ∙ sym c.if-ascend.ensures))
