use Rattle.std.proofs.Common.{sym, subst}
use Rattle.heap_graph.specs.Graphs.{node_at}
use Rattle.graph_unification.specs.Memory.{graph_in}
use Rattle.graph_unification.specs.Freezing.{Freezes}
use Rattle.graph_unification.proofs.FrozenNodes.{node_of_bare}
use Rattle.graph_unification.proofs.node_graphs.frozen_graph.Goals as goal

pub returns : goal.returns
returns c = λ table fine. record {
  nodes = λ number. subst (Freezes (graph_in table c.args.graph.now) (node_at (graph_in table c.args.graph.now) number)) (sym (node_of_bare table (record { nodes = c.in_ok-nodes.nodes; globals = c.in_ok-globals.globals; literals = c.in_ok-literals.literals }) number)) (c.in_ok-nodes.ensures table fine number);
  of_globals = c.in_ok-globals.ensures table fine;
  of_literals = c.in_ok-literals.ensures table fine;
}
