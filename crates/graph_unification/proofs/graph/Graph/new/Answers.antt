use Rattle.graph_unification.proofs.Blank.{blank, blank_graph}
use Rattle.graph_unification.proofs.graph.Graph.new.Goals as goal

pub returns-clause-graph : goal.returns-clause-graph
returns-clause-graph c = λ table. blank_graph table (record { nodes = record { alloc = c.args.alloc; list = c.new.result; cells = c.new-2.result; hints = c.new-3.result }; names = c.new-4.result }) c.new.ensures.items c.new-2.ensures.items c.new-4.ensures.empty

pub returns-clause-blank : goal.returns-clause-blank
returns-clause-blank c = λ table. blank table (record { nodes = record { alloc = c.args.alloc; list = c.new.result; cells = c.new-2.result; hints = c.new-3.result }; names = c.new-4.result }) c.new.ensures.items c.new-2.ensures.items c.new-4.ensures.empty
