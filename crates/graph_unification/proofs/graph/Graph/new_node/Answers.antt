use Rattle.std.proofs.Common.{◌≡◌, [], length, refl, subst, arith}
use Rattle.heap_graph.specs.Memory.{element_in, flags_of}
use Rattle.graph_unification.specs.Memory.{graph_in}
use Rattle.graph_unification.specs.Changes.{AddsNode}
use Rattle.graph_unification.proofs.Built.{adds_node, graph_more}
use Rattle.graph_unification.proofs.graph.Graph.new_node.Goals as goal

pub returns-clause-graph : goal.returns-clause-graph
returns-clause-graph c = λ table fine stands. graph_more table c.args.self.now (record { nodes = record { alloc = c.args.self.now.nodes.alloc; list = c.push.new.self; cells = c.args.self.now.nodes.cells; hints = c.args.self.now.nodes.hints }; names = c.args.self.now.names }) (record { element = c.args.element; flags = c.args.flags; edges = c.new.result; cells = c.new-2.result }) fine c.in-Ok.ensures.items refl refl c.new.ensures.items stands

pub returns-clause-adds : goal.returns-clause-adds
returns-clause-adds c = λ table fine.
    let is = c.len-number.ensures in
    let len = c.args.self.now.nodes.list.ok.0 in
    let same : length c.args.self.now.nodes.list.items ≡ c.len-number.result = omega (arith, is, len) in
    subst (λ n. AddsNode (graph_in table c.args.self.now) (graph_in table (record { nodes = record { alloc = c.args.self.now.nodes.alloc; list = c.push.new.self; cells = c.args.self.now.nodes.cells; hints = c.args.self.now.nodes.hints }; names = c.args.self.now.names })) n (record { element = element_in table c.args.element; flags = flags_of c.args.flags; edges = [] })) same
    (adds_node table c.args.self.now (record { nodes = record { alloc = c.args.self.now.nodes.alloc; list = c.push.new.self; cells = c.args.self.now.nodes.cells; hints = c.args.self.now.nodes.hints }; names = c.args.self.now.names }) (record { element = c.args.element; flags = c.args.flags; edges = c.new.result; cells = c.new-2.result }) fine c.in-Ok.ensures.items refl refl c.new.ensures.items)
