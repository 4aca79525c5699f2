use Rattle.std.proofs.Common.{refl}
use Rattle.std.proofs.lemmas.Option.{slice_get_within}
use Rattle.heap_graph.specs.Memory.{flags_of}
use Rattle.graph_unification.proofs.Told.{element_there, no_element}
use Rattle.graph_unification.proofs.Built.{sets_flags, graph_flags, sets_none}
use Rattle.graph_unification.proofs.graph.Graph.set_flags.Goals as goal

pub set_flags-requires : goal.set_flags-requires
set_flags-requires c = let there = element_there c.args.self.now.nodes.list.items c.args.number _ c.in-Some.ensures in slice_get_within c.args.self.now.nodes.list.items c.args.number _ there.1

pub returns-in-Some-clause-graph : goal.returns-in-Some-clause-graph
returns-in-Some-clause-graph c = λ table fine.
    let there = element_there c.args.self.now.nodes.list.items c.args.number _ c.in-Some.ensures in
    graph_flags table c.args.self.now (record { nodes = c.set_flags.new.self; names = c.args.self.now.names }) c.args.number c.args.flags there.0 refl (c.set_flags.ensures there.0 there.1) fine

pub returns-in-Some-clause-sets : goal.returns-in-Some-clause-sets
returns-in-Some-clause-sets c = λ table.
    let there = element_there c.args.self.now.nodes.list.items c.args.number _ c.in-Some.ensures in
    sets_flags table c.args.self.now (record { nodes = c.set_flags.new.self; names = c.args.self.now.names }) c.args.number c.args.flags there.0 refl (c.set_flags.ensures there.0 there.1)

pub returns-in-None-clause-graph : goal.returns-in-None-clause-graph
returns-in-None-clause-graph c = λ table fine. fine

pub returns-in-None-clause-sets : goal.returns-in-None-clause-sets
returns-in-None-clause-sets c = λ table. sets_none table c.args.self.now c.args.number (flags_of c.args.flags) (no_element c.args.self.now.nodes.list.items c.args.number c.in-None.ensures)
