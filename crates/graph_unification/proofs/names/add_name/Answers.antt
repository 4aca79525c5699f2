use Rattle.std.proofs.Common.{refl}
use Rattle.c_typed.specs.Table.{structs_in}
use Rattle.graph_unification.specs.Memory.{name_of, graph_in}
use Rattle.graph_unification.proofs.OneName.{added}
use Rattle.graph_unification.proofs.names.add_name.Goals as goal

pub returns-clause-graph : goal.returns-clause-graph
returns-clause-graph c =
    let table = c.args.types.now in
    c.in_ok-set_target.ensures.graph table (c.in_ok-node.ensures.graph table c.requires.graph c.requires.stands)
    (record { node = _; is = (c.in_ok-node.ensures.adds table c.requires.graph).at; inside = c.requires.slot })

pub returns-clause-adds : goal.returns-clause-adds
returns-clause-adds c =
    let table = c.args.types.now in
    let adds = c.in_ok-node.ensures.adds table c.requires.graph in
    added (structs_in table) (graph_in table c.args.graph.now) (graph_in table c.new_node.new.self) (graph_in table c.set_target.new.self) (name_of c.args.name) _ c.in_ok-node.node
    c.requires.graph.sound adds
    (c.in_ok-set_target.ensures.sets table (c.in_ok-node.ensures.graph table c.requires.graph c.requires.stands) (record { node = _; is = adds.at; inside = c.requires.slot }))
    c.requires.none refl
