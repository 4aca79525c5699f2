use Rattle.std.proofs.Common.{sym}
use Rattle.c_typed.specs.Table.{structs_in}
use Rattle.heap_graph.specs.Memory.{target_of}
use Rattle.graph_unification.specs.Memory.{name_of, graph_in}
use Rattle.dsa_local.proofs.Joining.{joins_one}
use Rattle.dsa_local.proofs.names.join.Goals as goal

pub make_one-requires-clause-first : goal.make_one-requires-clause-first
make_one-requires-clause-first c = c.requires.graph.sound.names (name_of c.args.a) (target_of c.in-Some.one) (sym (c.in-Some.ensures c.args.types.now c.requires.graph))

pub make_one-requires-clause-second : goal.make_one-requires-clause-second
make_one-requires-clause-second c = c.requires.graph.sound.names (name_of c.args.b) (target_of c.in-Some-target.other) (sym (c.in-Some-target.ensures c.args.types.now c.requires.graph))

pub returns-clause-joins : goal.returns-clause-joins
returns-clause-joins c =
    let table = c.args.types.now in
    let fine = c.requires.graph in
    let its = c.in_ok-make_one.ensures in
    joins_one (structs_in table) c.requires.made (graph_in table c.args.graph.now) (graph_in table c.make_one.new.graph) fine.sound its.names (name_of c.args.a) (name_of c.args.b)
    (target_of c.in-Some.one) (target_of c.in-Some-target.other) (sym (c.in-Some.ensures table fine)) (sym (c.in-Some-target.ensures table fine)) its.least
