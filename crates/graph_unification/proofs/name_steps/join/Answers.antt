use Rattle.std.proofs.Common.{sym}
use Rattle.c_typed.specs.Table.{structs_in}
use Rattle.heap_graph.specs.Memory.{target_of}
use Rattle.graph_unification.specs.Memory.{name_of, graph_in}
use Rattle.graph_unification.proofs.NamedSteps.{if_both, joined}
use Rattle.graph_unification.proofs.name_steps.join.Goals as goal

pub make_one-requires-clause-first : goal.make_one-requires-clause-first
make_one-requires-clause-first c = c.requires.graph.sound.names (name_of c.args.a) (target_of c.in-Some.one) (sym (c.in-Some.ensures c.args.types.now c.requires.graph))

pub make_one-requires-clause-second : goal.make_one-requires-clause-second
make_one-requires-clause-second c = c.requires.graph.sound.names (name_of c.args.b) (target_of c.in-Some-target.other) (sym (c.in-Some-target.ensures c.args.types.now c.requires.graph))

pub returns-clause-applies : goal.returns-clause-applies
returns-clause-applies c =
    let table = c.args.types.now in
    let fine = c.requires.graph in
    let one = target_of c.in-Some.one in
    let other = target_of c.in-Some-target.other in
    let a = name_of c.args.a in
    let b = name_of c.args.b in
    let old = graph_in table c.args.graph.now in
    let new = graph_in table c.make_one.new.graph in
    if_both c.make_one.result c.make_one.ensures.names c.make_one.ensures.least c.make_one.ensures.done
    (λ names least changed done. joined (structs_in table) c.requires.made old new fine.sound changed names a b one other (sym (c.in-Some.ensures table fine)) (sym (c.in-Some-target.ensures table fine)) least done)
