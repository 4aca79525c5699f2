use Rattle.std.proofs.Common.{sym}
use Rattle.c_typed.specs.Table.{structs_in, type_in}
use Rattle.heap_graph.specs.Memory.{target_of}
use Rattle.graph_unification.specs.Memory.{name_of, graph_in}
use Rattle.graph_unification.proofs.NamedSteps.{if_both, on_ok, told_at, untold, told_now, untold_now}
use Rattle.graph_unification.proofs.name_steps.tell.Goals as goal

pub returns-then-not-is_complete-clause-applies : goal.returns-then-not-is_complete-clause-applies
returns-then-not-is_complete-clause-applies c =
    let table = c.args.types.now in
    untold (structs_in table) c.requires.made (graph_in table c.args.graph.now) c.requires.graph.sound (name_of c.args.name) (type_in table c.args.c_type) (sym c.if-not-is_complete.ensures)

pub tell-requires-clause-at : goal.tell-requires-clause-at
tell-requires-clause-at c = c.requires.graph.sound.names (name_of c.args.name) (target_of c.in-Some.target) (sym (c.in-Some.ensures c.args.types.now c.requires.graph))

pub returns-clause-applies : goal.returns-clause-applies
returns-clause-applies c =
    let table = c.args.types.now in
    let fine = c.requires.graph in
    let target = target_of c.in-Some.target in
    let name = name_of c.args.name in
    let own = type_in table c.args.c_type in
    if_both c.tell.result c.tell.ensures.names c.tell.ensures.least c.tell.ensures.done
    (λ names least changed done. told_at (structs_in table) c.requires.made (graph_in table c.args.graph.now) (graph_in table c.tell.new.graph) fine.sound changed names name target own (sym c.if-not-is_complete.ensures) (sym (c.in-Some.ensures table fine)) least done)

pub returns-clause-told : goal.returns-clause-told
returns-clause-told c =
    let table = c.args.types.now in
    on_ok c.tell.result c.tell.ensures.least
    (λ least. told_now (structs_in table) (graph_in table c.args.graph.now) (graph_in table c.tell.new.graph) (name_of c.args.name) (target_of c.in-Some.target) (type_in table c.args.c_type) (sym c.if-not-is_complete.ensures)
    (sym (c.in-Some.ensures table c.requires.graph)) least)

pub returns-then-not-is_complete-clause-told : goal.returns-then-not-is_complete-clause-told
returns-then-not-is_complete-clause-told c =
    let table = c.args.types.now in
    untold_now (structs_in table) (graph_in table c.args.graph.now) (name_of c.args.name) (type_in table c.args.c_type) (sym c.if-not-is_complete.ensures)
