use Rattle.std.proofs.Common.{sym, ◌∙◌}
use Rattle.c_typed.specs.Table.{structs_in}
use Rattle.heap_graph.specs.Memory.{target_of}
use Rattle.graph_unification.specs.Memory.{name_of, graph_in}
use Rattle.graph_unification.proofs.NamedSteps.{on_ok}
use Rattle.dsa_local.proofs.Joining.{joins_certain, joins_passed}
use Rattle.dsa_local.proofs.names.pass.Goals as goal

pub returns-clause-joins : goal.returns-clause-joins
returns-clause-joins c =
    let table = c.args.types.now in
    let structs = structs_in table in
    let fine = c.requires.graph in
    let own = c.mark.ensures in
    let name = name_of c.args.argument in
    let target = target_of c.in-Some.target in
    let at = sym (c.in-Some.ensures table fine) in
    let slot = fine.sound.names name target at in
    let old = graph_in table c.args.graph.now in
    let middle = graph_in table c.mark.new.graph in
    let certain = joins_certain structs c.requires.made old middle fine.sound (own.names table) c.mark.result name target at (own.least table c.requires.made fine (slot.node, slot.is)) (own.done table fine (slot.node, slot.is)) in
    on_ok c.join.result c.join.ensures.joins
    (λ then. joins_passed structs c.requires.made old middle fine.sound (own.names table) (graph_in table c.join.new.graph) (own.graph table fine).sound name (name_of c.args.formal) certain then)

pub join-requires-clause-first : goal.join-requires-clause-first
join-requires-clause-first c = c.mark.ensures.names c.args.types.now (name_of c.args.argument) ∙ c.requires.argument

pub join-requires-clause-second : goal.join-requires-clause-second
join-requires-clause-second c = c.mark.ensures.names c.args.types.now (name_of c.args.formal) ∙ c.requires.formal
