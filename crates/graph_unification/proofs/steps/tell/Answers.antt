use Rattle.std.proofs.Common.{refl}
use Rattle.c_typed.specs.Table.{structs_in, type_in}
use Rattle.heap_graph.specs.Graphs.{node_at}
use Rattle.heap_graph.specs.Memory.{target_of, element_in, flags_of}
use Rattle.graph_unification.specs.Memory.{graph_in}
use Rattle.graph_unification.specs.Asked.{HoldsPart}
use Rattle.graph_unification.proofs.LeastGraphs.{least_same}
use Rattle.graph_unification.proofs.Named.{names_same}
use Rattle.graph_unification.proofs.Seen.{told_node, told_none, part_seen, holds_here}
use Rattle.graph_unification.proofs.Telling.{as_told, start_slot, tells}
use Rattle.graph_unification.proofs.steps.tell.Goals as goal

pub returns-in_default-clause-least : goal.returns-in_default-clause-least
returns-in_default-clause-least c =
    let table = c.args.types.now in
    let graph = graph_in table c.args.graph.now in
    absurd (told_none table (node_at graph c.args.at.node) c.requires.at.node (c.in_default.ensures.tells table) c.requires.at.is)

pub returns-in_default-clause-done : goal.returns-in_default-clause-done
returns-in_default-clause-done c = λ same.
    let table = c.args.types.now in
    let graph = graph_in table c.args.graph.now in
    absurd (told_none table (node_at graph c.args.at.node) c.requires.at.node (c.in_default.ensures.tells table) c.requires.at.is)

pub returns-then-holds_part-clause-least : goal.returns-then-holds_part-clause-least
returns-then-holds_part-clause-least c =
    let table = c.args.types.now in
    let graph = graph_in table c.args.graph.now in
    let c_type = type_in table c.args.c_type in
    let at = target_of c.args.at in
    let told = told_node table graph c.args.at.node c.in-Some.element c.in-Some.field-0-1 (c.in-Some.ensures.tells table) in
    let seen = part_seen (structs_in table) c_type graph at told.node (element_in table c.in-Some.element) told.is told.element c.if-holds_part.ensures in
    least_same (structs_in table) c.requires.made graph c.requires.graph.sound (HoldsPart (structs_in table) c_type at) (holds_here (structs_in table) c_type graph at c.requires.at seen)

pub returns-then-holds_part-clause-done : goal.returns-then-holds_part-clause-done
returns-then-holds_part-clause-done c = λ same.
    let table = c.args.types.now in
    let graph = graph_in table c.args.graph.now in
    let told = told_node table graph c.args.at.node c.in-Some.element c.in-Some.field-0-1 (c.in-Some.ensures.tells table) in
    (refl, part_seen (structs_in table) (type_in table c.args.c_type) graph (target_of c.args.at) told.node (element_in table c.in-Some.element) told.is told.element c.if-holds_part.ensures)

pub merge-requires-clause-second : goal.merge-requires-clause-second
merge-requires-clause-second c =
    let table = c.args.types.now in
    let old = graph_in table c.args.graph.now in
    let middle = graph_in table c.new_node.new.self in
    let c_type = type_in table c.args.c_type in
    let adds = as_told old middle c.in_ok-node.node (type_in table c.number_of.result) c_type (flags_of c.no_flags.result) c.number_of.ensures.means c.no_flags.ensures (c.in_ok-node.ensures.adds table c.requires.graph) in
    start_slot (structs_in table) old middle middle c.in_ok-node.node c_type (target_of c.args.at) c.requires.graph.sound adds c.requires.at c.requires.some

pub returns-clause-names : goal.returns-clause-names
returns-clause-names c =
    let table = c.args.types.now in
    let old = graph_in table c.args.graph.now in
    let middle = graph_in table c.new_node.new.self in
    let new = graph_in table c.merge.new.self in
    let c_type = type_in table c.args.c_type in
    let at = target_of c.args.at in
    let adds = as_told old middle c.in_ok-node.node (type_in table c.number_of.result) c_type (flags_of c.no_flags.result) c.number_of.ensures.means c.no_flags.ensures (c.in_ok-node.ensures.adds table c.requires.graph) in
    let least = tells (structs_in table) old middle new c.in_ok-node.node c_type at c.requires.graph.sound adds c.requires.at c.in_ok-merge.ensures.least in
    names_same (structs_in table) old new (HoldsPart (structs_in table) c_type at) c.requires.graph.sound c.in_ok-merge.ensures.graph.sound least (λ targets. least.holds)

pub returns-clause-least : goal.returns-clause-least
returns-clause-least c =
    let table = c.args.types.now in
    let old = graph_in table c.args.graph.now in
    let middle = graph_in table c.new_node.new.self in
    let new = graph_in table c.merge.new.self in
    let c_type = type_in table c.args.c_type in
    let adds = as_told old middle c.in_ok-node.node (type_in table c.number_of.result) c_type (flags_of c.no_flags.result) c.number_of.ensures.means c.no_flags.ensures (c.in_ok-node.ensures.adds table c.requires.graph) in
    tells (structs_in table) old middle new c.in_ok-node.node c_type (target_of c.args.at) c.requires.graph.sound adds c.requires.at c.in_ok-merge.ensures.least
