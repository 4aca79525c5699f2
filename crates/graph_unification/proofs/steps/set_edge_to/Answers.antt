use Rattle.std.proofs.Common.{Some, ap, ◌∙◌}
use Rattle.c_typed.specs.Table.{structs_in}
use Rattle.heap_graph.specs.Memory.{target_of}
use Rattle.heap_graph.specs.Merging.{HasEdge}
use Rattle.graph_unification.specs.Memory.{graph_in}
use Rattle.graph_unification.proofs.LeastGraphs.{least_same}
use Rattle.graph_unification.proofs.Named.{names_with}
use Rattle.graph_unification.proofs.Seen.{same_target, edge_seen, edge_here}
use Rattle.graph_unification.proofs.steps.set_edge_to.Goals as goal

pub returns-then-end-to-2-clause-least : goal.returns-then-end-to-2-clause-least
returns-then-end-to-2-clause-least c =
    let table = c.args.types.now in
    let graph = graph_in table c.args.graph.now in
    let at = target_of c.args.at in
    let end = target_of c.in-Some.end in
    let to = target_of c.args.to in
    let seen = edge_seen (structs_in table) graph at end c.requires.from (c.in-Some.ensures table c.requires.graph) ∙ ap Some (same_target end to c.if-end-to.true c.if-end-to-2.true) in
    least_same (structs_in table) c.requires.made graph c.requires.graph.sound (HasEdge at.node at.shift to) (edge_here (structs_in table) graph at to c.requires.from c.requires.to seen)

pub returns-clause-names : goal.returns-clause-names
returns-clause-names c =
    let table = c.args.types.now in
    let old = graph_in table c.args.graph.now in
    let new = graph_in table c.set_edge.new.self in
    let asked = HasEdge c.args.at.node c.args.at.shift (target_of c.args.to) in
    names_with (structs_in table) old new asked c.requires.graph.sound c.in_ok-set_edge.ensures.graph.sound c.in_ok-set_edge.ensures.least (λ targets. c.in_ok-set_edge.ensures.least.holds)
