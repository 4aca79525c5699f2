use Rattle.std.proofs.Common.{sym, subst, ◌∙◌}
use Rattle.std.proofs.lemmas.Option.{same_Some}
use Rattle.c_typed.specs.Table.{structs_in}
use Rattle.heap_graph.specs.Memory.{target_of}
use Rattle.heap_graph.specs.Merging.{IsSlot}
use Rattle.graph_unification.specs.Memory.{graph_in}
use Rattle.heap_graph.specs.Frozen.{edge_of}
use Rattle.dsa_inlining.specs.Copied.{numbers_in}
use Rattle.dsa_inlining.proofs.Linked.{links_one}
use Rattle.dsa_inlining.proofs.edges.copy_edge.Goals as goal

pub returns-clause-links : goal.returns-clause-links
returns-clause-links c =
    let table = c.args.types.now in
    let structs = structs_in table in
    let old = graph_in table c.args.graph.now in
    let to = target_of c.in-Some-place.to in
    let at_to = sym (c.in-Some-place.ensures table c.requires.graph c.requires.to) in
    links_one structs c.requires.made old (graph_in table c.set_edge_to.new.graph) (numbers_in c.args.copies.now) c.args.number (edge_of c.args.edge) (target_of c.in-Some.from) to c.requires.graph.sound
    (sym (c.in-Some.ensures table c.requires.graph c.requires.from)) at_to (subst (IsSlot structs old) (same_Some c.requires.to.place to (sym c.requires.to.is ∙ at_to)) c.requires.to.slot)
    c.in_ok-set_edge_to.ensures.least c.in_ok-set_edge_to.ensures.names
