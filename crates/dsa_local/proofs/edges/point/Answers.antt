use Rattle.std.proofs.Common.{sym}
use Rattle.tac_ir.specs.Views.{tac_of}
use Rattle.heap_graph.specs.Memory.{target_of}
use Rattle.heap_graph.specs.Merging.{HasEdge}
use Rattle.graph_unification.specs.Memory.{graph_in}
use Rattle.dsa_local.specs.Roots.{base_at}
use Rattle.graph_unification.specs.GraphPremises.First.{path_to}
use Rattle.dsa_local.proofs.Storing.{edge_set, edge_asked}
use Rattle.dsa_local.proofs.RootPaths.{name_has, root_fits, place_slot, no_place}
use Rattle.dsa_local.proofs.Mentioning.{least_keeps}
use Rattle.dsa_local.proofs.edges.point.Goals as goal

pub place-requires-2-clause-fits : goal.place-requires-2-clause-fits
place-requires-2-clause-fits c =
    root_fits (tac_of c.args.tac.now) (graph_in c.args.tac.now.types c.args.graph.now) c.args.target c.args.parts.now c.requires.parts c.requires.to

pub returns-in-None-clause-keeps : goal.returns-in-None-clause-keeps
returns-in-None-clause-keeps c =
    absurd (no_place (tac_of c.args.tac.now) (graph_in c.args.tac.now.types c.args.graph.now) c.requires.code.made c.requires.graph.sound c.args.root c.args.leaf.now c.requires.leaf c.requires.from c.in-None.ensures)

pub returns-in-None-clause-edge : goal.returns-in-None-clause-edge
returns-in-None-clause-edge c =
    absurd (no_place (tac_of c.args.tac.now) (graph_in c.args.tac.now.types c.args.graph.now) c.requires.code.made c.requires.graph.sound c.args.root c.args.leaf.now c.requires.leaf c.requires.from c.in-None.ensures)

pub returns-in-None-place-clause-keeps : goal.returns-in-None-place-clause-keeps
returns-in-None-place-clause-keeps c =
    absurd (no_place (tac_of c.args.tac.now) (graph_in c.args.tac.now.types c.args.graph.now) c.requires.code.made c.requires.graph.sound c.args.target c.args.parts.now c.requires.parts c.requires.to
    c.in-None-place.ensures)

pub returns-in-None-place-clause-edge : goal.returns-in-None-place-clause-edge
returns-in-None-place-clause-edge c =
    absurd (no_place (tac_of c.args.tac.now) (graph_in c.args.tac.now.types c.args.graph.now) c.requires.code.made c.requires.graph.sound c.args.target c.args.parts.now c.requires.parts c.requires.to
    c.in-None-place.ensures)

pub set_edge_to-requires-clause-from : goal.set_edge_to-requires-clause-from
set_edge_to-requires-clause-from c =
    place_slot (tac_of c.args.tac.now) (graph_in c.args.tac.now.types c.args.graph.now) c.requires.code.made c.requires.graph.sound c.args.root c.args.leaf.now c.requires.leaf c.requires.from (target_of c.in-Some.at)
    c.in-Some.ensures

pub set_edge_to-requires-clause-to : goal.set_edge_to-requires-clause-to
set_edge_to-requires-clause-to c =
    place_slot (tac_of c.args.tac.now) (graph_in c.args.tac.now.types c.args.graph.now) c.requires.code.made c.requires.graph.sound c.args.target c.args.parts.now c.requires.parts c.requires.to
    (target_of c.in-Some-place.end) c.in-Some-place.ensures

pub returns-clause-keeps : goal.returns-clause-keeps
returns-clause-keeps c =
    let table = c.args.tac.now.types in
    least_keeps (tac_of c.args.tac.now) c.requires.code.made (graph_in table c.args.graph.now) (graph_in table c.set_edge_to.new.graph) c.requires.graph.sound
    (HasEdge (target_of c.in-Some.at).node (target_of c.in-Some.at).shift (target_of c.in-Some-place.end)) c.in_ok-set_edge_to.ensures.least c.in_ok-set_edge_to.ensures.names
    (λ other into maps fits.
    edge_asked (tac_of c.args.tac.now) c.requires.code.made (graph_in table c.args.graph.now) c.requires.graph.sound (target_of c.in-Some.at) (target_of c.in-Some-place.end)
    (path_to (base_at c.args.root) c.args.leaf.now) (path_to (base_at c.args.target) c.args.parts.now) (name_has (tac_of c.args.tac.now) (graph_in table c.args.graph.now) c.args.root c.requires.from)
    (name_has (tac_of c.args.tac.now) (graph_in table c.args.graph.now) c.args.target c.requires.to) (sym c.in-Some.ensures) (sym c.in-Some-place.ensures) other into maps (c.requires.asked other fits.told))

pub returns-clause-edge : goal.returns-clause-edge
returns-clause-edge c =
    let table = c.args.tac.now.types in
    let tac = tac_of c.args.tac.now in
    let old = graph_in table c.args.graph.now in
    edge_set tac c.requires.code.made old (graph_in table c.set_edge_to.new.graph) c.requires.graph.sound (target_of c.in-Some.at) (target_of c.in-Some-place.end) c.in_ok-set_edge_to.ensures.least
    (path_to (base_at c.args.root) c.args.leaf.now) (path_to (base_at c.args.target) c.args.parts.now) (name_has tac old c.args.root c.requires.from) (name_has tac old c.args.target c.requires.to)
    (sym c.in-Some.ensures) (sym c.in-Some-place.ensures)
