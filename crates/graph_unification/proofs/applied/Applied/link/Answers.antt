use Rattle.std.proofs.Common.{sym}
use Rattle.tac_ir.specs.Views.{path_in}
use Rattle.heap_graph.specs.Memory.{target_of}
use Rattle.graph_unification.specs.Memory.{name_of}
use Rattle.graph_unification.specs.Applying.{code_of, owner_of, shown}
use Rattle.graph_unification.proofs.NamedSteps.{if_both}
use Rattle.graph_unification.proofs.PathSteps.{place_is_slot, place_there, linked}
use Rattle.graph_unification.proofs.applied.Applied.link.Goals as goal

pub set_edge_to-requires-clause-to : goal.set_edge_to-requires-clause-to
set_edge_to-requires-clause-to c = c.requires.graph.sound.names (name_of c.args.name) (target_of c.in-Some-target.target) (sym (c.in-Some-target.ensures c.args.self.tac.now.types c.requires.graph))

pub set_edge_to-requires-clause-from : goal.set_edge_to-requires-clause-from
set_edge_to-requires-clause-from c =
    let own = c.args.self in
    place_is_slot (code_of own) c.requires.known.made (owner_of own) (shown own c.args.graph.now) c.requires.graph.sound (path_in own.tac.now.types c.args.path.now) c.requires.fits c.requires.typed c.requires.base
    (target_of c.in-Some.place) c.in-Some.ensures

pub returns-clause-applies : goal.returns-clause-applies
returns-clause-applies c =
    let own = c.args.self in
    let table = own.tac.now.types in
    if_both c.set_edge_to.result c.set_edge_to.ensures.names c.set_edge_to.ensures.least c.set_edge_to.ensures.done
    (λ names least changed done.
    linked (code_of own) c.requires.known.made (owner_of own) (shown own c.args.graph.now) (shown own c.set_edge_to.new.graph) c.requires.graph.sound changed names (path_in table c.args.path.now) c.requires.base
    (name_of c.args.name) (target_of c.in-Some-target.target) (target_of c.in-Some.place) (sym (c.in-Some-target.ensures table c.requires.graph)) (sym c.in-Some.ensures) least done)

pub returns-in_default-clause-applies : goal.returns-in_default-clause-applies
returns-in_default-clause-applies c =
    let own = c.args.self in
    absurd (place_there (code_of own) c.requires.known.made (owner_of own) (shown own c.args.graph.now) c.requires.graph.sound (path_in own.tac.now.types c.args.path.now) c.requires.fits c.requires.typed c.requires.base
    c.in_default.ensures)
