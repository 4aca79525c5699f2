use Rattle.std.proofs.Common.{map, subst, None}
use Rattle.tac_ir.specs.Views.{tac_of}
use Rattle.heap_graph.specs.Closed.{no_graph}
use Rattle.graph_unification.specs.Memory.{owner_of, graph_in}
use Rattle.dsa_local.specs.Beginning.{AddsOwners}
use Rattle.dsa_local.proofs.Steps.{blank_is, owners_go_on, owners_end}
use Rattle.dsa_local.proofs.GroupBegins.Beginning.{group_begins}
use Rattle.dsa_local.proofs.Telling.{begins_told, begins_copies, begins_named}
use Rattle.dsa_local.proofs.group.begin_group.Goals as goal

pub loop-owner-init : goal.loop-owner-init
loop-owner-init c =
    let tac = c.args.tac.now in
    record {
      graph = c.new-graph.ensures.graph tac.types;
      goes_on = λ new rest.
          subst (λ start. AddsOwners (tac_of tac) (map owner_of c.args.owners.now) start new) (blank_is (graph_in tac.types c.new-graph.result) (c.new-graph.ensures.blank tac.types)) rest;
    }

pub loop-owner-preserved : goal.loop-owner-preserved
loop-owner-preserved c =
    let tac = c.args.tac.now in
    let show = graph_in tac.types in
    record {
      graph = c.in_ok-add_owner.ensures.graph;
      goes_on = owners_go_on (tac_of tac) owner_of c.args.owners.now no_graph c.loop-owner.owner-index None c.loop-owner-test.true (show c.loop-owner.graph) (show c.add_owner.new.graph) c.loop-owner.invariant.goes_on
          c.in_ok-add_owner.ensures.adds;
    }

pub returns-clause-begins : goal.returns-clause-begins
returns-clause-begins c =
    let tac = c.args.tac.now in
    let owners = map owner_of c.args.owners.now in
    let graph = graph_in tac.types c.loop-owner.graph in
    group_begins (tac_of tac) owners graph (owners_end (tac_of tac) owner_of c.args.owners.now no_graph c.loop-owner.owner-index c.loop-owner-test.false graph c.loop-owner.invariant.goes_on)

pub returns-clause-told : goal.returns-clause-told
returns-clause-told c =
    let tac = c.args.tac.now in
    let owners = map owner_of c.args.owners.now in
    let graph = graph_in tac.types c.loop-owner.graph in
    begins_told (tac_of tac) c.requires.code owners graph
    (group_begins (tac_of tac) owners graph (owners_end (tac_of tac) owner_of c.args.owners.now no_graph c.loop-owner.owner-index c.loop-owner-test.false graph c.loop-owner.invariant.goes_on))

pub returns-clause-copies : goal.returns-clause-copies
returns-clause-copies c =
    let tac = c.args.tac.now in
    let owners = map owner_of c.args.owners.now in
    let graph = graph_in tac.types c.loop-owner.graph in
    begins_copies (tac_of tac) c.requires.code owners graph
    (group_begins (tac_of tac) owners graph (owners_end (tac_of tac) owner_of c.args.owners.now no_graph c.loop-owner.owner-index c.loop-owner-test.false graph c.loop-owner.invariant.goes_on))

pub returns-clause-named : goal.returns-clause-named
returns-clause-named c =
    let tac = c.args.tac.now in
    let owners = map owner_of c.args.owners.now in
    let graph = graph_in tac.types c.loop-owner.graph in
    begins_named (tac_of tac) c.requires.code owners graph
    (group_begins (tac_of tac) owners graph (owners_end (tac_of tac) owner_of c.args.owners.now no_graph c.loop-owner.owner-index c.loop-owner-test.false graph c.loop-owner.invariant.goes_on))
