use Rattle.std.proofs.Common.{◌≡◌, get_or, length, None, arith}
use Rattle.std.proofs.lemmas.Option.{slice_get-get_or}
use Rattle.tac_ir.specs.Views.{tac_of}
use Rattle.dsa_inlining.specs.Before.{graphs_before}
use Rattle.dsa_inlining.specs.Crossings.{owners_in}
use Rattle.dsa_inlining.specs.CallSteps.{shown}
use Rattle.dsa_inlining.proofs.Collected.{owner_named, none_so_far, more_so_far, all_crossed}
use Rattle.dsa_inlining.proofs.GroupCrossings.ToldGroups.{none_known, known_bases}
use Rattle.dsa_inlining.proofs.before.Before.cross_all.Goals as goal

pub loop-owner-init : goal.loop-owner-init
loop-owner-init c = record {
  graph = c.requires.graph;
  so_far = none_so_far (graphs_before c.args.self) c.requires.known.code.made c.args.group c.args.owners.now _ (shown c.args.self c.args.graph.now) c.new-all.ensures.items c.requires.graph.sound c.requires.copies;
  joined = none_known (graphs_before c.args.self) c.new-joined.result (shown c.args.self c.args.graph.now) c.new-joined.ensures.told c.new-joined.ensures.bases;
}

pub cross_owner-requires-clause-reached : goal.cross_owner-requires-clause-reached
cross_owner-requires-clause-reached c =
    let owners = c.args.owners.now in
    let i = c.loop-owner.owner-index in
    c.requires.reached i (get_or owners i None) (slice_get-get_or owners i None c.loop-owner-test.true)

pub cross_owner-requires-clause-graph : goal.cross_owner-requires-clause-graph
cross_owner-requires-clause-graph c = c.loop-owner.invariant.graph

pub cross_owner-requires-clause-named : goal.cross_owner-requires-clause-named
cross_owner-requires-clause-named c =
    let self = c.args.self in
    let owners = c.args.owners.now in
    let i = c.loop-owner.owner-index in
    owner_named (tac_of self.tac.now) owners (shown self c.loop-owner.graph) (c.loop-owner.invariant.so_far.told (owners_in owners) c.requires.told) i (get_or owners i None)
    (slice_get-get_or owners i None c.loop-owner-test.true)

pub cross_owner-requires-clause-free : goal.cross_owner-requires-clause-free
cross_owner-requires-clause-free c = c.loop-owner.invariant.so_far.free

pub cross_owner-requires-clause-joined : goal.cross_owner-requires-clause-joined
cross_owner-requires-clause-joined c = c.loop-owner.invariant.joined

pub loop-owner-preserved : goal.loop-owner-preserved
loop-owner-preserved c =
    let self = c.args.self in
    let owners = c.args.owners.now in
    let i = c.loop-owner.owner-index in
    let so_far = c.loop-owner.invariant in
    let its = c.in_ok-own.ensures in
    record {
      graph = its.graph;
      so_far = more_so_far (graphs_before self) c.requires.known.code.made c.args.group owners c.loop-owner.all.items i c.loop-owner.next (shown self c.args.graph.now) (shown self c.loop-owner.graph)
          (shown self c.cross_owner.new.graph) c.requires.graph.sound so_far.graph.sound so_far.so_far (get_or owners i None) (slice_get-get_or owners i None c.loop-owner-test.true) c.in_ok-own.own its.crosses
          c.push.new.self.items c.in_ok-push.ensures.items;
      joined = its.joined;
    }

pub returns-clause-graph : goal.returns-clause-graph
returns-clause-graph c = c.loop-owner.invariant.graph

pub returns-clause-goes : goal.returns-clause-goes
returns-clause-goes c = c.loop-owner.invariant.so_far.goes

pub returns-clause-told : goal.returns-clause-told
returns-clause-told c = c.loop-owner.invariant.so_far.told (owners_in c.args.owners.now) c.requires.told

pub returns-clause-crossed : goal.returns-clause-crossed
returns-clause-crossed c =
    let self = c.args.self in
    let owners = c.args.owners.now in
    let most = c.loop-owner.auto.owner-index-end in
    let all : c.loop-owner.owner-index ≡ length owners = omega (arith, c.loop-owner-test.false, most) in
    all_crossed (graphs_before self) c.requires.known.code.made c.args.group owners c.loop-owner.all.items c.loop-owner.owner-index c.loop-owner.next (shown self c.args.graph.now) (shown self c.loop-owner.graph) all
    c.loop-owner.invariant.so_far

pub returns-clause-leads : goal.returns-clause-leads
returns-clause-leads c = c.loop-owner.invariant.so_far.leads

pub returns-clause-apart : goal.returns-clause-apart
returns-clause-apart c = c.loop-owner.invariant.so_far.apart

pub returns-clause-bases : goal.returns-clause-bases
returns-clause-bases c = known_bases (graphs_before c.args.self) c.loop-owner.joined (shown c.args.self c.loop-owner.graph) c.loop-owner.invariant.joined
