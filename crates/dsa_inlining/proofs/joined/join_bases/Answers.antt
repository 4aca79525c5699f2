use Rattle.dsa_inlining.specs.Shown.{code_of, shown, callee_of, copies_of}
use Rattle.dsa_inlining.proofs.Joining.{joins_none, joins_more}
use Rattle.dsa_inlining.specs.Joined.{RepresentativesCome}
use Rattle.dsa_inlining.proofs.ListedGroups.{EachAt, each_at_kept, one_joined, each_joined, representatives_kept}
use Rattle.dsa_inlining.proofs.joined.join_bases.Goals as goal

pub loop-base-init : goal.loop-base-init
loop-base-init c =
    let own = c.args.crossed in
    record {
      graph = c.requires.graph;
      copied = c.requires.copied;
      joins = joins_none (code_of own) c.requires.known.code.made (callee_of own) (EachAt (RepresentativesCome c.args.all.now (callee_of own) (copies_of own)) c.args.bases.now) (shown own c.args.graph.now) c.requires.graph.sound;
    }

pub join_representatives-requires-clause-graph : goal.join_representatives-requires-clause-graph
join_representatives-requires-clause-graph c = c.loop-base.invariant.graph

pub join_representatives-requires-clause-copied : goal.join_representatives-requires-clause-copied
join_representatives-requires-clause-copied c = c.loop-base.invariant.copied

pub loop-base-preserved : goal.loop-base-preserved
loop-base-preserved c =
    let own = c.args.crossed in
    let tac = code_of own in
    let made = c.requires.known.code.made in
    let callee = callee_of own in
    let wanted = RepresentativesCome c.args.all.now callee (copies_of own) in
    let numbers = c.args.bases.now in
    let place = c.loop-base.base-index in
    let its = c.in_ok-join_representatives.ensures in
    let graph = shown own c.loop-base.graph in
    let next = shown own c.join_representatives.new.graph in
    record {
      graph = its.graph;
      copied = its.copied;
      joins = joins_more tac made callee (EachAt wanted numbers) (each_at_kept tac made callee wanted numbers (representatives_kept tac made c.args.all.now callee (copies_of own))) (shown own c.args.graph.now) graph next
          c.requires.graph.sound c.loop-base.invariant.graph.sound place c.loop-base.invariant.joins (one_joined tac made callee wanted numbers place c.loop-base-test.true graph next its.joins);
    }

pub returns-clause-graph : goal.returns-clause-graph
returns-clause-graph c = c.loop-base.invariant.graph

pub returns-clause-copied : goal.returns-clause-copied
returns-clause-copied c = c.loop-base.invariant.copied

pub returns-clause-joins : goal.returns-clause-joins
returns-clause-joins c =
    let own = c.args.crossed in
    each_joined (code_of own) c.requires.known.code.made (callee_of own) (RepresentativesCome c.args.all.now (callee_of own) (copies_of own)) c.args.bases.now c.loop-base.base-index c.loop-base-test.false (shown own c.args.graph.now)
    (shown own c.loop-base.graph) c.loop-base.invariant.joins
