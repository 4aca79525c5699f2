use Rattle.dsa_inlining.specs.Shown.{code_of, shown, callee_of, copies_of}
use Rattle.dsa_inlining.proofs.Joining.{joins_none, joins_more}
use Rattle.dsa_inlining.specs.Joined.{GroupComes}
use Rattle.dsa_inlining.proofs.ListedGroups.{EachAt, each_at_kept, one_joined, each_joined, group_kept}
use Rattle.dsa_inlining.proofs.joined.join_groups.Goals as goal

pub loop-group-init : goal.loop-group-init
loop-group-init c =
    let own = c.args.crossed in
    record {
      graph = c.requires.graph;
      copied = c.requires.copied;
      joins = joins_none (code_of own) c.requires.known.code.made (callee_of own) (EachAt (GroupComes c.args.all.now (callee_of own) (copies_of own)) c.args.groups.now) (shown own c.args.graph.now) c.requires.graph.sound;
    }

pub join_group-requires-clause-graph : goal.join_group-requires-clause-graph
join_group-requires-clause-graph c = c.loop-group.invariant.graph

pub join_group-requires-clause-copied : goal.join_group-requires-clause-copied
join_group-requires-clause-copied c = c.loop-group.invariant.copied

pub loop-group-preserved : goal.loop-group-preserved
loop-group-preserved c =
    let own = c.args.crossed in
    let tac = code_of own in
    let made = c.requires.known.code.made in
    let callee = callee_of own in
    let wanted = GroupComes c.args.all.now callee (copies_of own) in
    let numbers = c.args.groups.now in
    let place = c.loop-group.group-index in
    let its = c.in_ok-join_group.ensures in
    let graph = shown own c.loop-group.graph in
    let next = shown own c.join_group.new.graph in
    record {
      graph = its.graph;
      copied = its.copied;
      joins = joins_more tac made callee (EachAt wanted numbers) (each_at_kept tac made callee wanted numbers (group_kept tac made c.args.all.now callee (copies_of own))) (shown own c.args.graph.now) graph next
          c.requires.graph.sound c.loop-group.invariant.graph.sound place c.loop-group.invariant.joins (one_joined tac made callee wanted numbers place c.loop-group-test.true graph next its.joins);
    }

pub returns-clause-graph : goal.returns-clause-graph
returns-clause-graph c = c.loop-group.invariant.graph

pub returns-clause-copied : goal.returns-clause-copied
returns-clause-copied c = c.loop-group.invariant.copied

pub returns-clause-joins : goal.returns-clause-joins
returns-clause-joins c =
    let own = c.args.crossed in
    each_joined (code_of own) c.requires.known.code.made (callee_of own) (GroupComes c.args.all.now (callee_of own) (copies_of own)) c.args.groups.now c.loop-group.group-index c.loop-group-test.false (shown own c.args.graph.now)
    (shown own c.loop-group.graph) c.loop-group.invariant.joins
