use Rattle.heap_graph.specs.Graphs.{OfGlobal}
use Rattle.heap_graph.specs.Frozen.{bare}
use Rattle.dsa_inlining.proofs.Carried.{copies_kept}
use Rattle.dsa_inlining.specs.Shown.{code_of, shown, callee_of, copies_of}
use Rattle.dsa_inlining.proofs.Joining.{joins_none, joins_more}
use Rattle.dsa_inlining.proofs.Listing.{ComesAt, comes_at_kept, one_joined, list_joined}
use Rattle.dsa_inlining.proofs.crossed.Crossed.join_listed_globals.Goals as goal

pub loop-number-init : goal.loop-number-init
loop-number-init c =
    let own = c.args.self in
    record {
      graph = c.requires.graph;
      joins = joins_none (code_of own) c.requires.known.code.made (callee_of own) (ComesAt (callee_of own) (copies_of own) OfGlobal c.args.numbers.now) (shown own c.args.graph.now) c.requires.graph.sound;
    }

pub join_global-requires-clause-graph : goal.join_global-requires-clause-graph
join_global-requires-clause-graph c = c.loop-number.invariant.graph

pub join_global-requires-clause-copied : goal.join_global-requires-clause-copied
join_global-requires-clause-copied c =
    let own = c.args.self in
    copies_kept (code_of own).structs c.requires.known.code.made (shown own c.args.graph.now) (shown own c.loop-number.graph) (bare own.tac.now.types own.callee.now) (copies_of own) c.requires.graph.sound
    c.loop-number.invariant.joins.goes c.requires.copied

pub loop-number-preserved : goal.loop-number-preserved
loop-number-preserved c =
    let own = c.args.self in
    let tac = code_of own in
    let made = c.requires.known.code.made in
    let numbers = c.args.numbers.now in
    let place = c.loop-number.number-index in
    let its = c.in_ok-join_global.ensures in
    let graph = shown own c.loop-number.graph in
    let next = shown own c.join_global.new.graph in
    record {
      graph = its.graph;
      joins = joins_more tac made (callee_of own) (ComesAt (callee_of own) (copies_of own) OfGlobal numbers) (comes_at_kept tac made (callee_of own) (copies_of own) OfGlobal numbers) (shown own c.args.graph.now)
          graph next c.requires.graph.sound c.loop-number.invariant.graph.sound place c.loop-number.invariant.joins
          (one_joined tac made (callee_of own) (copies_of own) OfGlobal numbers place c.loop-number-test.true graph next its.joins);
    }

pub returns-clause-graph : goal.returns-clause-graph
returns-clause-graph c = c.loop-number.invariant.graph

pub returns-clause-joins : goal.returns-clause-joins
returns-clause-joins c =
    let own = c.args.self in
    list_joined (code_of own) c.requires.known.code.made (callee_of own) (copies_of own) OfGlobal c.args.numbers.now c.loop-number.number-index c.loop-number-test.false (shown own c.args.graph.now)
    (shown own c.loop-number.graph) c.loop-number.invariant.joins
