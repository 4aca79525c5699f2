use Rattle.std.proofs.Common.{refl, arith}
use Rattle.heap_graph.specs.declared.search.Search.{Search}
use Rattle.heap_graph.proofs.ReachedNodes.Searching.{search_begins, search_goes_on, search_shrinks, search_ends}
use Rattle.heap_graph.proofs.search.reached.Goals as goal

pub loop-number-init : goal.loop-number-init
loop-number-init c = search_begins c.args.graph.now.nodes.items c.args.starts (record { found = c.args.starts; pending = c.in_ok-pending.pending }) refl c.requires c.in_ok-pending.ensures

pub loop-number-smaller : goal.loop-number-smaller
loop-number-smaller c =
    let old = c.loop-number.search in
    let popped : Search = record { found = old.found; pending = c.pop.new.self } in
    search_shrinks c.args.graph.now.nodes.items c.args.starts old popped c.follow.new.self c.in-Some.number c.loop-number.invariant refl c.in-Some.ensures.items c.in_ok-follow.ensures

pub loop-number-preserved : goal.loop-number-preserved
loop-number-preserved c =
    let old = c.loop-number.search in
    let popped : Search = record { found = old.found; pending = c.pop.new.self } in
    search_goes_on c.args.graph.now.nodes.items c.args.starts old popped c.follow.new.self c.in-Some.number c.loop-number.invariant refl c.in-Some.ensures.items c.in_ok-follow.ensures

pub returns : goal.returns
returns c = search_ends c.args.graph.now.nodes.items c.args.starts c.loop-number.search c.loop-number.invariant (omega (arith, c.in_default.ensures.cases.0, c.loop-number.search.pending.ok.0))
