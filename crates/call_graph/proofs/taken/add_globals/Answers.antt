use Rattle.std.proofs.Common.{◌+◌, ◌++◌, drop, refl, ap, ◌∙◌, arith}
use Rattle.std.proofs.lemmas.List.{drop_all}
use Rattle.call_graph.specs.RowLists.{gathered}
use Rattle.call_graph.proofs.RowLists.{read_drop, gather_more, gather_none}
use Rattle.call_graph.specs.TakenLists.{at_first, at_global}
use Rattle.call_graph.proofs.taken.add_globals.Goals as goal

pub loop-global-init : goal.loop-global-init
loop-global-init c = refl

pub loop-global-preserved : goal.loop-global-preserved
loop-global-preserved c =
    let globals = c.args.globals.now in
    let i = c.loop-global.global-index in
    let global = c.global-item.result in
    gather_more (at_global c.args.names.now) (drop i globals) (drop (i + 1) globals) global c.loop-global.taken.items c.add_firsts.new.taken.items _
    (read_drop globals i (i + 1) global global refl (omega arith) c.global-item.is) (c.in_ok-add_firsts.ensures ∙ ap (λ l. c.loop-global.taken.items ++ gathered (at_first c.args.names.now) l) c.as_slice.ensures.value) c.loop-global.invariant

pub returns : goal.returns
returns c = gather_none (at_global c.args.names.now) (drop c.loop-global.global-index c.args.globals.now) c.loop-global.taken.items _ (drop_all c.loop-global.global-index c.args.globals.now (omega arith)) c.loop-global.invariant
