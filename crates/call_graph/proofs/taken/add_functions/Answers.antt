use Rattle.std.proofs.Common.{◌+◌, ◌++◌, drop, refl, ap, ◌∙◌, arith}
use Rattle.std.proofs.lemmas.List.{drop_all}
use Rattle.call_graph.specs.RowLists.{gathered}
use Rattle.call_graph.proofs.RowLists.{read_drop, gather_more, gather_none}
use Rattle.call_graph.specs.TakenLists.{at_point, at_function}
use Rattle.call_graph.proofs.taken.add_functions.Goals as goal

pub loop-function-init : goal.loop-function-init
loop-function-init c = refl

pub loop-function-preserved : goal.loop-function-preserved
loop-function-preserved c =
    let functions = c.args.functions.now in
    let i = c.loop-function.function-index in
    let function = c.function-item.result in
    gather_more at_function (drop i functions) (drop (i + 1) functions) function c.loop-function.taken.items c.add_points.new.taken.items _
    (read_drop functions i (i + 1) function function refl (omega arith) c.function-item.is) (c.in_ok-add_points.ensures ∙ ap (λ l. c.loop-function.taken.items ++ gathered at_point l) c.as_slice.ensures.value) c.loop-function.invariant

pub returns : goal.returns
returns c = gather_none at_function (drop c.loop-function.function-index c.args.functions.now) c.loop-function.taken.items _ (drop_all c.loop-function.function-index c.args.functions.now (omega arith)) c.loop-function.invariant
