use Rattle.std.proofs.Common.{drop, arith}
use Rattle.std.proofs.lemmas.List.{drop_all}
use Rattle.dsa_bottom_up.proofs.Arms.{next_left}
use Rattle.dsa_bottom_up.proofs.Scoping.{functions_first, functions_next, functions_end}
use Rattle.dsa_bottom_up.proofs.functions.expression_counts.Goals as goal

pub loop-function-init : goal.loop-function-init
loop-function-init c = functions_first c.args.program.now c.new-counts.result.items c.as_slice-functions.result.now c.new-counts.ensures.items c.as_slice-functions.ensures.value c.requires.functions

pub loop-function-preserved : goal.loop-function-preserved
loop-function-preserved c =
    let functions = c.as_slice-functions.result.now in
    functions_next c.args.program.now c.in_ok-names.names c.loop-function.counts.items _ c.in_ok-count.count (drop c.loop-function.function-index functions) _ c.function-item.result
    (next_left functions c.loop-function.function-index c.function-item.result (omega arith) c.function-item.is) c.in_ok-names.ensures.variables c.in_ok-names.ensures.functions (c.in_ok-count.ensures {u = tt}) c.in_ok-push.ensures.items c.loop-function.invariant

pub returns : goal.returns
returns c =
    let functions = c.as_slice-functions.result.now in
    functions_end c.args.program.now c.loop-function.counts.items (drop c.loop-function.function-index functions) (drop_all c.loop-function.function-index functions (omega arith)) c.loop-function.invariant
