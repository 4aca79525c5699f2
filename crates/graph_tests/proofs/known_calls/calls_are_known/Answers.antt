use Rattle.std.proofs.Common.{◌≡◌, ◌+◌, ◌&&◌, true, List, map, length, get_or, drop, refl, sym, ap, ◌∙◌, arith}
use Rattle.std.specs.List.{list_all}
use Rattle.std.proofs.lemmas.List.{at_drop_more, at_drop_all}
use Rattle.tac_ir.specs.declared.op.Op.{Op}
use Rattle.tac_ir.specs.declared.program.Function.{Function}
use Rattle.tac_ir.specs.Views.{op_in, function_in}
use Rattle.graph_tests.specs.KnownCalls.{is_known, calls_known}
use Rattle.graph_tests.proofs.Known.{all_known}
use Rattle.graph_tests.proofs.known_calls.calls_are_known.Goals as goal

pub loop-function-init : goal.loop-function-init
loop-function-init c = refl

pub loop-function-preserved : goal.loop-function-preserved
loop-function-preserved c =
    let table = c.args.tac.now.types in
    let count = length c.args.tac.now.functions.items in
    let functions = c.deref-function-items.result.now in
    let index = c.loop-function.function-index in
    let known : true ≡ calls_known count (function_in table (get_or functions index c.function-item.result))
    = sym c.if-not-are_known.false
    ∙ (c.are_known.ensures
    ∙ (ap (λ (points : List Op). list_all (is_known count) (map (op_in table) points)) c.as_slice.ensures.value ∙ ap (λ (function : Function). calls_known count (function_in table function)) c.function-item.is)) in
    (λ i. known i && list_all (calls_known count) (map (function_in table) (drop (index + 1) functions)))
    ∙ (sym (at_drop_more (λ (rest : List Function). list_all (calls_known count) (map (function_in table) rest)) functions index c.function-item.result c.loop-function-test.true)
    ∙ c.loop-function.invariant)

pub returns : goal.returns
returns c =
    let tac = c.args.tac.now in
    let count = length tac.functions.items in
    let functions = c.deref-function-items.result.now in
    λ is_true.
    all_known tac
    (ap (λ (functions : List Function). list_all (calls_known count) (map (function_in tac.types) functions)) (sym c.deref-function-items.ensures.value)
    ∙ (sym c.loop-function.invariant
    ∙ at_drop_all (λ (rest : List Function). list_all (calls_known count) (map (function_in tac.types) rest)) functions c.loop-function.function-index (omega arith)))
