use Rattle.std.proofs.Common.{◌≡◌, ◌+◌, ◌<◌, List, length, map, get_or, Some, option_map, inl, inr, refl, ap, subst, ◌∙◌, arith}
use Rattle.std.specs.Prelude.{slice_get}
use Rattle.std.proofs.lemmas.Bool.{cases_lt}
use Rattle.std.proofs.lemmas.Option.{slice_get-map, slice_get_read}
use Rattle.tac_ir.specs.declared.op.Op as memory_op
use Rattle.tac_ir.specs.States.{InFunction}
use Rattle.tac_ir.specs.Views.{op_in, function_in}
use Rattle.dsa_local.specs.Called.{AddsCalled, AreFirstCalled}
use Rattle.dsa_local.proofs.CalledSteps.{no_functions, function_added, all_added}
use Rattle.dsa_local.proofs.called.CalledClasses.of_program.Goals as goal

pub loop-function-init : goal.loop-function-init
loop-function-init c =
    let made = c.in_ok-callees.ensures in
    no_functions c.args.tac.now c.in_ok-callees.callees.items (made.each ∙ ap (λ l. length l) c.deref.ensures.value) made.none

pub loop-function-preserved : goal.loop-function-preserved
loop-function-preserved c =
    let tac = c.args.tac.now in
    let functions = tac.functions.items in
    let at = c.loop-function.function-index in
    let function = c.function-item.result in
    let same = c.as_slice-function-items.ensures.value in
    let lt : at < length functions = omega (arith, c.loop-function-test.true, ap (λ l. length l) same) in
    let there : slice_get functions at ≡ Some function = slice_get_read functions (length functions) at function refl lt (c.function-item.is ∙ ap (λ l. get_or l at function) same) in
    function_added tac (InFunction at) (function_in tac.types function) c.loop-function.callees.items c.add_called.new.callees.items at c.loop-function.invariant
    (slice_get-map (function_in tac.types) functions at ∙ ap (option_map (function_in tac.types)) there)
    (subst (λ (l : List memory_op.Op). AddsCalled tac (map (op_in tac.types) l) c.loop-function.callees.items c.add_called.new.callees.items) c.deref-in-loop-function.ensures.value c.add_called.ensures)
    (at + 1) (λ called less. elim (cases_lt called at) [ inl before ↦ inl before | inr behind ↦ (let equal : called ≡ at = omega (arith, less, behind) in inr (ap InFunction equal)) ])

pub returns : goal.returns
returns c =
    let tac = c.args.tac.now in
    let all : c.loop-function.function-index ≡ length tac.functions.items = omega (arith, c.loop-function-test.false, c.loop-function.auto.function-index-end, ap (λ l. length l) c.as_slice-function-items.ensures.value) in
    all_added tac c.loop-function.callees.items _ (subst (λ n. AreFirstCalled tac n c.loop-function.callees.items) all c.loop-function.invariant)
    (subst (λ (l : List memory_op.Op). AddsCalled tac (map (op_in tac.types) l) c.loop-function.callees.items c.add_called-2.new.callees.items) c.deref-2.ensures.value c.add_called-2.ensures)
