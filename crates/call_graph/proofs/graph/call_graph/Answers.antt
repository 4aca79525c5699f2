use Rattle.std.proofs.Common.{◌≡◌, ℕ, Bool, ◌+◌, ◌<◌, List, length, map, get_or, Some, option_map, refl, ap, subst, ◌∙◌, arith}
use Rattle.std.specs.Prelude.{slice_get}
use Rattle.std.proofs.lemmas.Option.{slice_get-map, slice_get_read}
use Rattle.tac_ir.specs.declared.op.Op.{Op}
use Rattle.tac_ir.specs.Views.{op_in, function_in, tac_of}
use Rattle.call_graph.specs.Rows.{AreMarks}
use Rattle.call_graph.specs.CallLists.{AddsCalls, AddsCalled, AddsClasses, AreFirstCalls}
use Rattle.call_graph.proofs.CallSteps.{no_functions, one_function}
use Rattle.call_graph.proofs.GraphMade.{is_graph}
use Rattle.call_graph.proofs.graph.call_graph.Goals as goal

pub loop-caller-init : goal.loop-caller-init
loop-caller-init c = no_functions (tac_of c.args.tac.now) _ _ c.new-edges.ensures.items c.new-called.ensures.items

pub loop-caller-preserved : goal.loop-caller-preserved
loop-caller-preserved c =
    let tac = c.args.tac.now in
    let functions = tac.functions.items in
    let at = c.loop-caller.caller in
    let function = c.function-item.result in
    let same = c.deref-function-items.ensures.value in
    let lt : at < length functions = omega (arith, c.loop-caller-test.true, ap (λ l. length l) same) in
    let there : slice_get functions at ≡ Some function = slice_get_read functions (length functions) at function refl lt (c.function-item.is ∙ ap (λ l. get_or l at function) same) in
    let points = c.as_slice-points.ensures.value in
    one_function (tac_of tac) at (at + 1) (function_in tac.types function) c.loop-caller.edges.items c.add_calls.new.edges.items c.loop-caller.called.items c.add_called.new.called.items c.loop-caller.invariant
    (slice_get-map (function_in tac.types) functions at ∙ ap (option_map (function_in tac.types)) there)
    (subst (λ (l : List Op). AddsCalls (tac_of tac) at (map (op_in tac.types) l) c.loop-caller.edges.items c.add_calls.new.edges.items) points c.in_ok-add_calls.ensures)
    (subst (λ (l : List Op). AddsCalled (tac_of tac) (map (op_in tac.types) l) c.loop-caller.called.items c.add_called.new.called.items) points c.in_ok-add_called.ensures) refl

pub returns : goal.returns
returns c =
    let tac = c.args.tac.now in
    let before = c.loop-caller.edges.items in
    let after = c.add_classes.new.edges.items in
    let called = c.loop-caller.called.items in
    let marks = c.in_ok-is_called.is_called.items in
    let all : c.loop-caller.caller ≡ length tac.functions.items = omega (arith, c.loop-caller-test.false, c.loop-caller.auto.caller-end, ap (λ l. length l) c.deref-function-items.ensures.value) in
    let calls = subst (λ n. AreFirstCalls (tac_of tac) n before called) all c.loop-caller.invariant in
    let marked = subst (λ n. AreMarks n called marks) (c.len.ensures ∙ tac.functions.ok.0) (subst (λ (l : List ℕ). AreMarks c.len.result l marks) c.as_slice.ensures.value c.in_ok-is_called.ensures) in
    let adds = subst (λ (l : List (ℕ × ℕ)). AddsClasses marks l before after) c.as_slice-2.ensures.value (subst (λ (l : List Bool). AddsClasses l c.as_slice-2.result.now before after) c.as_slice-3.ensures.value c.in_ok-add_classes.ensures) in
    is_graph tac c.args.classes.now c.requires before after called marks calls marked adds
