use Rattle.std.proofs.Common.{◌≡◌, ℕ, List, [], ◌∷◌, ◌++◌, ◌<◌, ◌^◌, map, length, get_or, refl, sym, ap, ap₂, subst, ◌∙◌, arith}
use Rattle.std.specs.Prelude.{slice_index}
use Rattle.std.proofs.lemmas.List.{append-nil, length-append, length-map, length-replicate}
use Rattle.pool_isa.specs.declared.instr.Instr.{Instr}
use Rattle.pool_ir.specs.Views.{action_of, function_of, op_of}
use Rattle.pool_ir.specs.declared.program.Action.{Action}
use Rattle.stack_code.specs.Emitting.{opening, actions_code, block, place_of}
use Rattle.stack_code.proofs.LaidPoints.{point_at, names_at, block_further, next_place}
use Rattle.stack_code.proofs.PlaceTables.{one_more_entry}
use Rattle.stack_code.proofs.functions.places.Goals as goal

pub loop-number-init : goal.loop-number-init
loop-number-init c =
    let function = function_of c.args.function.now in
    record {
      code = c.in_ok-push_actions.ensures
          ∙ ap₂ (λ (code : List Instr) (actions : List Action). code ++ actions_code function (map action_of actions)) c.new-code.ensures.items c.deref.ensures.value
          ∙ sym (append-nil (opening function));
      count = ap (λ items. length items) c.new-places.ensures.items;
      each = λ k below. absurd (omega (arith, ap (λ items. length items) c.new-places.ensures.items, below));
    }

pub loop-number-preserved : goal.loop-number-preserved
loop-number-preserved c =
    let function = function_of c.args.function.now in
    let points = c.args.function.now.points.items in
    let number = c.loop-number.number in
    let op = c.op-item.result in
    let same = c.deref-op-items.ensures.value in
    let long = ap (λ items. length items) same in
    let is = c.op-item.is ∙ ap (λ items. get_or items number op) same in
    let nowhere = c.in_ok-nowhere.nowhere.items in
    let here = next_place function points refl c.requires number c.len.result nowhere c.loop-number.code.items (c.in_ok-nowhere.ensures.items_if_clones_equal (λ _ e. e)) c.loop-number.invariant.code in
    let pushed = c.in_ok-push.ensures.items in
    let table = c.loop-number.places.items in
    let long_table = ap (λ items. length items) pushed in
    let P : ℕ → ℕ → Type 0 = λ k p. (p < 2 ^ 63) × (p ≡ place_of function k) in
    let begins : c.len-in-loop-number.result ≡ length c.loop-number.code.items = omega arith in
    let own : P (length table) c.len-in-loop-number.result = (omega arith, begins ∙ here ∙ ap (place_of function) (sym c.loop-number.invariant.count)) in
    record {
      code = block_further function points refl c.requires number (slice_index nowhere) op op c.loop-number.code.items c.push_block.new.code.items (opening function) (omega arith) is c.loop-number.invariant.code
          (c.in_ok-push_block.ensures ∙ ap (λ places. c.loop-number.code.items ++ block (slice_index places) function number (op_of op)) c.deref-in-loop-number.ensures.value);
      count = omega (arith, c.loop-number.invariant.count, length-append table (c.len-in-loop-number.result ∷ []));
      each = λ k below. subst (λ (t : List ℕ). P k (slice_index t k)) (sym pushed) (one_more_entry P table c.len-in-loop-number.result c.loop-number.invariant.each own k (omega arith));
    }

pub returns : goal.returns
returns c =
    let function = function_of c.args.function.now in
    let points = c.args.function.now.points.items in
    let long = ap (λ items. length items) c.deref-op-items.ensures.value in
    let all = length-map points op_of in
    record {
      count = omega (arith, c.loop-number.invariant.count, all, long);
      low = λ k below. (c.loop-number.invariant.each k below).0;
      each = λ k below. (c.loop-number.invariant.each k (omega (arith, c.loop-number.invariant.count, all, long))).1;
    }

pub push_block-requires-clause-fits : goal.push_block-requires-clause-fits
push_block-requires-clause-fits c =
    let points = c.args.function.now.points.items in
    let op = c.op-item.result in
    let same = c.deref-op-items.ensures.value in
    let long = ap (λ items. length items) same in
    let is = c.op-item.is ∙ ap (λ items. get_or items c.loop-number.number op) same in
    (point_at (function_of c.args.function.now) points refl c.requires c.loop-number.number op op (omega (arith, c.loop-number-test.true)) is).fits

pub push_block-requires-clause-names : goal.push_block-requires-clause-names
push_block-requires-clause-names c =
    let points = c.args.function.now.points.items in
    let op = c.op-item.result in
    let same = c.deref-op-items.ensures.value in
    let long = ap (λ items. length items) same in
    let is = c.op-item.is ∙ ap (λ items. get_or items c.loop-number.number op) same in
    let table = ap (λ items. length items) c.deref-in-loop-number.ensures.value in
    let zeros = ap (λ items. length items) (c.in_ok-nowhere.ensures.items_if_clones_equal (λ _ e. e)) ∙ length-replicate c.len.result 0 in
    names_at (function_of c.args.function.now) points refl c.requires c.loop-number.number op op (length c.deref-in-loop-number.result.now) (omega (arith, table, zeros)) (omega (arith, c.loop-number-test.true)) is
