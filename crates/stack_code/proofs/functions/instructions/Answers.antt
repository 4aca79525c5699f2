use Rattle.std.proofs.Common.{List, ◌++◌, map, length, get_or, refl, sym, ap, ap₂, ◌∙◌, arith}
use Rattle.std.specs.Prelude.{slice_index}
use Rattle.std.proofs.lemmas.List.{append-nil, length-map}
use Rattle.pool_isa.specs.declared.instr.Instr.{Instr}
use Rattle.pool_ir.specs.Views.{action_of, function_of, op_of}
use Rattle.pool_ir.specs.declared.program.Action.{Action}
use Rattle.stack_code.specs.Emitting.{opening, actions_code, block}
use Rattle.stack_code.proofs.LaidPoints.{point_at, names_at, block_further, all_blocks}
use Rattle.stack_code.proofs.functions.instructions.Goals as goal

pub loop-number-init : goal.loop-number-init
loop-number-init c =
    let function = function_of c.args.function.now in
    c.in_ok-push_actions.ensures
    ∙ ap₂ (λ (code : List Instr) (actions : List Action). code ++ actions_code function (map action_of actions)) c.new-code.ensures.items c.deref.ensures.value
    ∙ sym (append-nil (opening function))

pub returns : goal.returns
returns c =
    let function = function_of c.args.function.now in
    let points = c.args.function.now.points.items in
    let long = ap (λ items. length items) c.deref-op-items.ensures.value in
    all_blocks function points refl c.requires c.loop-number.number c.in_ok-places.places.items c.loop-number.code.items c.in_ok-places.ensures (omega arith) c.loop-number.invariant

pub loop-number-preserved : goal.loop-number-preserved
loop-number-preserved c =
    let function = function_of c.args.function.now in
    let points = c.args.function.now.points.items in
    let number = c.loop-number.number in
    let op = c.op-item.result in
    let same = c.deref-op-items.ensures.value in
    let long = ap (λ items. length items) same in
    let is = c.op-item.is ∙ ap (λ items. get_or items number op) same in
    block_further function points refl c.requires number (slice_index c.in_ok-places.places.items) op op c.loop-number.code.items c.push_block.new.code.items (opening function) (omega arith) is c.loop-number.invariant
    (c.in_ok-push_block.ensures ∙ ap (λ places. c.loop-number.code.items ++ block (slice_index places) function number (op_of op)) c.deref-in-loop-number.ensures.value)

pub push_block-requires-clause-fits : goal.push_block-requires-clause-fits
push_block-requires-clause-fits c =
    let points = c.args.function.now.points.items in
    let op = c.op-item.result in
    let same = c.deref-op-items.ensures.value in
    let long = ap (λ items. length items) same in
    let is = c.op-item.is ∙ ap (λ items. get_or items c.loop-number.number op) same in
    (point_at (function_of c.args.function.now) points refl c.requires c.loop-number.number op op (omega (arith, c.loop-number-test.true)) is).fits

pub push_block-requires-clause-names : goal.push_block-requires-clause-names
push_block-requires-clause-names c =
    let points = c.args.function.now.points.items in
    let op = c.op-item.result in
    let same = c.deref-op-items.ensures.value in
    let long = ap (λ items. length items) same in
    let is = c.op-item.is ∙ ap (λ items. get_or items c.loop-number.number op) same in
    let table = ap (λ items. length items) c.deref-in-loop-number.ensures.value in
    let all = length-map points op_of in
    names_at (function_of c.args.function.now) points refl c.requires c.loop-number.number op op (length c.deref-in-loop-number.result.now) (omega (arith, table, all, c.in_ok-places.ensures.count)) (omega (arith, c.loop-number-test.true)) is
