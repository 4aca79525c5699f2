use Rattle.std.proofs.Common.{length, get_or, refl, ap, ◌∙◌, arith}
use Rattle.tac_ir.specs.States.{InStart, InFunction}
use Rattle.pool_ir.specs.Views.{code_of, function_of}
use Rattle.stack_code.proofs.UnitPremises.{each_unit_fits}
use Rattle.stack_code.proofs.LaidPoints.{get_at}
use Rattle.stack_code.proofs.program.emit.Goals as goal

pub unit-requires : goal.unit-requires
unit-requires c = each_unit_fits (code_of c.args.code.now) c.requires.fits InStart (function_of c.args.code.now.start) refl

pub unit-requires-in-loop-function : goal.unit-requires-in-loop-function
unit-requires-in-loop-function c =
    let functions = c.args.code.now.functions.items in
    let index = c.loop-function.function-index in
    let function = c.function-item.result in
    let same = c.deref-function-items.ensures.value in
    let long = ap (λ items. length items) same in
    let is = c.function-item.is ∙ ap (λ items. get_or items index function) same in
    each_unit_fits (code_of c.args.code.now) c.requires.fits (InFunction index) (function_of function) (get_at function_of functions index function function (omega (arith, c.loop-function-test.true)) is)
