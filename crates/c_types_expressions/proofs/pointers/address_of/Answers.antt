use Rattle.std.proofs.Common.{Some}
use Rattle.c_types_expressions.proofs.ObjectRules.{address-object, address-function, address-other, object-stands, function-stands}
use Rattle.c_types_expressions.proofs.pointers.address_of.Goals as goal

pub pointer_at-requires-clause-value : goal.pointer_at-requires-clause-value
pointer_at-requires-clause-value c = object-stands c.args.checker.now.table c.args.whole c.args.operand.typed c.in-Object.object c.in_ok-value-in-Object.value.value c.in-Object.is c.in_ok-value-in-Object.ensures.ok c.requires.1

pub pointer_at-requires-in-Function-clause-value : goal.pointer_at-requires-in-Function-clause-value
pointer_at-requires-in-Function-clause-value c = function-stands c.args.checker.now.table c.args.operand.typed c.in-Function.function c.in_ok-value-in-Function.value.value c.in-Function.is c.in_ok-value-in-Function.ensures.ok c.requires.1

pub returns-in_ok-pointer_at-in-Object : goal.returns-in_ok-pointer_at-in-Object
returns-in_ok-pointer_at-in-Object c =
    address-object c.args.whole c.args.checker.now c.pointer_at.new.checker c.args.operand c.in_ok-value-in-Object.value.value (Some c.in_ok-pointer_at-in-Object.field-0) c.in_ok-pointer_at-in-Object.ensures c.in-Object.object c.in-Object.is c.in_ok-value-in-Object.ensures.ok

pub returns-in_ok-pointer_at-in-Function : goal.returns-in_ok-pointer_at-in-Function
returns-in_ok-pointer_at-in-Function c =
    address-function c.args.whole c.args.checker.now c.pointer_at-in-Function.new.checker c.args.operand c.in_ok-value-in-Function.value.value (Some c.in_ok-pointer_at-in-Function.field-0) c.in_ok-pointer_at-in-Function.ensures c.in-Function.function c.in-Function.is c.in_ok-value-in-Function.ensures.ok

pub returns-in_default : goal.returns-in_default
returns-in_default c = address-other c.args.whole c.args.checker.now c.note.new.self c.args.operand c.in_default.not-Object c.in_default.not-Function c.note.ensures
