use Rattle.c_types_state.proofs.TargetRules.{modifiable-other, modifiable-array, modifiable-object}
use Rattle.c_types_state.proofs.targets.modifiable.Goals as goal

pub returns-in_default : goal.returns-in_default
returns-in_default c = modifiable-other c.args.whole c.args.checker.now c.note.new.self c.args.operand c.in_default.not-Object c.note.ensures

pub returns-else-not-require : goal.returns-else-not-require
returns-else-not-require c =
    modifiable-object c.args.whole c.args.checker.now c.require.new.self c.args.operand c.in-Object.object c.is_array-is_array.result c.require.result c.in-Object.is c.is_array-is_array.ensures c.require.ensures.result c.require.ensures.noted
    c.if-not-require.false c.requires

pub returns-then-not-require : goal.returns-then-not-require
returns-then-not-require c =
    modifiable-array c.args.whole c.args.checker.now c.require.new.self c.args.operand c.in-Object.object c.is_array-is_array.result c.require.result c.in-Object.is c.is_array-is_array.ensures c.require.ensures.result c.require.ensures.noted
    c.if-not-require.true
