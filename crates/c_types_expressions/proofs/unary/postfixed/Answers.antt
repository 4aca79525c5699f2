use Rattle.std.proofs.Common.{Box, Global, sym, ap, subst, ◌∙◌}
use Rattle.c_typed.specs.declared.typed.Object as memory_object
use Rattle.c_typed.specs.Table.{shape_type}
use Rattle.c_typed.specs.Views.{object_in, ObjectStands}
use Rattle.c_rules.specs.Operators.{step_value}
use Rattle.c_types_expressions.proofs.SteppedObjects.{target-stands, target-stands-u, target-stands-w, stepped-not_scalar, stepped-not_complete, stepped-made}
use Rattle.c_types_expressions.proofs.unary.postfixed.Goals as goal

pub is_scalar-is_scalar-requires : goal.is_scalar-is_scalar-requires
is_scalar-is_scalar-requires c =
    (target-stands c.args.stepping c.args.whole c.args.place c.args.checker.now c.modifiable.new.checker c.args.operand c.in-Some.known c.modifiable.result c.in-Some.is c.modifiable.ensures c.in-Some-modifiable.target c.in-Some-modifiable.is).0

pub can_step-can_step-requires : goal.can_step-can_step-requires
can_step-can_step-requires c =
    (target-stands-u c.args.stepping c.args.whole c.args.place c.args.checker.now c.modifiable.new.checker c.args.operand c.in-Some.known c.modifiable.result c.in-Some.is c.modifiable.ensures c.in-Some-modifiable.target c.in-Some-modifiable.is
    c.require.new.self c.is_scalar-is_scalar.result c.require.result c.is_scalar-is_scalar.ensures c.require.ensures.result c.require.ensures.noted c.if-not-require.false).0

pub shape-shape-requires : goal.shape-shape-requires
shape-shape-requires c =
    (target-stands-w c.args.stepping c.args.whole c.args.place c.args.checker.now c.modifiable.new.checker c.args.operand c.in-Some.known c.modifiable.result c.in-Some.is c.modifiable.ensures c.in-Some-modifiable.target c.in-Some-modifiable.is
    c.require.new.self c.is_scalar-is_scalar.result c.require.result c.is_scalar-is_scalar.ensures c.require.ensures.result c.require.ensures.noted c.if-not-require.false
    c.require-2.new.self c.can_step-can_step.result c.require-2.result c.can_step-can_step.ensures c.require-2.ensures.result c.require-2.ensures.noted c.if-not-require-2.false).0

pub returns-then-not-require : goal.returns-then-not-require
returns-then-not-require c =
    stepped-not_scalar c.args.stepping c.args.whole c.args.place c.args.checker.now c.modifiable.new.checker c.args.operand c.in-Some.known c.modifiable.result c.in-Some.is c.modifiable.ensures c.in-Some-modifiable.target c.in-Some-modifiable.is
    c.require.new.self c.is_scalar-is_scalar.result c.require.result c.is_scalar-is_scalar.ensures c.require.ensures.result c.require.ensures.noted c.if-not-require.true

pub returns-then-not-require-2 : goal.returns-then-not-require-2
returns-then-not-require-2 c =
    stepped-not_complete c.args.stepping c.args.whole c.args.place c.args.checker.now c.modifiable.new.checker c.args.operand c.in-Some.known c.modifiable.result c.in-Some.is c.modifiable.ensures c.in-Some-modifiable.target c.in-Some-modifiable.is
    c.require.new.self c.is_scalar-is_scalar.result c.require.result c.is_scalar-is_scalar.ensures c.require.ensures.result c.require.ensures.noted c.if-not-require.false
    c.require-2.new.self c.can_step-can_step.result c.require-2.result c.can_step-can_step.ensures c.require-2.ensures.result c.require-2.ensures.noted c.if-not-require-2.true

pub returns : goal.returns
returns c =
    let w = c.require-2.new.self in
    let stands = target-stands-w c.args.stepping c.args.whole c.args.place c.args.checker.now c.modifiable.new.checker c.args.operand c.in-Some.known c.modifiable.result c.in-Some.is c.modifiable.ensures c.in-Some-modifiable.target c.in-Some-modifiable.is
    c.require.new.self c.is_scalar-is_scalar.result c.require.result c.is_scalar-is_scalar.ensures c.require.ensures.result c.require.ensures.noted c.if-not-require.false
    c.require-2.new.self c.can_step-can_step.result c.require-2.result c.can_step-can_step.ensures c.require-2.ensures.result c.require-2.ensures.noted c.if-not-require-2.false in
    stepped-made c.args.stepping c.args.whole c.args.place c.args.checker.now c.modifiable.new.checker c.args.operand c.in-Some.known c.modifiable.result c.in-Some.is c.modifiable.ensures c.in-Some-modifiable.target c.in-Some-modifiable.is
    c.require.new.self c.is_scalar-is_scalar.result c.require.result c.is_scalar-is_scalar.ensures c.require.ensures.result c.require.ensures.noted c.if-not-require.false
    c.require-2.new.self c.can_step-can_step.result c.require-2.result c.can_step-can_step.ensures c.require-2.ensures.result c.require-2.ensures.noted c.if-not-require-2.false
    c.shape-shape.result c.in_ok-value.value c.of_type.result c.shape-shape.ensures.means
    (c.in_ok-value.ensures.step w.table ∙ ap (λ (b : Box memory_object.Object Global). step_value c.args.stepping c.args.whole (shape_type w.table c.shape-shape.result) (object_in w.table b.value)) c.into_object.ensures)
    (c.of_type.ensures w.table stands.0 (c.in_ok-value.ensures.stands w.table (subst (λ (b : Box memory_object.Object Global). ObjectStands w.table b.value) (sym c.into_object.ensures) stands.1)))
