use Rattle.std.proofs.lemmas.Result.{IfOk-weaker}
use Rattle.c_types_expressions.proofs.Prefixes.{prefixed-pointed}
use Rattle.c_types_expressions.proofs.unary.prefixed.Goals as goal

pub returns-in-Some : goal.returns-in-Some
returns-in-Some c =
    IfOk-weaker c.dereferenced.result _ _
    (λ r h. prefixed-pointed c.args.operator c.args.whole c.args.place c.args.checker.now c.as_value.new.checker c.dereferenced.new.checker c.args.operand c.in_ok-pointer-in-Dereference.field-0 c.in-Some.pointer r c.in-Dereference.is c.in_ok-pointer-in-Dereference.ensures c.in-Some.is h)
    c.dereferenced.ensures
