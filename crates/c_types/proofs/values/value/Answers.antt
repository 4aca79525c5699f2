use Rattle.std.proofs.Common.{subst}
use Rattle.std.proofs.lemmas.Result.{IfOk-weaker}
use Rattle.run_theory.specs.declared.place.Pos.{Pos}
use Rattle.c_syntax.specs.Views.{expr_tree}
use Rattle.c_rules.specs.Known.{given, value_rule}
use Rattle.c_rules.specs.Expressions.{expr}
use Rattle.c_types_state.specs.Finding.{ExprStands, expr_in}
use Rattle.c_types_state.specs.NameTables.{scope_of}
use Rattle.c_types_state.specs.Operands.{IsOperand}
use Rattle.c_rules.specs.Named.{named_in}
use Rattle.c_types_expressions.specs.Passes.{Passes}
use Rattle.c_types_expressions.proofs.Giving.{stands-now}
use Rattle.c_types_expressions.proofs.Passing.{passes-one, with_checker}
use Rattle.c_types.proofs.values.value.Goals as goal

pub as_value-requires : goal.as_value-requires
as_value-requires c = stands-now ExprStands expr_in c.in_ok-part.ensures.finds

pub returns : goal.returns
returns c =
    let tree = expr_tree c.args.tree.now in
    let here = c.place_of-place.result in
    let s = c.args.pass.now in
    let scope = scope_of s.checker in
    IfOk-weaker c.as_value.result _ _
    (λ r found. subst (λ (p : Pos). Passes IsOperand (given (expr scope tree) (value_rule p)) (named_in scope tree) s (with_checker c.expr.new.pass c.as_value.new.checker) r) c.place_of-place.ensures
    (passes-one ExprStands expr_in (λ scope. expr scope tree) (λ _. value_rule here) (λ scope. named_in scope tree) c.in_ok-part.ensures found))
    c.as_value.ensures
