-- Passes over the three parts of a choice between two.
use Rattle.std.proofs.Common.{◌++◌, Option, ◌∙◌}
use Rattle.run_theory.specs.declared.place.Pos.{Pos}
use Rattle.c_syntax.specs.Trees.{ExprTree}
use Rattle.c_typed.proofs.Grown.{grows_trans}
use Rattle.c_types_state.specs.declared.known.Condition as memory_condition
use Rattle.c_types_state.specs.declared.known.Known as memory_known
use Rattle.c_rules.specs.Known.{give, with_known, given, given_three, value_rule, as_value}
use Rattle.c_rules.specs.Operators.{as_condition, choice, condition_of, scalar_rule}
use Rattle.c_rules.specs.Expressions.{expr}
use Rattle.c_types_state.specs.NameTables.{State, scope_of}
use Rattle.c_types_state.specs.Finding.{Finds, IsExpr, ExprStands, expr_in, IsCondition, condition_in, each_in}
use Rattle.c_types_state.proofs.Findings.{finds-then, stays-condition}
use Rattle.c_types_state.specs.declared.operands.Operand as memory_operand
use Rattle.c_types_state.specs.Operands.{IsOperand, OperandStands, operand_in}
use Rattle.c_types_expressions.specs.declared.pass.Pass.{Pass}
use Rattle.c_types_expressions.specs.Forms.{ConditionStands}
use Rattle.c_rules.specs.Named.{named_in}
use Rattle.c_types_expressions.specs.Passes.{Passes}
use Rattle.c_types_expressions.proofs.Giving.{finds-then-given-given, finds-then_three}
use Rattle.c_types_expressions.proofs.Naming.{names-grow, names-two}
use Rattle.c_types_expressions.proofs.Passing.{with_checker}
use Rattle.c_types_expressions.proofs.Standing.{stays-operand}

pub passes-choice : (condition taken otherwise : ExprTree) (p q o : Pos) {s0 s1 s2 s3 : Pass} {t1 t2 t3 t4 : State} {r r' r'' whole : Option memory_known.Known} {tested : Option memory_condition.Condition} {a b : Option memory_operand.Operand}
    → Passes IsExpr (expr (scope_of s0.checker) condition) (named_in (scope_of s0.checker) condition) s0 s1 r
    → Finds IsCondition (given (given (with_known (each_in expr_in s1.checker.table r) (value_rule p)) (scalar_rule p)) (λ value. give (condition_of p value))) s1.checker t1 tested
    → Passes IsExpr (expr (scope_of t1) taken) (named_in (scope_of t1) taken) (with_checker s1 t1) s2 r' → Finds IsOperand (with_known (each_in expr_in s2.checker.table r') (value_rule q)) s2.checker t2 a
    → Passes IsExpr (expr (scope_of t2) otherwise) (named_in (scope_of t2) otherwise) (with_checker s2 t2) s3 r'' → Finds IsOperand (with_known (each_in expr_in s3.checker.table r'') (value_rule o)) s3.checker t3 b
    → Finds IsExpr (with_known (each_in condition_in t3.table tested) (λ c. with_known (each_in operand_in t3.table a) (λ a. with_known (each_in operand_in t3.table b) (choice p c a)))) t3 t4 whole
    → Passes IsExpr (given_three (as_condition p (expr (scope_of s0.checker) condition)) (as_value q (expr (scope_of s0.checker) taken)) (as_value o (expr (scope_of s0.checker) otherwise)) (choice p)) ((named_in (scope_of s0.checker) condition ++ named_in (scope_of s0.checker) taken) ++ named_in (scope_of s0.checker) otherwise) s0 (with_checker s3 t4) whole
passes-choice condition taken otherwise p q o {s0 = s0} {s1 = s1} {s2 = s2} {s3 = s3} {t1 = t1} {t2 = t2} {t3 = t3} {t4 = t4} first mid second mid' third mid'' last =
    let scope = scope_of s0.checker in
    let finds = finds-then-given-given ExprStands expr_in (expr scope condition) (value_rule p) (scalar_rule p) (λ value. give (condition_of p value)) first.finds mid in
    let finds' = finds-then ExprStands expr_in (λ scope. expr scope taken) (λ _. value_rule q) second.finds mid' in
    let finds'' = finds-then ExprStands expr_in (λ scope. expr scope otherwise) (λ _. value_rule o) third.finds mid'' in
    let two =
    names-two (named_in scope condition) (λ scope. named_in scope taken) s1.checker.table s2.checker.table (scope_of t1) scope first.names
    (grows_trans s1.checker.table t1.table s2.checker.table mid.grows second.finds.grows) finds.scope second.names in
    let three =
    names-two (named_in scope condition ++ named_in scope taken) (λ scope. named_in scope otherwise) s2.checker.table s3.checker.table (scope_of t2) scope two
    (grows_trans s2.checker.table t2.table s3.checker.table mid'.grows third.finds.grows) (finds'.scope ∙ finds.scope) third.names in
    record {
      finds =
          finds-then_three ConditionStands condition_in OperandStands operand_in OperandStands operand_in (λ scope. as_condition p (expr scope condition)) (λ scope. as_value q (expr scope taken)) (λ scope. as_value o (expr scope otherwise)) (λ _. choice p)
          stays-condition stays-operand finds finds' finds'' last;
      names = names-grow s3.checker.table t4.table (grows_trans s3.checker.table t3.table t4.table mid''.grows last.grows) three;
    }
