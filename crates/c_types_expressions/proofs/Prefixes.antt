-- What `*` in front of a pointer finds.
use Rattle.std.proofs.Common.{◌≡◌, Option, Some, None, refl, sym, subst}
use Rattle.run_theory.specs.declared.place.Pos.{Pos}
use Rattle.c_syntax.specs.declared.operator.PrefixOperator.{PrefixOperator}
use Rattle.c_syntax.specs.declared.operator.PrefixOperator.TheVariants as P
use Rattle.c_types_state.specs.declared.known.Known as memory_known
use Rattle.c_rules.specs.Known.{Known, given, with_known, value_rule}
use Rattle.c_rules.specs.Operators.{dereferenced}
use Rattle.c_rules.specs.Names.{Scope}
use Rattle.c_types_state.specs.NameTables.{State, scope_of}
use Rattle.c_types_state.specs.Finding.{Finds, IsExpr, each_in, expr_in}
use Rattle.c_types_state.proofs.Findings.{finds-then}
use Rattle.c_types_state.specs.declared.operands.Operand as memory_operand
use Rattle.c_types_state.specs.Operands.{IsOperand, operand_in, OperandStands}
use Rattle.c_types_expressions.specs.Unary.{prefixed_rule}

module _ (scope : Scope) (whole place : Pos) where
  rule-dereference : (o : Option Known) → given (with_known o (value_rule place)) (dereferenced scope whole) ≡ with_known o (prefixed_rule scope P.Dereference whole place)
  rule-dereference None = refl
  rule-dereference (Some k) = refl

module _ (operator : PrefixOperator) (whole place : Pos) (s t u : State) (operand : Option memory_known.Known) (found : Option memory_operand.Operand) (pointer : memory_operand.Operand) (r : Option memory_known.Known) where
  pub prefixed-pointed : operator ≡ P.Dereference → Finds IsOperand (with_known (each_in expr_in s.table operand) (value_rule place)) s t found → found ≡ Some pointer → Finds IsExpr (dereferenced (scope_of t) whole (operand_in t.table pointer)) t u r → Finds IsExpr (with_known (each_in expr_in s.table operand) (prefixed_rule (scope_of s) operator whole place)) s u r
  prefixed-pointed is first e second =
      let both : Finds IsExpr (given (with_known (each_in expr_in s.table operand) (value_rule place)) (dereferenced (scope_of s) whole)) s u r =
      finds-then OperandStands operand_in (λ _. with_known (each_in expr_in s.table operand) (value_rule place)) (λ scope. dereferenced scope whole)
      (subst (λ f. Finds IsOperand (with_known (each_in expr_in s.table operand) (value_rule place)) s t f) e first) second in
      subst (λ o. Finds IsExpr (with_known (each_in expr_in s.table operand) (prefixed_rule (scope_of s) o whole place)) s u r) (sym is)
      (subst (λ rule. Finds IsExpr rule s u r) (rule-dereference (scope_of s) whole place (each_in expr_in s.table operand)) both)
