-- Expressions in statements: conditions, constants, and what stands for them.
use Rattle.std.proofs.Common.{◌≡◌, Option, Some, None, ℤ, refl, sym, ap, subst}
use Rattle.run_theory.specs.declared.place.Pos.{Pos}
use Rattle.c_syntax.specs.Trees.{ExprTree}
use Rattle.c_typed.specs.declared.typed.Value as memory_value
use Rattle.c_typed.specs.declared.typed.Value.TheVariants as V
use Rattle.c_typed.proofs.Grown.{grows_trans}
use Rattle.c_rules.specs.declared.constness.Constness.{Constness}
use Rattle.c_types_state.specs.declared.known.Known as memory_known
use Rattle.c_types_state.specs.declared.known.Condition as memory_condition
use Rattle.c_rules.specs.Known.{Known, given, give, with_known, value_rule}
use Rattle.c_rules.specs.Operators.{Condition, as_condition, as_integer, scalar_rule, condition_of, integer_rule}
use Rattle.c_rules.specs.Expressions.{expr, place_of, as_constant, constant_value}
use Rattle.c_rules.specs.Elaborated.{condition_test}
use Rattle.c_types_state.specs.NameTables.{State, scope_of}
use Rattle.c_types_state.specs.Finding.{Finds, ExprStands, IsExpr, IsCondition, IsOption, expr_in, each_in}
use Rattle.c_types_state.specs.Staying.{IsValue, IsSame}
use Rattle.c_types_state.proofs.Findings.{plain-some, plain-none}
use Rattle.c_types_state.specs.declared.operands.Operand as memory_operand
use Rattle.c_types_state.specs.Operands.{IsOperand}
use Rattle.c_types_expressions.specs.declared.pass.Pass.{Pass}
use Rattle.c_rules.specs.Named.{named_in}
use Rattle.c_types_expressions.specs.Passes.{Passes}
use Rattle.c_types_expressions.proofs.Giving.{finds-then-given, finds-then-given-given}
use Rattle.c_types_expressions.proofs.Naming.{passes-made}
use Rattle.c_types_expressions.proofs.Passing.{with_checker}
use Rattle.c_types.specs.Made.{Makes}
use Rattle.c_types.proofs.Covering.{covers-passes}

module _ (tree : ExprTree) (here : Pos) (is : here ≡ place_of tree) {s0 s1 : Pass} {t : State} {r : Option memory_known.Known} (first : Passes IsExpr (expr (scope_of s0.checker) tree) (named_in (scope_of s0.checker) tree) s0 s1 r) where
  -- ---- conditions

  passes-condition : {r' : Option memory_condition.Condition} → Finds IsCondition (given (given (with_known (each_in expr_in s1.checker.table r) (value_rule here)) (scalar_rule here)) (λ value. give (condition_of here value))) s1.checker t r' → Passes IsCondition (as_condition (place_of tree) (expr (scope_of s0.checker) tree)) (named_in (scope_of s0.checker) tree) s0 (with_checker s1 t) r'
  passes-condition {r' = r'} last =
      subst (λ (p : Pos). Passes IsCondition (as_condition p (expr (scope_of s0.checker) tree)) (named_in (scope_of s0.checker) tree) s0 (with_checker s1 t) r') is
      (passes-made first last.grows refl (finds-then-given-given ExprStands expr_in (expr (scope_of s0.checker) tree) (value_rule here) (scalar_rule here) (λ value. give (condition_of here value)) first.finds last))

  pub makes-condition : (r' : Option memory_condition.Condition) (condition : memory_condition.Condition) → r' ≡ Some condition → Finds IsCondition (given (given (with_known (each_in expr_in s1.checker.table r) (value_rule here)) (scalar_rule here)) (λ value. give (condition_of here value))) s1.checker t r' → Makes IsValue (as_condition (place_of tree) (expr (scope_of s0.checker) tree)).found (condition_test (as_condition (place_of tree) (expr (scope_of s0.checker) tree)).known) (named_in (scope_of s0.checker) tree) (scope_of s0.checker) s0 (with_checker s1 t) condition.test.value
  makes-condition r' condition e last =
      let passes = passes-condition last in
      record { covers = covers-passes passes; made = by _ (subst (λ (r' : Option memory_condition.Condition). IsOption (IsCondition t.table) r' (as_condition (place_of tree) (expr (scope_of s0.checker) tree)).known) e passes.finds.known) }
    where
      by : (k : Option Condition) → IsOption (IsCondition t.table) (Some condition) k → IsValue t.table condition.test.value (condition_test k)
      by None h = absurd h
      by (Some known) h = (h.0, ap (λ (c : Condition). c.test) h.1)

  pub makes-no_condition : (r' : Option memory_condition.Condition) {v : memory_value.Value} → r' ≡ None → v ≡ V.NullPointer → Finds IsCondition (given (given (with_known (each_in expr_in s1.checker.table r) (value_rule here)) (scalar_rule here)) (λ value. give (condition_of here value))) s1.checker t r' → Makes IsValue (as_condition (place_of tree) (expr (scope_of s0.checker) tree)).found (condition_test (as_condition (place_of tree) (expr (scope_of s0.checker) tree)).known) (named_in (scope_of s0.checker) tree) (scope_of s0.checker) s0 (with_checker s1 t) v
  makes-no_condition r' {v = v} e null last =
      let passes = passes-condition last in
      let known = subst (λ (r' : Option memory_condition.Condition). IsOption (IsCondition t.table) r' (as_condition (place_of tree) (expr (scope_of s0.checker) tree)).known) e passes.finds.known in
      record { covers = covers-passes passes; made = subst (λ (v : memory_value.Value). IsValue t.table v (condition_test (as_condition (place_of tree) (expr (scope_of s0.checker) tree)).known)) (sym null) (by _ known) }
    where
      by : (k : Option Condition) → IsOption (IsCondition t.table) None k → IsValue t.table V.NullPointer (condition_test k)
      by None h = (tt, refl)
      by (Some known) h = absurd h

  -- ---- constants

  integer_found : {o : Option memory_operand.Operand} → Finds IsOperand (given (with_known (each_in expr_in s1.checker.table r) (value_rule here)) (integer_rule here)) s1.checker t o → Finds IsOperand (as_integer here (expr (scope_of s0.checker) tree)) s0.checker t o
  integer_found second = finds-then-given ExprStands expr_in (expr (scope_of s0.checker) tree) (value_rule here) (integer_rule here) first.finds second

  pub passes-constant : {u : State} (o : Option memory_operand.Operand) (x : memory_operand.Operand) {n : Option ℤ} → o ≡ Some x → Finds IsOperand (given (with_known (each_in expr_in s1.checker.table r) (value_rule here)) (integer_rule here)) s1.checker t o → Finds (IsSame {A = ℤ}) (constant_value here x.constness) t u n → Passes (IsSame {A = ℤ}) (as_constant (place_of tree) (expr (scope_of s0.checker) tree)) (named_in (scope_of s0.checker) tree) s0 (with_checker s1 u) n
  passes-constant {u = u} o x {n = n} e second third =
      let found = subst (λ (o : Option memory_operand.Operand). Finds IsOperand (as_integer here (expr (scope_of s0.checker) tree)) s0.checker t o) e (integer_found second) in
      let whole : Finds (IsSame {A = ℤ}) (as_constant here (expr (scope_of s0.checker) tree)) s0.checker u n =
      plain-some (as_integer here (expr (scope_of s0.checker) tree)) (λ value. constant_value here value.constness) found
      (λ v h. subst (λ (c : Constness). Finds (IsSame {A = ℤ}) (constant_value here c) t u n) (ap (λ (k : Known). k.constness) h.1) third) in
      subst (λ (p : Pos). Passes (IsSame {A = ℤ}) (as_constant p (expr (scope_of s0.checker) tree)) (named_in (scope_of s0.checker) tree) s0 (with_checker s1 u) n) is
      (passes-made first (grows_trans s1.checker.table t.table u.table second.grows third.grows) refl whole)

  pub passes-no_constant : (o : Option memory_operand.Operand) → o ≡ None → Finds IsOperand (given (with_known (each_in expr_in s1.checker.table r) (value_rule here)) (integer_rule here)) s1.checker t o → Passes (IsSame {A = ℤ}) (as_constant (place_of tree) (expr (scope_of s0.checker) tree)) (named_in (scope_of s0.checker) tree) s0 (with_checker s1 t) None
  passes-no_constant o e second =
      let found = subst (λ (o : Option memory_operand.Operand). Finds IsOperand (as_integer here (expr (scope_of s0.checker) tree)) s0.checker t o) e (integer_found second) in
      let whole : Finds (IsSame {A = ℤ}) (as_constant here (expr (scope_of s0.checker) tree)) s0.checker t None =
      plain-none (as_integer here (expr (scope_of s0.checker) tree)) (λ value. constant_value here value.constness) found in
      subst (λ (p : Pos). Passes (IsSame {A = ℤ}) (as_constant p (expr (scope_of s0.checker) tree)) (named_in (scope_of s0.checker) tree) s0 (with_checker s1 t) None) is
      (passes-made first second.grows refl whole)
