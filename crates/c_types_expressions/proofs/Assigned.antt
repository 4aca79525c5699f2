-- The object of a compound assignment.
use Rattle.std.proofs.Common.{◌≡◌, Option, Some, sym, subst}
use Rattle.run_theory.specs.declared.place.Pos.{Pos}
use Rattle.c_num.specs.declared.BinOp.{BinOp}
use Rattle.c_types_state.specs.declared.known.Known as memory_known
use Rattle.c_rules.specs.Known.{with_known}
use Rattle.c_rules.specs.Operators.{modifiable_rule, compound_object}
use Rattle.c_types_state.specs.NameTables.{State, scope_of}
use Rattle.c_types_state.specs.Finding.{Finds, expr_in, each_in}
use Rattle.c_types_state.proofs.Findings.{finds-stands, finds-then}
use Rattle.c_types_state.specs.declared.targets.Target as memory_target
use Rattle.c_types_state.specs.Operands.{IsTarget, TargetStands, target_in}
use Rattle.c_types_expressions.specs.Assignments.{assigned_object_rule}

module _ (s t : State) (place : Pos) (known : memory_known.Known) (found : Option memory_target.Target) (target : memory_target.Target) (is : found ≡ Some target) (first : Finds IsTarget (modifiable_rule place (expr_in s.table known)) s t found) where
  first_found : Finds IsTarget (modifiable_rule place (expr_in s.table known)) s t (Some target)
  first_found = subst (λ (r : Option memory_target.Target). Finds IsTarget (modifiable_rule place (expr_in s.table known)) s t r) is first

  pub assigned-stands : TargetStands t.table target
  assigned-stands = finds-stands TargetStands target_in first_found

  pub assigned-compound : (u : State) (part : Option memory_known.Known) (operator : Option BinOp) (op : BinOp) (r : Option memory_target.Target) → part ≡ Some known → operator ≡ Some op → Finds IsTarget (compound_object (scope_of t) op place (target_in t.table target)) t u r → Finds IsTarget (with_known (each_in expr_in s.table part) (assigned_object_rule (scope_of s) operator place)) s u r
  assigned-compound u part operator op r is_known is_op second =
      subst (λ (part : Option memory_known.Known). Finds IsTarget (with_known (each_in expr_in s.table part) (assigned_object_rule (scope_of s) operator place)) s u r) (sym is_known)
      (subst (λ (operator : Option BinOp). Finds IsTarget (with_known (each_in expr_in s.table (Some known)) (assigned_object_rule (scope_of s) operator place)) s u r) (sym is_op)
      (finds-then TargetStands target_in (λ _. modifiable_rule place (expr_in s.table known)) (λ scope. compound_object scope op place) first_found second))
