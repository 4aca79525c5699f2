use Rattle.std.proofs.Common.{◌≡◌, drop}
use Rattle.c_syntax.specs.Views.{parameters_of}
use Rattle.c_rules.specs.Names.{Scope}
use Rattle.c_types.proofs.ParameterLocals.{Declares}
use Rattle.c_types.proofs.parameters.declare_parameters.Given as goal

-- The table stays. What is covered of the parameters that are left is covered of all.
abbrev pub invariant-loop-index : goal.invariant-loop-index
invariant-loop-index l = record {
  table : l.pass.checker.table ≡ l.fn.pass.checker.table;
  declares : (outside : Scope) → Declares outside l.fn.pass.checker.table l.types (parameters_of l.parameters) l.fn.pass (drop l.index l.types) (parameters_of (drop l.index l.parameters)) l.pass;
}
