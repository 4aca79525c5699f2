use Rattle.std.proofs.Common.{◌≡◌, [], length, drop}
use Rattle.c_syntax.specs.Views.{parameters_of}
use Rattle.c_types_state.specs.NameTables.{scope_of}
use Rattle.c_types.specs.Made.{Covers}
use Rattle.c_types.proofs.ParameterLocals.{Gathers}
use Rattle.c_types.proofs.parameters.parameter_locals.Given as goal

-- Nothing was found or named so far. Whatever types are made of the parameters that are left, behind the types so far they are
-- those of all.
abbrev pub invariant-loop-parameter : goal.invariant-loop-parameter
invariant-loop-parameter l = record {
  covers : Covers [] [] (scope_of l.fn.pass.checker) l.fn.pass l.pass;
  long : length l.types.items ≡ l.parameter-index;
  gathers : Gathers (scope_of l.fn.pass.checker) (parameters_of l.parameters) (parameters_of (drop l.parameter-index l.parameters)) l.pass.checker.table l.types.items;
}
