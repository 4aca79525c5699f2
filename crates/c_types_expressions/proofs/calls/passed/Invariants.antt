use Rattle.std.proofs.Common.{List, Option}
use Rattle.c_typed.specs.declared.typed.Value as memory_value
use Rattle.c_typed.specs.Table.{ListStands, types_in}
use Rattle.c_types_state.specs.NameTables.{State}
use Rattle.c_types_state.specs.Finding.{Finds}
use Rattle.c_types_state.specs.Staying.{IsValues}
use Rattle.c_types_expressions.specs.Arguments.{arguments_in, ArgumentsStand}
use Rattle.c_types_expressions.specs.Calls.{passed_values}
use Rattle.c_types_expressions.proofs.Arguments.{with_others}
use Rattle.c_types_expressions.proofs.calls.passed.Given as goal

-- What is found of the arguments that are left, behind the values so far, is what is found of all.
abbrev pub invariant-loop-argument : goal.invariant-loop-argument
invariant-loop-argument l = record {
  parameters : ListStands l.checker.table l.parameters;
  arguments : ArgumentsStand l.checker.table l.argument-iterator.rest.items;
  others : (t : State) (r : Option (List memory_value.Value)) → Finds IsValues (passed_values l.whole l.is_free (types_in l.checker.table l.parameters) (arguments_in l.checker.table l.argument-iterator.rest.items)) l.checker t r → Finds IsValues (passed_values l.whole l.is_free (types_in l.fn.checker.table l.fn.parameters) (arguments_in l.fn.checker.table l.fn.arguments.items)) l.fn.checker t (with_others l.are_known l.values.items r);
}
