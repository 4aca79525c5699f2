use Rattle.std.proofs.Common.{◌≡◌, drop}
use Rattle.c_typed.specs.Table.{ListStands, types_in}
use Rattle.c_rules.specs.Operators.{as_many}
use Rattle.c_types_expressions.specs.Arguments.{arguments_in}
use Rattle.c_types_expressions.proofs.calls.are_as_many.Given as goal

abbrev pub invariant-loop : goal.invariant-loop
invariant-loop l = record {
  parameters : ListStands l.checker.table l.parameters;
  others : as_many (types_in l.checker.table l.parameters) (arguments_in l.checker.table (drop l.index l.arguments)) ≡ as_many (types_in l.checker.table l.fn.parameters) (arguments_in l.checker.table l.arguments);
}
