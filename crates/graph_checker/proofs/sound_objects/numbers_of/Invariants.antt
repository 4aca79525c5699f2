use Rattle.std.proofs.Common.{◌≡◌, drop, ◌++◌}
use Rattle.graph_checker.specs.Tests.{parameter_numbers, variable_numbers}
use Rattle.graph_checker.proofs.sound_objects.numbers_of.Given as goal

-- the numbers so far, and those of the objects from this index on
abbrev pub invariant-loop-object : goal.invariant-loop-object
invariant-loop-object l = record {
  parameters : l.parameters.items ++ parameter_numbers (drop l.object-index l.objects) ≡ parameter_numbers l.objects;
  variables : l.variables.items ++ variable_numbers (drop l.object-index l.objects) ≡ variable_numbers l.objects;
}
