use Rattle.graph_tests.specs.Objects.{AreTypes}
use Rattle.graph_tests.proofs.types.build.Given as goal

abbrev pub invariant-loop-row : goal.invariant-loop-row
invariant-loop-row l = AreTypes l.table l.list.items
