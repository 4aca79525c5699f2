use Rattle.ref_meaning.specs.Running.{IsConsistentUnlessOver}
use Rattle.semantics_tests.proofs.runs.has_turns.Given as goal

abbrev pub invariant-loop-units : goal.invariant-loop-units
invariant-loop-units g l = IsConsistentUnlessOver l.run
