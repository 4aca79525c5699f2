use Rattle.dsa_local.specs.Called.{AreFirstCalled}
use Rattle.dsa_local.proofs.called.CalledClasses.of_program.Given as goal

abbrev pub invariant-loop-function : goal.invariant-loop-function
invariant-loop-function l = AreFirstCalled l.tac l.function-index l.callees.items
