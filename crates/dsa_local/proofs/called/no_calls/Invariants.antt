use Rattle.dsa_local.specs.Called.{AreNone}
use Rattle.dsa_local.proofs.called.no_calls.Given as goal

abbrev pub invariant-loop : goal.invariant-loop
invariant-loop l = AreNone l.index l.callees.items
