use Rattle.std.proofs.Common.{◌≡◌, length}
use Rattle.pcc_outside.proofs.Writing.{AddsBefore}
use Rattle.pcc_outside.proofs.whole.write_all.Given as goal

abbrev pub invariant-loop-rest : goal.invariant-loop-rest
invariant-loop-rest g l = record {
  before : AddsBefore (g.S.Sink.written l.initial.sink) l.bytes l.rest (g.S.Sink.written l.sink);
  faultless : g.S.Sink.faults l.sink ≡ g.S.Sink.faults l.initial.sink;
}

abbrev pub decreases-loop-rest : goal.decreases-loop-rest
decreases-loop-rest g l = length l.rest
