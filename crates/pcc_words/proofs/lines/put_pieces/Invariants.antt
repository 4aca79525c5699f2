use Rattle.std.proofs.Common.{◌≡◌, drop}
use Rattle.pcc_outside.proofs.Writing.{AddsBefore}
use Rattle.pcc_words.specs.Said.{line_of}
use Rattle.pcc_words.proofs.lines.put_pieces.Given as goal

abbrev pub invariant-loop-piece : goal.invariant-loop-piece
invariant-loop-piece g l = record {
  before : AddsBefore (g.E.Sink.written l.fn.err) (line_of l.pieces) (line_of (drop l.piece-index l.pieces)) (g.E.Sink.written l.err);
  faultless : g.E.Sink.faults l.err ≡ g.E.Sink.faults l.fn.err;
}
