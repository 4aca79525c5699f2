use Rattle.std.proofs.Common.{length}
use Rattle.c_grammar.specs.Leaves.{leaves_of}
use Rattle.c_lexer.proofs.Dividing.{IsCutBefore}
use Rattle.c_lexer.proofs.Spans.{StandBefore, IsPlacedBefore}
use Rattle.c_lexer.proofs.lexer.tokens.Given as goal

abbrev pub invariant-loop-rest : goal.invariant-loop-rest
invariant-loop-rest l = record {
  cut : IsCutBefore l.text (leaves_of l.found.items) l.line l.place l.rest;
  stand : StandBefore l.text l.found.items l.start l.rest;
  placed : IsPlacedBefore l.text l.place l.rest;
}

abbrev pub decreases-loop-rest : goal.decreases-loop-rest
decreases-loop-rest l = length l.rest
