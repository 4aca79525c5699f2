use Rattle.std.proofs.Common.{◌≡◌, ◌+◌, length, drop}
use Rattle.c_lexer.specs.Fronts.{comment_end}
use Rattle.c_lexer.proofs.comments.comment_end.Given as goal

abbrev pub invariant-loop-first : goal.invariant-loop-first
invariant-loop-first l = record {
  whole : l.count + length l.rest ≡ length l.text;
  same : comment_end l.count l.rest ≡ comment_end 2 (drop 2 l.text);
}

abbrev pub decreases-loop-first : goal.decreases-loop-first
decreases-loop-first l = length l.rest
