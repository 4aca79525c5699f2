use Rattle.std.proofs.Common.{◌≡◌, length}
use Rattle.c_lexer.specs.Fronts.{after_blanks}
use Rattle.c_lexer.proofs.directives.after_blanks.Given as goal

abbrev pub invariant-loop-first : goal.invariant-loop-first
invariant-loop-first l = after_blanks l.rest ≡ after_blanks l.line

abbrev pub decreases-loop-first : goal.decreases-loop-first
decreases-loop-first l = length l.rest
