use Rattle.std.proofs.Common.{◌≡◌, ◌+◌, length}
use Rattle.c_lexer.specs.Constants.{quoted, quoted_from}
use Rattle.c_lexer.proofs.quoted.read_quoted.Given as goal

abbrev pub invariant-loop-first : goal.invariant-loop-first
invariant-loop-first l = record {
  whole : l.width + length l.rest ≡ length l.text;
  same : quoted l.place l.quote l.text ≡ quoted_from l.place l.quote l.bytes.items l.width 0 l.rest;
}

abbrev pub decreases-loop-first : goal.decreases-loop-first
decreases-loop-first l = length l.rest
