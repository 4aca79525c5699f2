use Rattle.std.proofs.Common.{◌≡◌, ◌+◌, ◌^◌, ◌<◌, length, drop}
use Rattle.run_theory.specs.Places.{place_behind}
use Rattle.c_lexer.proofs.lexer.behind.Given as goal

abbrev pub invariant-loop-byte : goal.invariant-loop-byte
invariant-loop-byte l = record {
  line_room : l.place.line + length l.bytes < 2 ^ 32 + l.byte-index;
  column_room : l.place.column + length l.bytes < 2 ^ 32 + l.byte-index;
  behind : place_behind l.fn.place l.bytes ≡ place_behind l.place (drop l.byte-index l.bytes);
}
