use Rattle.std.proofs.Common.{◌≡◌, drop}
use Rattle.c_lexer.specs.Tokens.{line_behind}
use Rattle.c_lexer.proofs.lexer.line_behind.Given as goal

abbrev pub invariant-loop-byte : goal.invariant-loop-byte
invariant-loop-byte l = line_behind l.fn.line l.bytes ≡ line_behind l.line (drop l.byte-index l.bytes)
