use Rattle.std.proofs.Common.{ℕ, ◌≤◌, length}
use Rattle.c_grammar.specs.Leaves.{leaves_of}
use Rattle.c_reader.proofs.ExprRows.{LiteralsSoFar}
use Rattle.c_reader.proofs.operand.read_literals.Given as goal

abbrev pub invariant-loop-bytes : goal.invariant-loop-bytes
invariant-loop-bytes l = record {
  so_far : (room : ℕ) → LiteralsSoFar room (leaves_of l.tokens) (leaves_of l.rest) l.fn.first.items l.bytes.items;
  shorter : length l.rest ≤ length l.tokens;
}

abbrev pub decreases-loop-bytes : goal.decreases-loop-bytes
decreases-loop-bytes l = length l.rest
