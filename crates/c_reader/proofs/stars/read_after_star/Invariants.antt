use Rattle.std.proofs.Common.{ℕ, ◌+◌, ◌≤◌, length}
use Rattle.c_grammar.specs.Leaves.{leaves_of}
use Rattle.c_reader.proofs.StarRows.{StarsSoFar}
use Rattle.c_reader.proofs.stars.read_after_star.Given as goal

abbrev pub invariant-loop-rest : goal.invariant-loop-rest
invariant-loop-rest l = record {
  so_far : (room : ℕ) → StarsSoFar room (leaves_of l.tokens) (leaves_of l.rest) l.count;
  counted : l.count + length l.rest ≤ length l.tokens;
}

abbrev pub decreases-loop-rest : goal.decreases-loop-rest
decreases-loop-rest l = length l.rest
