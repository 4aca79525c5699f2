use Rattle.std.proofs.Common.{◌≡◌, drop, length}
use Rattle.tac_ir.specs.Views.{tac_of}
use Rattle.pool_rewrite.specs.Placing.{statics_size}
use Rattle.pool_rewrite.specs.Rewriting.{with_literals}
use Rattle.pool_rewrite.proofs.contents.write_literals.Given as goal

-- the literals before the number are written, the others are left
abbrev pub invariant-loop-number : goal.invariant-loop-number
invariant-loop-number l = record {
  written : with_literals (tac_of l.tac) l.number (drop l.number (tac_of l.tac).literals) l.bytes ≡ with_literals (tac_of l.tac) 0 (tac_of l.tac).literals l.fn.bytes;
  long : length l.bytes ≡ statics_size (tac_of l.tac);
}
