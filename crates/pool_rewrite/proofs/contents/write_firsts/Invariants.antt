use Rattle.std.proofs.Common.{◌≡◌, ◌≤◌, drop, length}
use Rattle.c_typed.specs.Table.{type_in}
use Rattle.c_typed.specs.DefinitionViews.{all_first}
use Rattle.tac_ir.specs.Views.{tac_of}
use Rattle.pool_rewrite.specs.Rewriting.{with_first}
use Rattle.pool_rewrite.proofs.contents.write_firsts.Given as goal

-- the first values from the number on are written
abbrev pub invariant-loop-number : goal.invariant-loop-number
invariant-loop-number l = record {
  within : l.number ≤ length l.firsts;
  written : l.bytes ≡ with_first (tac_of l.tac) (type_in l.tac.types l.target.c_type) l.target.start (all_first (drop l.number l.firsts)) l.fn.bytes;
  long : length l.bytes ≡ length l.fn.bytes;
}

abbrev pub decreases-loop-number : goal.decreases-loop-number
decreases-loop-number l = l.number
