use Rattle.std.proofs.Common.{◌≡◌, ◌≤◌, drop, length}
use Rattle.c_typed.specs.Table.{type_in}
use Rattle.c_typed.specs.DefinitionViews.{characters_held}
use Rattle.tac_ir.specs.Views.{tac_of}
use Rattle.pool_rewrite.specs.Rewriting.{with_first}
use Rattle.pool_rewrite.proofs.contents.write_text.Given as goal

-- the bytes from the index on are written
abbrev pub invariant-loop-index : goal.invariant-loop-index
invariant-loop-index l = record {
  within : l.index ≤ length l.text;
  written : l.bytes ≡ with_first (tac_of l.tac) (type_in l.tac.types l.target.c_type) l.target.start (characters_held l.parts l.int_type l.index (drop l.index l.text)) l.fn.bytes;
  long : length l.bytes ≡ length l.fn.bytes;
}

abbrev pub decreases-loop-index : goal.decreases-loop-index
decreases-loop-index l = l.index
