use Rattle.std.proofs.Common.{◌≤◌, ◌+◌, ◌*◌, [], length}
use Rattle.c_grammar.specs.Runs.{Whole}
use Rattle.c_grammar.specs.Forms as forms
use Rattle.c_grammar.specs.Leaves.{leaves_of}
use Rattle.c_reader.specs.Shapes.{block_of, switch_of}
use Rattle.c_reader.specs.Lists.{Listed}
use Rattle.c_reader.specs.StmtLists.{block_before, switch_before}
use Rattle.c_reader.proofs.statement.+stmt.Given as goal

abbrev pub decreases-read_stmt : goal.decreases-read_stmt
decreases-read_stmt l = 6 * length l.tokens.now + 3

abbrev pub decreases-read_stmt_row : goal.decreases-read_stmt_row
decreases-read_stmt_row l = 6 * length l.tokens.now + 2

abbrev pub decreases-read_block_stmt : goal.decreases-read_block_stmt
decreases-read_block_stmt l = 6 * length l.tokens.now + 1

abbrev pub decreases-read_if : goal.decreases-read_if
decreases-read_if l = 6 * length l.tokens.now + 1

abbrev pub decreases-read_else : goal.decreases-read_else
decreases-read_else l = 6 * length l.tokens.now + 0

abbrev pub decreases-read_while : goal.decreases-read_while
decreases-read_while l = 6 * length l.tokens.now + 1

abbrev pub decreases-read_do : goal.decreases-read_do
decreases-read_do l = 6 * length l.tokens.now + 1

abbrev pub decreases-read_for : goal.decreases-read_for
decreases-read_for l = 6 * length l.tokens.now + 1

abbrev pub decreases-read_switch : goal.decreases-read_switch
decreases-read_switch l = 6 * length l.tokens.now + 1

abbrev pub decreases-read_block_items : goal.decreases-read_block_items
decreases-read_block_items l = 6 * length l.tokens.now + 5

abbrev pub decreases-read_block_item : goal.decreases-read_block_item
decreases-read_block_item l = 6 * length l.tokens.now + 4

abbrev pub decreases-read_switch_items : goal.decreases-read_switch_items
decreases-read_switch_items l = 6 * length l.tokens.now + 5

abbrev pub decreases-read_switch_item : goal.decreases-read_switch_item
decreases-read_switch_item l = 6 * length l.tokens.now + 4

abbrev pub invariant-read_block_items-loop-items : goal.invariant-read_block_items-loop-items
invariant-read_block_items-loop-items l = record {
  listed : Listed block_before (Whole forms.BlockItems 0) l.room (leaves_of l.tokens) block_of [] l.items.items (leaves_of l.rest);
  within : length l.rest ≤ length l.tokens;
}

abbrev pub decreases-read_block_items-loop-items : goal.decreases-read_block_items-loop-items
decreases-read_block_items-loop-items l = length l.rest

abbrev pub invariant-read_switch_items-loop-items : goal.invariant-read_switch_items-loop-items
invariant-read_switch_items-loop-items l = record {
  listed : Listed switch_before (Whole forms.SwitchItems 0) l.room (leaves_of l.tokens) switch_of [] l.items.items (leaves_of l.rest);
  within : length l.rest ≤ length l.tokens;
}

abbrev pub decreases-read_switch_items-loop-items : goal.decreases-read_switch_items-loop-items
decreases-read_switch_items-loop-items l = length l.rest
