use Rattle.std.proofs.Common.{◌≤◌, [], length}
use Rattle.c_grammar.specs.Runs.{Whole}
use Rattle.c_grammar.specs.Forms as forms
use Rattle.c_grammar.specs.Leaves.{leaves_of}
use Rattle.c_reader.specs.Shapes.{items_of}
use Rattle.c_reader.specs.Lists.{Listed}
use Rattle.c_reader.specs.ItemLists.{item_before}
use Rattle.c_reader.proofs.item.read_items.Given as goal

abbrev pub invariant-loop-items : goal.invariant-loop-items
invariant-loop-items l = record {
  listed : Listed item_before (Whole forms.Items 0) l.room (leaves_of l.tokens) items_of [] l.items.items (leaves_of l.rest);
  within : length l.rest ≤ length l.tokens;
}

abbrev pub decreases-loop-items : goal.decreases-loop-items
decreases-loop-items l = length l.rest
