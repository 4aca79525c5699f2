use Rattle.std.proofs.Common.{◌≤◌, [], ◌∷◌, length}
use Rattle.c_grammar.specs.Runs.{Whole}
use Rattle.c_grammar.specs.Forms as forms
use Rattle.c_grammar.specs.Leaves.{leaves_of}
use Rattle.c_reader.specs.Shapes.{more_members_of}
use Rattle.c_reader.specs.Lists.{Listed}
use Rattle.c_reader.specs.ItemLists.{member_before}
use Rattle.c_reader.proofs.item.read_members.Given as goal

abbrev pub invariant-loop-members : goal.invariant-loop-members
invariant-loop-members l = record {
  listed : Listed member_before (Whole forms.MembersMore 0) l.room (leaves_of l.tokens) more_members_of (l.fn.first ∷ []) l.members.items (leaves_of l.rest);
  within : length l.rest ≤ length l.tokens;
}

abbrev pub decreases-loop-members : goal.decreases-loop-members
decreases-loop-members l = length l.rest
