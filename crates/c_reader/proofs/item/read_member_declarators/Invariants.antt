use Rattle.std.proofs.Common.{◌≤◌, [], ◌∷◌, length}
use Rattle.c_grammar.specs.Runs.{Whole}
use Rattle.c_grammar.specs.Forms as forms
use Rattle.c_grammar.specs.Leaves.{leaves_of}
use Rattle.c_reader.specs.Shapes.{member_declarators_of}
use Rattle.c_reader.specs.Lists.{Listed}
use Rattle.c_reader.specs.ItemLists.{member_declarator_before}
use Rattle.c_reader.proofs.item.read_member_declarators.Given as goal

abbrev pub invariant-loop-declarators : goal.invariant-loop-declarators
invariant-loop-declarators l = record {
  listed : Listed member_declarator_before (Whole forms.MemberMore 0) l.room (leaves_of l.tokens) member_declarators_of (l.fn.first ∷ []) l.declarators.items (leaves_of l.rest);
  within : length l.rest ≤ length l.tokens;
}

abbrev pub decreases-loop-declarators : goal.decreases-loop-declarators
decreases-loop-declarators l = length l.rest
