use Rattle.std.proofs.Common.{◌≤◌, [], ◌∷◌, length}
use Rattle.c_grammar.specs.Runs.{Whole}
use Rattle.c_grammar.specs.Forms as forms
use Rattle.c_grammar.specs.Leaves.{leaves_of}
use Rattle.c_reader.specs.Shapes.{declarators_of}
use Rattle.c_reader.specs.Lists.{Listed}
use Rattle.c_reader.specs.StatementLists.{declarator_before}
use Rattle.c_reader.proofs.declaration.read_declarators.Given as goal

abbrev pub invariant-loop-declarators : goal.invariant-loop-declarators
invariant-loop-declarators l = record {
  listed : Listed declarator_before (Whole forms.DeclaratorsMore 0) l.room (leaves_of l.tokens) declarators_of (l.fn.first ∷ []) l.declarators.items (leaves_of l.rest);
  within : length l.rest ≤ length l.tokens;
}

abbrev pub decreases-loop-declarators : goal.decreases-loop-declarators
decreases-loop-declarators l = length l.rest
