use Rattle.std.proofs.Common.{◌≤◌, ◌+◌, ◌*◌, length}
use Rattle.c_grammar.specs.Runs.{Whole}
use Rattle.c_grammar.specs.Forms as forms
use Rattle.c_grammar.specs.Leaves.{leaves_of}
use Rattle.c_reader.specs.Shapes.{inits_of}
use Rattle.c_reader.specs.Lists.{Listed}
use Rattle.c_reader.specs.StatementLists.{init_before}
use Rattle.c_reader.proofs.declaration.+init.Given as goal

abbrev pub decreases-read_init : goal.decreases-read_init
decreases-read_init l = 3 * length l.tokens.now + 1

abbrev pub decreases-read_init_behind_comma : goal.decreases-read_init_behind_comma
decreases-read_init_behind_comma l = 3 * length l.tokens.now + 2

abbrev pub decreases-read_init_list : goal.decreases-read_init_list
decreases-read_init_list l = 3 * length l.tokens.now

abbrev pub decreases-read_inits : goal.decreases-read_inits
decreases-read_inits l = 3 * length l.tokens.now + 1

abbrev pub decreases-read_next_init : goal.decreases-read_next_init
decreases-read_next_init l = 3 * length l.tokens.now

abbrev pub invariant-read_inits-loop-inits : goal.invariant-read_inits-loop-inits
invariant-read_inits-loop-inits l = record {
  listed : Listed init_before (Whole forms.InitMore 0) l.room (leaves_of l.tokens) inits_of l.fn.before.items l.inits.items (leaves_of l.rest);
  within : length l.rest ≤ length l.tokens;
}

abbrev pub decreases-read_inits-loop-inits : goal.decreases-read_inits-loop-inits
decreases-read_inits-loop-inits l = length l.rest
