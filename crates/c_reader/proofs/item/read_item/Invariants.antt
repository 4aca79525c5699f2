use Rattle.std.proofs.Common.{◌≤◌, length}
use Rattle.c_grammar.specs.Leaves.{leaves_of}
use Rattle.c_reader.proofs.ItemRows.{Stored}
use Rattle.c_reader.proofs.item.read_item.Given as goal

abbrev pub invariant-loop-kind : goal.invariant-loop-kind
invariant-loop-kind l = record {
  stored : Stored l.room (leaves_of l.tokens) (leaves_of l.rest);
  within : length l.rest ≤ length l.tokens;
}

abbrev pub decreases-loop-kind : goal.decreases-loop-kind
decreases-loop-kind l = length l.rest
