use Rattle.std.proofs.Common.{◌≡◌, ℕ, ◌<◌, ◌≤◌, ◌⊎◌, Bool, length}
use Rattle.c_grammar.specs.Leaves.{leaves_of}
use Rattle.c_reader.specs.Steps.{PassesWords}
use Rattle.c_reader.proofs.words.pass_words.Given as goal

abbrev pub invariant-loop-next : goal.invariant-loop-next
invariant-loop-next l = record {
  so_far : (own : Bool) (room : ℕ) → PassesWords own room (leaves_of l.tokens) l.fn.first (leaves_of l.rest) l.words;
  shorter : length l.rest ≤ length l.tokens;
  passed : (l.words ≡ l.fn.first) ⊎ (length l.rest < length l.tokens);
}

abbrev pub decreases-loop-next : goal.decreases-loop-next
decreases-loop-next l = length l.rest
