use Rattle.std.proofs.Common.{◌≡◌, ◌++◌, drop}
use Rattle.graph_text.specs.Parts.{letters_text}
use Rattle.graph_text.proofs.flags.put_letters.Given as goal

abbrev pub invariant-loop-is_set : goal.invariant-loop-is_set
invariant-loop-is_set l = l.text.items ++ letters_text (drop l.is_set-index l.letters) ≡ l.fn.text.items ++ letters_text l.letters
