use Rattle.std.proofs.Common.{◌≡◌}
use Rattle.graph_text.specs.ProgramLabels.{numbers_to}
use Rattle.graph_text.proofs.program.literal_numbers.Given as goal

abbrev pub invariant-loop-before : goal.invariant-loop-before
invariant-loop-before l = l.numbers.items ≡ numbers_to l.before
