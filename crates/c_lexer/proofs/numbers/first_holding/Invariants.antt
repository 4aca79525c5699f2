use Rattle.std.proofs.Common.{◌≡◌, length}
use Rattle.c_lexer.specs.Constants.{first_holding}
use Rattle.c_lexer.proofs.numbers.first_holding.Given as goal

abbrev pub invariant-loop-types : goal.invariant-loop-types
invariant-loop-types l = first_holding l.value l.types ≡ first_holding l.value l.initial.types

abbrev pub decreases-loop-types : goal.decreases-loop-types
decreases-loop-types l = length l.types
