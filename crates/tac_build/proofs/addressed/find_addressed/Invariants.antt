use Rattle.tac_build.proofs.MarkedStatements.{Fresh}
use Rattle.tac_build.proofs.addressed.find_addressed.Given as goal

-- the parameters so far are in scope
abbrev pub invariant-loop-number : goal.invariant-loop-number
invariant-loop-number l = Fresh l.search l.number
