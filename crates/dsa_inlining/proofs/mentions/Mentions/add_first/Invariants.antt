use Rattle.tac_ir.specs.Views.{tac_of}
use Rattle.dsa_inlining.proofs.Firsts.{GlobalsLeft}
use Rattle.dsa_inlining.proofs.mentions.Mentions.add_first.Given as goal

-- the variables that are left make up all
abbrev pub invariant-loop-number : goal.invariant-loop-number
invariant-loop-number l = GlobalsLeft (tac_of l.tac) l.tac.types l.tac.globals.items l.initial.self l.number l.self
