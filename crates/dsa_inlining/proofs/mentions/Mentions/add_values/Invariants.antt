use Rattle.tac_ir.specs.declared.program.Tac as memory_tac
use Rattle.tac_ir.specs.Views.{tac_of}
use Rattle.heap_graph.specs.Numbers.{AreNumbers}
use Rattle.dsa_inlining.proofs.Firsts.{ValuesLeft}
use Rattle.dsa_inlining.proofs.mentions.Mentions.add_values.Given as goal

-- the values that are left make up all
abbrev pub invariant-loop-first : goal.invariant-loop-first
invariant-loop-first l = (tac : memory_tac.Tac) → AreNumbers tac l.numbers → ValuesLeft (tac_of tac) l.own.0 l.firsts l.initial.self l.first-index l.self
