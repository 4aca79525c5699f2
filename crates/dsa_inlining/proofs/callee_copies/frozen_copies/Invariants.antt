use Rattle.std.proofs.Common.{length}
use Rattle.c_typed.specs.Table.{Interned}
use Rattle.graph_unification.specs.Memory.{graph_in, IsGraph}
use Rattle.dsa_inlining.proofs.CopyEntries.{TellsFirst}
use Rattle.dsa_inlining.proofs.callee_copies.frozen_copies.Given as goal

abbrev pub invariant-loop-node : goal.invariant-loop-node
invariant-loop-node l = (table : Interned) → IsGraph table l.graph → TellsFirst (graph_in table l.graph) l.copies.entries (length l.yielded) l.targets
