use Rattle.std.proofs.Common.{length}
use Rattle.c_typed.specs.Table.{Interned}
use Rattle.graph_unification.specs.Memory.{graph_in, IsGraph}
use Rattle.dsa_inlining.proofs.FrozenEntries.{TellsFirst}
use Rattle.dsa_inlining.proofs.freezing.frozen_crossings.Given as goal

-- it is told of the first calls
abbrev pub invariant-loop-crossing : goal.invariant-loop-crossing
invariant-loop-crossing l = (table : Interned) → IsGraph table l.graph → TellsFirst (graph_in table l.graph) l.own.copies.entries (length l.yielded) l.embeddings
