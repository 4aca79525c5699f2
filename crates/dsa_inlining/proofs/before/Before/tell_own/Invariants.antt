use Rattle.std.proofs.Common.{length}
use Rattle.c_typed.specs.Table.{structs_in}
use Rattle.graph_unification.specs.Memory.{graph_in, IsGraph}
use Rattle.graph_unification.specs.Going.{GoesOn}
use Rattle.dsa_inlining.specs.CallCopies.Telling.{ArraysTold, OnlyAsked}
use Rattle.dsa_inlining.specs.Before.{graphs_before}
use Rattle.dsa_inlining.specs.Asking.{AsksOwn}
use Rattle.dsa_inlining.proofs.ToldCopies.{EachFirst, EntryTold}
use Rattle.dsa_inlining.proofs.before.Before.tell_own.Given as goal

-- it is told of the copies at the first calls
abbrev pub invariant-loop-crossing : goal.invariant-loop-crossing
invariant-loop-crossing l = record {
  graph : IsGraph l.self.tac.now.types l.graph;
  goes : GoesOn (structs_in l.self.tac.now.types) (graph_in l.self.tac.now.types l.fn.graph) (graph_in l.self.tac.now.types l.graph);
  arrays : ArraysTold (graph_in l.self.tac.now.types l.fn.graph) (graph_in l.self.tac.now.types l.graph);
  told : EachFirst (EntryTold (graphs_before l.self) (graph_in l.self.tac.now.types l.graph)) l.own.copies.entries (length l.yielded);
  only : OnlyAsked (AsksOwn (graphs_before l.self) l.own (graph_in l.self.tac.now.types l.fn.graph)) (graph_in l.self.tac.now.types l.fn.graph) (graph_in l.self.tac.now.types l.graph);
}
