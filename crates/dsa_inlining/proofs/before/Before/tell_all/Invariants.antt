use Rattle.c_typed.specs.Table.{structs_in}
use Rattle.graph_unification.specs.Memory.{graph_in, IsGraph}
use Rattle.graph_unification.specs.Going.{GoesOn}
use Rattle.dsa_inlining.specs.CallCopies.Telling.{ArraysTold, OnlyAsked}
use Rattle.dsa_inlining.specs.Before.{graphs_before}
use Rattle.dsa_inlining.specs.Asking.{AsksCall}
use Rattle.dsa_inlining.proofs.ToldCopies.{EachFirst, OwnTold}
use Rattle.dsa_inlining.proofs.before.Before.tell_all.Given as goal

-- it is told of the copies at the calls of the first functions
abbrev pub invariant-loop-own : goal.invariant-loop-own
invariant-loop-own l = record {
  graph : IsGraph l.self.tac.now.types l.graph;
  goes : GoesOn (structs_in l.self.tac.now.types) (graph_in l.self.tac.now.types l.fn.graph) (graph_in l.self.tac.now.types l.graph);
  arrays : ArraysTold (graph_in l.self.tac.now.types l.fn.graph) (graph_in l.self.tac.now.types l.graph);
  told : EachFirst (OwnTold (graphs_before l.self) (graph_in l.self.tac.now.types l.graph)) l.all l.own-index;
  only : OnlyAsked (AsksCall (graphs_before l.self) l.all (graph_in l.self.tac.now.types l.fn.graph)) (graph_in l.self.tac.now.types l.fn.graph) (graph_in l.self.tac.now.types l.graph);
}
