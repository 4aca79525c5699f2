use Rattle.std.proofs.Common.{ℕ, ◌<◌, get_or}
use Rattle.c_typed.specs.Table.{structs_in}
use Rattle.graph_unification.specs.Memory.{graph_in, IsGraph}
use Rattle.heap_graph.specs.Frozen.{bare}
use Rattle.graph_unification.specs.Going.{GoesOn}
use Rattle.dsa_inlining.specs.Copied.{numbers_in}
use Rattle.dsa_inlining.specs.CallCopies.Telling.{CopyTold, ArraysTold, AsksCopy, OnlyAsked}
use Rattle.dsa_inlining.proofs.telling.tell_copies.Given as goal

-- it is told of the first copies
abbrev pub invariant-loop-number : goal.invariant-loop-number
invariant-loop-number l = record {
  graph : IsGraph l.types l.graph;
  goes : GoesOn (structs_in l.types) (graph_in l.types l.fn.graph) (graph_in l.types l.graph);
  arrays : ArraysTold (graph_in l.types l.fn.graph) (graph_in l.types l.graph);
  told : (place : ℕ) → place < l.number-index → CopyTold (graph_in l.types l.graph) (bare l.types l.callee) (numbers_in l.copies) (get_or l.number-items place 0);
  only : OnlyAsked (AsksCopy (graph_in l.types l.fn.graph) (bare l.types l.callee) (numbers_in l.copies)) (graph_in l.types l.fn.graph) (graph_in l.types l.graph);
}
