use Rattle.heap_graph.specs.Closed.{AreOne}
use Rattle.graph_checker.specs.Programs.{family_of}
use Rattle.graph_checker.proofs.Judged.{Left}
use Rattle.graph_checker.proofs.program.Program.all_share.Given as goal

-- those that are left share with it just where all do
abbrev pub invariant-loop-called : goal.invariant-loop-called
invariant-loop-called l = Left (λ called. called.0) (AreOne (family_of l.self) l.first.0) l.targets l.called-index
