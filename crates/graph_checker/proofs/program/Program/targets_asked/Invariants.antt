use Rattle.tac_ir.specs.States.{Owner}
use Rattle.heap_graph.specs.Asked.{TargetAsked}
use Rattle.graph_checker.specs.Programs.{family_of, IsMember}
use Rattle.graph_checker.proofs.Judged.{Left}
use Rattle.graph_checker.proofs.program.Program.targets_asked.Given as goal

-- what is asked of those that are left holds just where it holds of all
abbrev pub invariant-loop-called : goal.invariant-loop-called
invariant-loop-called l = (owner : Owner) → IsMember l.self.tac.now.types (family_of l.self) owner l.own → Left (λ called. called.0) (TargetAsked (family_of l.self) owner l.site l.arguments) l.targets l.called-index
