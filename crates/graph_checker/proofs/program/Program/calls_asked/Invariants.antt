use Rattle.tac_ir.specs.States.{Owner}
use Rattle.tac_ir.specs.Views.{op_in}
use Rattle.heap_graph.specs.Asked.{OpAsked}
use Rattle.graph_checker.specs.Fits.{OpFits}
use Rattle.graph_checker.specs.Programs.{family_of, IsMember}
use Rattle.graph_checker.proofs.Judged.{Left, Rest}
use Rattle.graph_checker.proofs.program.Program.calls_asked.Given as goal

-- the points that are left fit, and what they ask holds just where it holds of all
abbrev pub invariant-loop-op : goal.invariant-loop-op
invariant-loop-op l = record {
  fit : Rest (op_in l.self.tac.now.types) (OpFits l.self l.own.group) l.points l.op-index;
  left : (owner : Owner) → IsMember l.self.tac.now.types (family_of l.self) owner l.own → Left (op_in l.self.tac.now.types) (OpAsked (family_of l.self) owner) l.points l.op-index;
}
