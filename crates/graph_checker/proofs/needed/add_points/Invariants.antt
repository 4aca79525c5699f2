use Rattle.tac_ir.specs.States.{Owner}
use Rattle.tac_ir.specs.Views.{op_in}
use Rattle.graph_checker.specs.Programs.{family_of, IsMember}
use Rattle.graph_checker.specs.Fits.{OpFits}
use Rattle.graph_checker.proofs.Judged.{Rest}
use Rattle.graph_checker.specs.Needed.{IsImageFrom}
use Rattle.graph_checker.proofs.Adding.{Left}
use Rattle.graph_checker.proofs.needed.add_points.Given as goal

-- the points that are left fit, and what is left to add makes up what all need
abbrev pub invariant-loop-op : goal.invariant-loop-op
invariant-loop-op l = record {
  fit : Rest (op_in l.program.tac.now.types) (OpFits l.program l.own.group) l.points l.op-index;
  left : (owner : Owner) → IsMember l.program.tac.now.types (family_of l.program) owner l.own
      → Left (op_in l.program.tac.now.types) (IsImageFrom (family_of l.program) owner) l.points l.initial.needed.marks l.op-index l.needed.marks;
}
