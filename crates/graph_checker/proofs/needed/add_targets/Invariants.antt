use Rattle.tac_ir.specs.States.{Owner}
use Rattle.graph_checker.specs.Programs.{family_of, IsMember}
use Rattle.graph_checker.specs.Needed.{IsImageAt}
use Rattle.graph_checker.proofs.Adding.{Left}
use Rattle.graph_checker.proofs.needed.add_targets.Given as goal

-- what is left to add makes up the images of all
abbrev pub invariant-loop-called : goal.invariant-loop-called
invariant-loop-called l =
    (owner : Owner) → IsMember l.program.tac.now.types (family_of l.program) owner l.own
    → Left (λ called. called.0) (IsImageAt (family_of l.program) owner l.site) l.targets l.initial.needed.marks l.called-index l.needed.marks
