use Rattle.std.proofs.Common.{◌≡◌, true, sym, ap, subst, ◌∙◌}
use Rattle.heap_graph.specs.Targets.{has_target}
use Rattle.graph_unification.specs.Memory.{name_of}
use Rattle.heap_graph.specs.Asks.{allocate_asked}
use Rattle.graph_unification.specs.Applying.{code_of, owner_of, shown, Applies}
use Rattle.graph_unification.proofs.PointSteps.{allocated}
use Rattle.graph_unification.proofs.applied.Applied.allocate.Goals as goal

pub returns-clause-applies : goal.returns-clause-applies
returns-clause-applies c =
    let own = c.args.self in
    let code = code_of own in
    let owner = owner_of own in
    let old = shown own c.args.graph.now in
    let middle = shown own c.mark-sure.new.graph in
    let new = shown own c.mark-heap.new.graph in
    subst (λ b. Applies code.structs b old new (λ graph. allocate_asked code graph owner c.args.site ≡ true)) (sym c.either.ensures)
    (allocated code c.requires.known.made owner old c.requires.graph.sound middle new c.mark-sure.result c.mark-heap.result c.args.site (name_of c.own-name.result) c.own-name.ensures
    (ap (λ n. has_target (old.targets n)) c.own-name.ensures ∙ c.requires.target) c.mark-sure.ensures.applies c.mark-heap.ensures.applies)
