use Rattle.std.proofs.Common.{◌≡◌, true, sym, subst}
use Rattle.heap_graph.specs.Asks.{move_asked}
use Rattle.graph_unification.specs.Applying.{code_of, owner_of, shown, Applies, IsTaken}
use Rattle.graph_unification.proofs.PointSteps.{moved}
use Rattle.graph_unification.proofs.applied.Applied.move_pointer.Goals as goal

pub returns-clause-applies : goal.returns-clause-applies
returns-clause-applies c =
    let own = c.args.self in
    let code = code_of own in
    let owner = owner_of own in
    let old = shown own c.args.graph.now in
    let middle = shown own c.take.new.graph in
    let new = shown own c.mark_array-marked.new.graph in
    let joined = c.in_ok-taken.taken in
    subst (λ b. Applies code.structs b old new (λ graph. move_asked code graph owner c.args.to c.args.from ≡ true)) (sym c.either.ensures)
    (moved code c.requires.known.made owner old c.requires.graph.sound middle new joined c.mark_array-marked.result c.args.to c.args.from
    (subst (λ n. Applies code.structs joined old middle (IsTaken code owner n c.args.from)) c.own.ensures c.in_ok-taken.ensures.applies) c.mark_array-marked.ensures.applies)
