use Rattle.std.proofs.Common.{◌≡◌, true, sym, subst}
use Rattle.c_typed.specs.Table.{type_in}
use Rattle.heap_graph.specs.Asks.{repoint_asked}
use Rattle.graph_unification.specs.Applying.{code_of, owner_of, shown, Applies, IsTaken}
use Rattle.graph_unification.proofs.PointSteps.{repointed}
use Rattle.graph_unification.proofs.applied.Applied.repoint.Goals as goal

pub returns-clause-applies : goal.returns-clause-applies
returns-clause-applies c =
    let own = c.args.self in
    let code = code_of own in
    let owner = owner_of own in
    let type = type_in own.tac.now.types c.args.target in
    let old = shown own c.args.graph.now in
    let middle = shown own c.take.new.graph in
    let new = shown own c.tell_behind.new.graph in
    let joined = c.in_ok-taken.taken in
    subst (λ b. Applies code.structs b old new (λ graph. repoint_asked code graph owner c.args.to type c.args.from ≡ true)) (sym c.either.ensures)
    (repointed code c.requires.known.made owner old c.requires.graph.sound middle new joined c.in_ok-told.told c.args.to type c.args.from
    (subst (λ n. Applies code.structs joined old middle (IsTaken code owner n c.args.from)) c.own.ensures c.in_ok-taken.ensures.applies) c.in_ok-told.ensures.applies)
