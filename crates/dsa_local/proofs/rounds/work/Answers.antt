use Rattle.std.proofs.Common.{sym, subst}
use Rattle.graph_unification.specs.Memory.{graph_in}
use Rattle.dsa_local.specs.Rounds.{AreFit, Advances}
use Rattle.dsa_local.proofs.RoundSteps.{by_round, advances_on, fit_on}
use Rattle.dsa_local.proofs.rounds.work.Goals as goal

pub loop-turn-init : goal.loop-turn-init
loop-turn-init c =
    let tac = c.args.tac.now in
    let scopes = c.args.scopes.now in
    let start = graph_in tac.types c.args.graph.now in
    let next = graph_in tac.types c.round.new.graph in
    let its = by_round tac scopes c.requires.fit.made c.in_ok-round.field-0 start next c.in_ok-round.ensures.applies in
    record {
      graph = c.in_ok-round.ensures.graph;
      fit = fit_on tac scopes c.requires.fit.made start next c.requires.graph.sound its c.requires.fit;
      advances = its;
    }

pub returns-in_default-clause-advances : goal.returns-in_default-clause-advances
returns-in_default-clause-advances c =
    let tac = c.args.tac.now in
    subst (λ g. Advances tac c.args.scopes.now (graph_in tac.types c.args.graph.now) g) (sym (c.in_default.ensures.same tac.types)) c.loop-turn.invariant.advances

pub wake-requires-clause-fit : goal.wake-requires-clause-fit
wake-requires-clause-fit c = subst (λ g. AreFit c.args.tac.now g c.args.scopes.now) (sym (c.in-Some.ensures.same c.args.tac.now.types)) c.loop-turn.invariant.fit

pub loop-turn-preserved : goal.loop-turn-preserved
loop-turn-preserved c =
    let tac = c.args.tac.now in
    let scopes = c.args.scopes.now in
    let made = c.requires.fit.made in
    let start = graph_in tac.types c.args.graph.now in
    let graph = graph_in tac.types c.loop-turn.graph in
    let next = graph_in tac.types c.wake.new.graph in
    let its = subst (λ g. Advances tac scopes g next) (c.in-Some.ensures.same tac.types) c.in_ok-wake.ensures.advances in
    record {
      graph = c.in_ok-wake.ensures.graph;
      fit = fit_on tac scopes made graph next c.loop-turn.invariant.graph.sound its c.loop-turn.invariant.fit;
      advances = advances_on tac scopes made start graph next c.requires.graph.sound c.loop-turn.invariant.advances its;
    }
