use Rattle.graph_unification.specs.Memory.{graph_in}
use Rattle.dsa_local.proofs.RoundSteps.{stays, advances_on, fit_on}
use Rattle.dsa_local.proofs.rounds.wake.Goals as goal

pub loop-turn-init : goal.loop-turn-init
loop-turn-init c = record {
  graph = c.requires.graph;
  fit = c.requires.fit;
  advances = stays c.args.tac.now c.args.scopes.now c.requires.fit.made (graph_in c.args.tac.now.types c.args.graph.now) c.requires.graph.sound;
}

pub loop-turn-preserved : goal.loop-turn-preserved
loop-turn-preserved c =
    let tac = c.args.tac.now in
    let scopes = c.args.scopes.now in
    let made = c.requires.fit.made in
    let start = graph_in tac.types c.args.graph.now in
    let graph = graph_in tac.types c.loop-turn.graph in
    let next = graph_in tac.types c.apply_again.new.graph in
    let its = c.in_ok-apply_again.ensures.advances in
    record {
      graph = c.in_ok-apply_again.ensures.graph;
      fit = fit_on tac scopes made graph next c.loop-turn.invariant.graph.sound its c.loop-turn.invariant.fit;
      advances = advances_on tac scopes made start graph next c.requires.graph.sound c.loop-turn.invariant.advances its;
    }
