use Rattle.c_typed.specs.Table.{structs_in}
use Rattle.tac_ir.specs.Views.{tac_of}
use Rattle.graph_unification.specs.Memory.{graph_in}
use Rattle.graph_unification.proofs.Going.{leads_on}
use Rattle.graph_unification.proofs.Goes.{goes_then, applies_goes}
use Rattle.dsa_local.specs.Rounds.{owners_of, Settled}
use Rattle.dsa_local.proofs.RoundSteps.{are_kept, fit_on}
use Rattle.dsa_local.proofs.rounds.settle.Goals as goal

pub loop-round-init : goal.loop-round-init
loop-round-init c =
    let tac = c.args.tac.now in
    let start = graph_in tac.types c.args.graph.now in
    let its = c.in_ok-begin.ensures.advances in
    record {
      graph = c.in_ok-begin.ensures.graph;
      fit = fit_on tac c.args.scopes.now c.requires.fit.made start (graph_in tac.types c.begin.new.graph) c.requires.graph.sound its c.requires.fit;
      goes = its.goes;
      leads = its.leads;
    }

pub loop-round-preserved : goal.loop-round-preserved
loop-round-preserved c =
    let tac = c.args.tac.now in
    let structs = structs_in tac.types in
    let scopes = c.args.scopes.now in
    let wanted = Settled (tac_of tac) (owners_of scopes) in
    let made = c.requires.fit.made in
    let fine = c.loop-round.invariant.graph in
    let start = graph_in tac.types c.args.graph.now in
    let graph = graph_in tac.types c.loop-round.graph in
    let next = graph_in tac.types c.round.new.graph in
    let its = c.in_ok-round.ensures.applies in
    record {
      graph = c.in_ok-round.ensures.graph;
      fit = are_kept tac graph next its.map made fine.sound its.maps scopes c.loop-round.invariant.fit;
      goes = goes_then structs made start graph next c.requires.graph.sound c.loop-round.invariant.goes (applies_goes structs made c.in_ok-round.field-0 graph next wanted its);
      leads = leads_on structs start graph next wanted c.loop-round.invariant.leads its.leads;
    }
