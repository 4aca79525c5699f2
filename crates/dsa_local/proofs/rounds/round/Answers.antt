use Rattle.std.proofs.Common.{◌+◌, drop, sym, subst}
use Rattle.std.specs.List.{AllByRecursion}
use Rattle.c_typed.specs.Table.{structs_in}
use Rattle.tac_ir.specs.Views.{tac_of}
use Rattle.heap_graph.specs.Known.{owner_at}
use Rattle.graph_unification.specs.Memory.{graph_in}
use Rattle.graph_unification.specs.Applying.{Applies, AllAsked}
use Rattle.graph_unification.specs.Fits.{AllFit}
use Rattle.dsa_local.specs.Rounds.{owners_of, IsFit, RoundGoesOn}
use Rattle.dsa_local.proofs.RoundSteps.{next_of, each_kept, goes_on, ends, none_left}
use Rattle.dsa_local.proofs.rounds.round.Goals as goal

pub loop-scope-preserved : goal.loop-scope-preserved
loop-scope-preserved c =
    let tac = c.args.tac.now in
    let code = tac_of tac in
    let structs = structs_in tac.types in
    let scopes = c.args.scopes.now in
    let index = c.loop-scope.scope-index in
    let owner = owner_at c.scope-item.result.owner in
    let touched = c.in_ok-touched.touched in
    let changed = c.loop-scope.changed in
    let made = c.requires.fit.made in
    let fine = c.loop-scope.invariant.graph in
    let start = graph_in tac.types c.args.graph.now in
    let graph = graph_in tac.types c.loop-scope.graph in
    let next = graph_in tac.types c.apply_all.new.graph in
    let left = drop (index + 1) scopes in
    let its = subst (λ l. Applies structs touched graph next (AllAsked code owner l)) c.points_of.ensures c.in_ok-touched.ensures.applies in
    let here = next_of scopes index c.scope-item.result c.scope-item.is c.loop-scope-test.true in
    record {
      graph = c.in_ok-touched.ensures.graph;
      each = each_kept tac graph next its.map made fine.sound its.maps left (subst (AllByRecursion (IsFit tac graph)) here c.loop-scope.invariant.each).1;
      goes_on = subst (λ b. RoundGoesOn code start (owners_of scopes) b next (owners_of left)) (sym c.either-changed.ensures)
          (goes_on code made start (owners_of scopes) changed touched graph next fine.sound owner (owners_of left)
          (subst (λ l. RoundGoesOn code start (owners_of scopes) changed graph (owners_of l)) here c.loop-scope.invariant.goes_on) its);
    }

pub returns-clause-applies : goal.returns-clause-applies
returns-clause-applies c =
    let tac = c.args.tac.now in
    let code = tac_of tac in
    let scopes = c.args.scopes.now in
    let start = graph_in tac.types c.args.graph.now in
    let graph = graph_in tac.types c.loop-scope.graph in
    ends code c.requires.fit.made start (owners_of scopes) c.loop-scope.changed graph c.loop-scope.invariant.graph.sound
    (subst (λ l. RoundGoesOn code start (owners_of scopes) c.loop-scope.changed graph l) (none_left scopes c.loop-scope.scope-index c.loop-scope-test.false) c.loop-scope.invariant.goes_on)

pub apply_all-requires-clause-known : goal.apply_all-requires-clause-known
apply_all-requires-clause-known c =
    let tac = c.args.tac.now in
    let here = next_of c.args.scopes.now c.loop-scope.scope-index c.scope-item.result c.scope-item.is c.loop-scope-test.true in
    let its = (subst (AllByRecursion (IsFit tac (graph_in tac.types c.loop-scope.graph))) here c.loop-scope.invariant.each).0 in
    record { nulls = its.nulls; types = its.types; literals = c.requires.fit.literals; made = c.requires.fit.made }

pub apply_all-requires-clause-fit : goal.apply_all-requires-clause-fit
apply_all-requires-clause-fit c =
    let tac = c.args.tac.now in
    let graph = graph_in tac.types c.loop-scope.graph in
    let here = next_of c.args.scopes.now c.loop-scope.scope-index c.scope-item.result c.scope-item.is c.loop-scope-test.true in
    let its = (subst (AllByRecursion (IsFit tac graph)) here c.loop-scope.invariant.each).0 in
    subst (AllFit (tac_of tac) graph (owner_at c.scope-item.result.owner)) (sym c.points_of.ensures) its.fit
