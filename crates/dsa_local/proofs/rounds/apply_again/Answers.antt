use Rattle.std.proofs.Common.{◌≡◌, Some, option_map, ap, subst, ◌∙◌}
use Rattle.std.specs.Prelude.{slice_get}
use Rattle.std.proofs.lemmas.Option.{slice_get-map}
use Rattle.tac_ir.specs.Views.{tac_of, op_in}
use Rattle.heap_graph.specs.Known.{owner_at}
use Rattle.graph_unification.specs.Memory.{graph_in}
use Rattle.dsa_local.specs.Rounds.{points_at, IsFit}
use Rattle.dsa_local.proofs.RoundSteps.{item_at, each_at, fits_at, stays, by_point}
use Rattle.dsa_local.proofs.rounds.apply_again.Goals as goal

pub returns-in_default-clause-advances : goal.returns-in_default-clause-advances
returns-in_default-clause-advances c = stays c.args.tac.now c.args.scopes.now c.requires.fit.made (graph_in c.args.tac.now.types c.args.graph.now) c.requires.graph.sound

pub returns-in_default-get-clause-advances : goal.returns-in_default-get-clause-advances
returns-in_default-get-clause-advances c = stays c.args.tac.now c.args.scopes.now c.requires.fit.made (graph_in c.args.tac.now.types c.args.graph.now) c.requires.graph.sound

pub apply-requires-clause-known : goal.apply-requires-clause-known
apply-requires-clause-known c =
    let tac = c.args.tac.now in
    let scopes = c.args.scopes.now in
    let number = c.args.waiting.scope in
    let its = each_at (IsFit tac (graph_in tac.types c.args.graph.now)) scopes number c.in-Some.scope.now c.requires.fit.each (item_at scopes number c.in-Some.scope c.in-Some.ensures.lookup) in
    record { nulls = its.nulls; types = its.types; literals = c.requires.fit.literals; made = c.requires.fit.made }

pub apply-requires-clause-fits : goal.apply-requires-clause-fits
apply-requires-clause-fits c =
    let tac = c.args.tac.now in
    let code = tac_of tac in
    let scopes = c.args.scopes.now in
    let number = c.args.waiting.scope in
    let point = c.args.waiting.point in
    let scope = c.in-Some.scope.now in
    let owner = owner_at scope.owner in
    let graph = graph_in tac.types c.args.graph.now in
    let points = c.points_of.result.now in
    let op = op_in tac.types c.in-Some-get.op.now in
    let its = each_at (IsFit tac graph) scopes number scope c.requires.fit.each (item_at scopes number c.in-Some.scope c.in-Some.ensures.lookup) in
    let found : slice_get (points_at code owner) point ≡ Some op
    = subst (λ l. slice_get l point ≡ Some op) c.points_of.ensures (slice_get-map (op_in tac.types) points point ∙ ap (option_map (op_in tac.types)) (item_at points point c.in-Some-get.op c.in-Some-get.ensures.lookup)) in
    fits_at code owner graph (points_at code owner) point op its.fit found

pub returns-clause-advances : goal.returns-clause-advances
returns-clause-advances c =
    let tac = c.args.tac.now in
    let code = tac_of tac in
    let scopes = c.args.scopes.now in
    let number = c.args.waiting.scope in
    let point = c.args.waiting.point in
    let scope = c.in-Some.scope.now in
    let points = c.points_of.result.now in
    let op = op_in tac.types c.in-Some-get.op.now in
    let found : slice_get (points_at code (owner_at scope.owner)) point ≡ Some op
    = subst (λ l. slice_get l point ≡ Some op) c.points_of.ensures (slice_get-map (op_in tac.types) points point ∙ ap (option_map (op_in tac.types)) (item_at points point c.in-Some-get.op c.in-Some-get.ensures.lookup)) in
    by_point tac scopes c.requires.fit.made number point scope op (item_at scopes number c.in-Some.scope c.in-Some.ensures.lookup) found c.in_ok-apply.field-0
    (graph_in tac.types c.args.graph.now) (graph_in tac.types c.apply.new.graph) c.in_ok-apply.ensures.applies
