use Rattle.std.proofs.Common.{◌<◌, length, sym, subst, ◌∙◌}
use Rattle.std.proofs.lemmas.Result.{on_ok_weaker}
use Rattle.call_graph.specs.GroupViews.{groups_of}
use Rattle.dsa_inlining.specs.Before.{GraphsBefore, graphs_before}
use Rattle.dsa_bottom_up.specs.Making.{made_in}
use Rattle.dsa_bottom_up.specs.Refused.{limit}
use Rattle.dsa_bottom_up.proofs.Outside.{known_of, counts_start, start_told}
use Rattle.dsa_bottom_up.proofs.making.Making.count_start.Goals as goal

pub start_count-requires : goal.start_count-requires
start_count-requires c =
    known_of c.before-2.result (made_in c.args.tac.now c.args.groups.now c.args.self.now) c.before-2.ensures c.requires.grouped (length (groups_of c.args.groups.now)) c.requires.making c.requires.kept

pub returns-clause-few : goal.returns-clause-few
returns-clause-few c =
    let before : GraphsBefore = made_in c.args.tac.now c.args.groups.now c.args.self.now in
    let own = c.args.counts.now.start in
    let told = start_told before (graphs_before c.before-2.result) c.before-2.ensures own c.in_ok-count.count c.in_ok-count.ensures in
    on_ok_weaker c.within_limit.result (λ few all begins. (c.in_ok-count.count, counts_start before c.requires.grouped c.requires.making own c.in_ok-count.count told all begins, few)) c.within_limit.ensures.few

pub returns-clause-many : goal.returns-clause-many
returns-clause-many c count is =
    let before : GraphsBefore = made_in c.args.tac.now c.args.groups.now c.args.self.now in
    let own = c.args.counts.now.start in
    let told = start_told before (graphs_before c.before-2.result) c.before-2.ensures own c.in_ok-count.count c.in_ok-count.ensures in
    let its = c.within_limit.ensures.many count is in (subst (λ n. limit < n) (sym its.0) its.1, λ all begins. counts_start before c.requires.grouped c.requires.making own count (its.0 ∙ told) all begins)
