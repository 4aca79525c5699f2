use Rattle.std.proofs.Common.{◌≡◌, ◌<◌, map, Some, sym, subst, ◌∙◌}
use Rattle.std.specs.Prelude.{slice_get}
use Rattle.std.proofs.lemmas.Result.{on_ok_weaker}
use Rattle.call_graph.specs.ClassLists.{numbers_of}
use Rattle.call_graph.specs.GroupViews.{groups_of}
use Rattle.dsa_inlining.specs.Before.{GraphsBefore, graphs_before}
use Rattle.dsa_bottom_up.specs.Making.{made_in}
use Rattle.dsa_bottom_up.specs.Refused.{limit}
use Rattle.dsa_bottom_up.proofs.Outside.{known_of, counts_group, row_read, group_told}
use Rattle.dsa_bottom_up.proofs.making.Making.count_group.Goals as goal

pub group_count-requires : goal.group_count-requires
group_count-requires c = known_of c.before-2.result (made_in c.args.tac.now c.args.groups.now c.args.self.now) c.before-2.ensures c.requires.grouped c.args.number c.requires.making c.requires.kept

pub returns-clause-few : goal.returns-clause-few
returns-clause-few c =
    let groups = c.args.groups.now in
    let number = c.args.number in
    let members = c.as_slice-members.result.now in
    let before : GraphsBefore = made_in c.args.tac.now groups c.args.self.now in
    let row : slice_get (groups_of groups) number ≡ Some (numbers_of members) =
    row_read groups.members.items number c.index.result.now members c.requires.within c.index.ensures c.as_slice-members.ensures.value in
    let owners : c.deref.result.now ≡ map Some members = c.deref.ensures.value ∙ c.in_ok-owners.ensures in
    let told = group_told before (graphs_before c.before-2.result) c.before-2.ensures number members c.deref.result.now owners c.in_ok-own.own c.in_ok-count.count c.in_ok-count.ensures in
    on_ok_weaker c.within_limit.result
    (λ few all begins. (
      c.in_ok-count.count,
      counts_group before c.requires.grouped number members row c.requires.making c.args.counts.now.functions.items c.in_ok-own.own c.in_ok-count.count c.in_ok-own.ensures told all begins,
      few,
    ))
    c.within_limit.ensures.few

pub returns-clause-many : goal.returns-clause-many
returns-clause-many c count is =
    let groups = c.args.groups.now in
    let number = c.args.number in
    let members = c.as_slice-members.result.now in
    let before : GraphsBefore = made_in c.args.tac.now groups c.args.self.now in
    let row : slice_get (groups_of groups) number ≡ Some (numbers_of members) =
    row_read groups.members.items number c.index.result.now members c.requires.within c.index.ensures c.as_slice-members.ensures.value in
    let owners : c.deref.result.now ≡ map Some members = c.deref.ensures.value ∙ c.in_ok-owners.ensures in
    let told = group_told before (graphs_before c.before-2.result) c.before-2.ensures number members c.deref.result.now owners c.in_ok-own.own c.in_ok-count.count c.in_ok-count.ensures in
    let its = c.within_limit.ensures.many count is in (
      subst (λ n. limit < n) (sym its.0) its.1,
      λ all begins. counts_group before c.requires.grouped number members row c.requires.making c.args.counts.now.functions.items c.in_ok-own.own count c.in_ok-own.ensures (its.0 ∙ told) all begins,
    )
