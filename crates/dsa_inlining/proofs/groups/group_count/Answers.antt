use Rattle.std.proofs.Common.{Option, None, refl, ◌∙◌}
use Rattle.std.proofs.lemmas.Result.{IfOk-weaker}
use Rattle.tac_ir.specs.declared.register.FunctionId.{FunctionId}
use Rattle.tac_ir.specs.Views.{tac_of}
use Rattle.graph_unification.specs.Memory.{owner_of}
use Rattle.dsa_inlining.specs.Before.{graphs_before}
use Rattle.dsa_inlining.specs.Counting.{copies_in}
use Rattle.dsa_inlining.specs.Crossings.{owners_in}
use Rattle.dsa_inlining.specs.Sums.{outside_of}
use Rattle.dsa_inlining.specs.Tallies.{owner_mentions}
use Rattle.dsa_inlining.proofs.GroupCounts.Adding.{at_start, one_more, ends}
use Rattle.dsa_inlining.proofs.Totals.{group_counted}
use Rattle.dsa_inlining.proofs.groups.group_count.Goals as goal

abbrev none : Option FunctionId
none = None

pub loop-owner-init : goal.loop-owner-init
loop-owner-init c =
    let tac = c.args.before.tac.now in
    let outside = outside_of (graphs_before c.args.before) c.args.group in
    at_start c.args.before owner_of (copies_in (tac_of tac) outside) (owner_mentions (tac_of tac) outside) c.args.owners.now c.in_ok-tally.tally

pub loop-owner-preserved : goal.loop-owner-preserved
loop-owner-preserved c =
    let tac = c.args.before.tac.now in
    let outside = outside_of (graphs_before c.args.before) c.args.group in
    one_more c.args.before owner_of (copies_in (tac_of tac) outside) (owner_mentions (tac_of tac) outside) c.args.owners.now c.in_ok-tally.tally c.loop-owner.owner-index none _ refl c.loop-owner-test.true
    c.loop-owner.tally c.add_owner.new.self c.in_ok-add_owner.ensures c.loop-owner.invariant

pub returns : goal.returns
returns c =
    let tac = c.args.before.tac.now in
    let outside = outside_of (graphs_before c.args.before) c.args.group in
    let all = ends c.args.before owner_of (copies_in (tac_of tac) outside) (owner_mentions (tac_of tac) outside) c.args.owners.now c.in_ok-tally.tally c.loop-owner.owner-index c.loop-owner.tally
    c.loop-owner-test.false c.loop-owner.invariant in
    IfOk-weaker c.total.result _ _ (λ count is. is ∙ group_counted (tac_of tac) outside c.args.before c.args.own c.in_ok-tally.tally c.loop-owner.tally c.in_ok-tally.ensures (owners_in c.args.owners.now) all) c.total.ensures
