use Rattle.std.proofs.Common.{None, refl, ◌∙◌}
use Rattle.std.proofs.lemmas.Result.{IfOk-weaker}
use Rattle.tac_ir.specs.Views.{tac_of}
use Rattle.dsa_inlining.specs.Before.{graphs_before}
use Rattle.dsa_inlining.specs.declared.tally.Tally.{Tally}
use Rattle.dsa_inlining.specs.Sums.{outside_of}
use Rattle.dsa_inlining.proofs.Totals.{start_counted}
use Rattle.dsa_inlining.proofs.groups.start_count.Goals as goal

pub returns : goal.returns
returns c =
    let tac = c.args.before.tac.now in
    let outside = outside_of (graphs_before c.args.before) None in
    let old = c.in_ok-tally.tally in
    let mid : Tally = record { count = old.count; mentions = c.add_first.new.self; told = old.told } in
    IfOk-weaker c.total.result _ _
    (λ count is.
    is ∙ start_counted (tac_of tac) outside c.args.before c.args.own old c.add_owner.new.self c.in_ok-tally.ensures mid refl refl c.add_first.ensures c.in_ok-add_owner.ensures)
    c.total.ensures
