use Rattle.std.proofs.Common.{◌≡◌, Some, ap, subst, ◌∙◌}
use Rattle.std.specs.Prelude.{slice_get, option_copied}
use Rattle.graph_unification.proofs.FoundStatics.{got}
use Rattle.graph_unification.proofs.NamedSteps.{on_ok}
use Rattle.dsa_inlining.specs.Own.{AddsNumbers}
use Rattle.dsa_inlining.proofs.OwnNames.{own_added}
use Rattle.dsa_inlining.proofs.own.StaticSets.add_own.Goals as goal

pub returns : goal.returns
returns c =
    let its = c.in-Some.its.now in
    let there : slice_get c.args.all.now c.args.group ≡ Some its = got c.args.all.now c.args.group c.get.result c.get.ensures.lookup ∙ ap option_copied c.in-Some.is in
    on_ok c.add_numbers-2.result c.add_numbers-2.ensures
    (λ literals. own_added c.args.all.now c.args.group its there c.args.self.now (record { globals = c.add_numbers.new.set; literals = c.add_numbers-2.new.set })
    (subst (AddsNumbers c.args.self.now.globals.keys c.add_numbers.new.set.keys) c.deref.ensures.value c.in_ok-add_numbers.ensures)
    (subst (AddsNumbers c.args.self.now.literals.keys c.add_numbers-2.new.set.keys) c.deref-2.ensures.value literals))
