use Rattle.std.proofs.Common.{option_copied, sym, ap, subst, ◌∙◌}
use Rattle.std.proofs.lemmas.Option.{none-some, same_Some}
use Rattle.graph_unification.proofs.FoundStatics.{got}
use Rattle.graph_unification.proofs.NamedSteps.{on_ok}
use Rattle.dsa_inlining.specs.declared.told_statics.GroupStatics.{GroupStatics}
use Rattle.dsa_inlining.specs.OuterCalls.Listed.{ListCome}
use Rattle.dsa_inlining.specs.Shown.{code_of, shown, callee_of, copies_of}
use Rattle.dsa_inlining.proofs.Joining.{joins_same, joins_for}
use Rattle.dsa_inlining.specs.Joined.{RepresentativesCome}
use Rattle.dsa_inlining.proofs.joined.join_representatives.Goals as goal

pub returns-in_default-clause-joins : goal.returns-in_default-clause-joins
returns-in_default-clause-joins c =
    let own = c.args.crossed in
    joins_same (code_of own) c.requires.known.code.made (callee_of own) (shown own c.args.graph.now) c.requires.graph.sound (RepresentativesCome c.args.all.now (callee_of own) (copies_of own) c.args.group)
    (λ its is. absurd (none-some its (sym (got c.args.all.now c.args.group c.get.result c.get.ensures.lookup ∙ ap option_copied c.in_default.is) ∙ is)))

pub returns-clause-joins : goal.returns-clause-joins
returns-clause-joins c =
    let own = c.args.crossed in
    let there = got c.args.all.now c.args.group c.get.result c.get.ensures.lookup ∙ ap option_copied c.in-Some.is in
    on_ok c.join_statics.result c.join_statics.ensures.joins
    (λ joins. joins_for (code_of own) c.requires.known.code.made (callee_of own) (shown own c.args.graph.now) (shown own c.join_statics.new.graph)
    (ListCome (callee_of own) (copies_of own) c.in-Some.its.now.representatives) (RepresentativesCome c.args.all.now (callee_of own) (copies_of own) c.args.group) (λ graph come. come c.in-Some.its.now there)
    (λ come its is. subst (λ (s : GroupStatics). ListCome (callee_of own) (copies_of own) s.representatives (shown own c.join_statics.new.graph)) (same_Some c.in-Some.its.now its (sym there ∙ is)) come)
    joins)
