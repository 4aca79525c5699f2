use Rattle.std.proofs.Common.{◌≡◌, ℕ, List, Some, option_copied, sym, ap, subst, ◌∙◌}
use Rattle.std.specs.Prelude.{slice_get}
use Rattle.std.proofs.lemmas.Option.{none-some, same_Some}
use Rattle.graph_unification.proofs.FoundStatics.{got}
use Rattle.graph_unification.proofs.NamedSteps.{on_ok}
use Rattle.dsa_inlining.specs.declared.told_statics.GroupStatics.{GroupStatics}
use Rattle.dsa_inlining.specs.Joins.{Joins}
use Rattle.dsa_inlining.specs.OuterCalls.Listed.{ListCome}
use Rattle.dsa_inlining.specs.Shown.{code_of, shown, callee_of, copies_of}
use Rattle.dsa_inlining.proofs.Joining.{joins_same, joins_then}
use Rattle.dsa_inlining.specs.Joined.{BasesCome, GroupComes}
use Rattle.dsa_inlining.proofs.Aligning.{list_come_kept}
use Rattle.dsa_inlining.proofs.joined.join_group.Goals as goal

pub returns-in_default-clause-joins : goal.returns-in_default-clause-joins
returns-in_default-clause-joins c =
    let own = c.args.crossed in
    joins_same (code_of own) c.requires.known.code.made (callee_of own) (shown own c.args.graph.now) c.requires.graph.sound (GroupComes c.args.all.now (callee_of own) (copies_of own) c.args.group)
    (λ its is. absurd (none-some its (sym (got c.args.all.now c.args.group c.get.result c.get.ensures.lookup ∙ ap option_copied c.in_default.is) ∙ is)))

pub returns-clause-joins : goal.returns-clause-joins
returns-clause-joins c =
    let own = c.args.crossed in
    let tac = code_of own in
    let made = c.requires.known.code.made in
    let callee = callee_of own in
    let copies = copies_of own in
    let all = c.args.all.now in
    let one = c.in-Some.its.now in
    let there : slice_get all c.args.group ≡ Some one = got c.args.all.now c.args.group c.get.result c.get.ensures.lookup ∙ ap option_copied c.in-Some.is in
    on_ok c.join_bases.result c.join_bases.ensures.joins
    (λ bases. joins_then tac made callee (shown own c.args.graph.now) (shown own c.join_statics.new.graph) (shown own c.join_bases.new.graph) c.requires.graph.sound c.in_ok-join_statics.ensures.graph.sound
    (ListCome callee copies one.own) (BasesCome all callee copies one.bases.items) (GroupComes all callee copies c.args.group) (list_come_kept tac.structs made callee copies one.own) (λ graph come. come one there)
    (λ graph mentioned come its is. subst (λ (s : GroupStatics). ListCome callee copies s.own graph × BasesCome all callee copies s.bases.items graph) (same_Some one its (sym there ∙ is)) (mentioned, come))
    c.in_ok-join_statics.ensures.joins
    (subst (λ (l : List ℕ). Joins tac callee (BasesCome all callee copies l) (shown own c.join_statics.new.graph) (shown own c.join_bases.new.graph)) c.as_slice.ensures.value bases))
