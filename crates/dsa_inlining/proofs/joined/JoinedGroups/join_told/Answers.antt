use Rattle.std.proofs.Common.{ℕ, List, refl, sym, subst, ◌∙◌, true≢false}
use Rattle.std.specs.Cmp.{nat_eq_equiv}
use Rattle.std.specs.Prelude.{nat_eq}
use Rattle.std.proofs.lemmas.Bool.{eqb-true}
use Rattle.std.proofs.lemmas.Map.Views.{Contains-from_any, list_any-from_Contains}
use Rattle.dsa_inlining.specs.Searched.{AddsTold}
use Rattle.dsa_inlining.specs.OuterCalls.Listed.{ToldCome}
use Rattle.dsa_inlining.specs.Shown.{code_of, shown, callee_of, copies_of}
use Rattle.dsa_inlining.proofs.Joining.{joins_for}
use Rattle.dsa_inlining.specs.Joined.{groups_of, RepresentativesCome, GroupsCome}
use Rattle.dsa_inlining.proofs.ListedGroups.{on_both, told_representatives, told_groups}
use Rattle.dsa_inlining.proofs.Reached.{bare_sound}
use Rattle.dsa_inlining.proofs.GroupCrossings.ToldGroups.{known_kept, known_more, told_again, told_first}
use Rattle.dsa_inlining.proofs.joined.JoinedGroups.join_told.Goals as goal

-- ---- the group was told before

pub returns-then-contains-clause-joins : goal.returns-then-contains-clause-joins
returns-then-contains-clause-joins c =
    let own = c.args.crossed in
    let before = groups_of own c.args.before in
    let made = c.requires.known.code.made in
    let callee = callee_of own in
    let copies = copies_of own in
    let all = before.statics in
    let group = c.args.group in
    let joined = c.args.self.now in
    let among = Contains-from_any {eq = nat_eq} eqb-true group joined.told.keys (sym c.contains.ensures ∙ c.if-contains.true) in
    let old = shown own c.args.graph.now in
    let new = shown own c.join_representatives.new.graph in
    on_both c.join_representatives.result c.join_representatives.ensures.copied c.join_representatives.ensures.joins
    (λ copied joins. joins_for (code_of own) made callee old new (RepresentativesCome all callee copies group) (ToldCome callee callee copies)
    (λ graph told. told_representatives all callee copies graph told group)
    (λ come. told_again before c.requires.statics group own.callee.now c.requires.called own.names.now copies new copied (bare_sound own.tac.now.types own.callee.now own.names.now c.requires.known.callee.sound)
    ((known_kept before made joined old new c.requires.graph.sound joins.goes c.requires.joined).aligned group among) come)
    joins)

pub returns-then-contains-clause-joined : goal.returns-then-contains-clause-joined
returns-then-contains-clause-joined c =
    let own = c.args.crossed in
    let before = groups_of own c.args.before in
    let ensures = c.join_representatives.ensures in
    on_both c.join_representatives.result ensures.graph ensures.joins
    (λ graph joins. known_kept before c.requires.known.code.made c.args.self.now (shown own c.args.graph.now) (shown own c.join_representatives.new.graph) c.requires.graph.sound joins.goes c.requires.joined)

-- ---- groups are added

pub returns-clause-joins : goal.returns-clause-joins
returns-clause-joins c =
    let own = c.args.crossed in
    let before = groups_of own c.args.before in
    let made = c.requires.known.code.made in
    let callee = callee_of own in
    let copies = copies_of own in
    let all = before.statics in
    let group = c.args.group in
    let joined = c.args.self.now in
    let old = shown own c.args.graph.now in
    let new = shown own c.join_groups.new.graph in
    let added = c.as_slice.result.now in
    let adds = subst (λ (l : List ℕ). AddsTold all group joined.told.keys c.tell_group.new.told.keys l) (sym c.as_slice.ensures.value) c.in_ok-added.ensures in
    on_both c.join_groups.result c.join_groups.ensures.copied c.join_groups.ensures.joins
    (λ copied joins. joins_for (code_of own) made callee old new (GroupsCome all callee copies added) (ToldCome callee callee copies) (λ graph told. told_groups all callee copies graph told added)
    (λ come. told_first before c.requires.statics group own.callee.now c.requires.called own.names.now copies new copied (bare_sound own.tac.now.types own.callee.now own.names.now c.requires.known.callee.sound)
    joined.told.keys c.tell_group.new.told.keys added adds c.requires.joined.closed (known_kept before made joined old new c.requires.graph.sound joins.goes c.requires.joined).aligned come
    (λ among. true≢false (sym (list_any-from_Contains {eq = nat_eq} nat_eq_equiv group joined.told.keys among) ∙ (sym c.contains.ensures ∙ c.if-contains.false))))
    joins)

pub returns-clause-joined : goal.returns-clause-joined
returns-clause-joined c =
    let own = c.args.crossed in
    let before = groups_of own c.args.before in
    let made = c.requires.known.code.made in
    let copies = copies_of own in
    let all = before.statics in
    let group = c.args.group in
    let joined = c.args.self.now in
    let old = shown own c.args.graph.now in
    let new = shown own c.join_groups.new.graph in
    let added = c.as_slice.result.now in
    let adds = subst (λ (l : List ℕ). AddsTold all group joined.told.keys c.tell_group.new.told.keys l) (sym c.as_slice.ensures.value) c.in_ok-added.ensures in
    on_both c.join_groups.result c.join_groups.ensures.copied c.join_groups.ensures.joins
    (λ copied joins. known_more before c.requires.statics group own.callee.now c.requires.called own.names.now copies new copied
    (bare_sound own.tac.now.types own.callee.now own.names.now c.requires.known.callee.sound) joined.told.keys c.tell_group.new.told.keys added adds c.requires.joined.closed
    (known_kept before made joined old new c.requires.graph.sound joins.goes c.requires.joined).aligned joins.joined joined.bases.items c.push.new.self.items c.requires.joined.bases c.in_ok-push.ensures.items
    (record { told = c.tell_group.new.told; bases = c.push.new.self }) refl refl)
