use Rattle.std.proofs.Common.{[], ◌∷◌, ◌++◌, refl, ap, ◌∙◌, arith}
use Rattle.dsa_inlining.proofs.SeenNodes.{seen_before}
use Rattle.dsa_inlining.proofs.ToldStatics.Telling.{not_there, same_keys, more_keys, telling_begins, telling_again, telling_more, telling_ends, again_less, more_less}
use Rattle.dsa_inlining.proofs.search.tell_group.Goals as goal

pub loop-next-init : goal.loop-next-init
loop-next-init c =
    telling_begins c.args.all.now c.args.group c.args.told.now.keys c.args.told.now.keys c.new-added.result.items c.push.new.self.items refl c.new-added.ensures.items
    (c.in_ok-push.ensures.items ∙ ap (λ l. l ++ c.args.group ∷ []) c.new-pending.ensures.items)

pub loop-next-smaller-in-Continue-branch-4 : goal.loop-next-smaller-in-Continue-branch-4
loop-next-smaller-in-Continue-branch-4 c =
    let told = c.loop-next.told.keys in
    let next = c.in-Some.next in
    let new = c.in_ok-is_new.ensures in
    more_less c.args.all.now told c.insert.new.self.keys c.loop-next.pending.items c.pop.new.self.items c.push_bases.new.pending.items next
    (not_there told next c.in_ok-is_new.is_new new.added c.if-is_new.true) (more_keys told c.insert.new.self.keys next c.in_ok-is_new.is_new new.keys new.added c.if-is_new.true) c.in-Some.ensures.items
    c.in_ok-push_bases.ensures

pub loop-next-preserved-in-Continue-branch-4 : goal.loop-next-preserved-in-Continue-branch-4
loop-next-preserved-in-Continue-branch-4 c =
    let told = c.loop-next.told.keys in
    let next = c.in-Some.next in
    let new = c.in_ok-is_new.ensures in
    telling_more c.args.all.now c.args.group c.args.told.now.keys told c.loop-next.added.items c.loop-next.pending.items c.pop.new.self.items next c.loop-next.invariant c.in-Some.ensures.items
    c.insert.new.self.keys c.push-then-is_new.new.self.items c.push_bases.new.pending.items (more_keys told c.insert.new.self.keys next c.in_ok-is_new.is_new new.keys new.added c.if-is_new.true)
    c.in_ok-push-2.ensures.items c.in_ok-push_bases.ensures

pub loop-next-smaller : goal.loop-next-smaller
loop-next-smaller c =
    let told = c.loop-next.told.keys in
    let next = c.in-Some.next in
    let new = c.in_ok-is_new.ensures in
    again_less c.args.all.now told c.insert.new.self.keys c.loop-next.pending.items c.pop.new.self.items next (same_keys told c.insert.new.self.keys next c.in_ok-is_new.is_new new.keys new.added c.if-is_new.false)
    c.in-Some.ensures.items

pub loop-next-preserved : goal.loop-next-preserved
loop-next-preserved c =
    let told = c.loop-next.told.keys in
    let next = c.in-Some.next in
    let new = c.in_ok-is_new.ensures in
    telling_again c.args.all.now c.args.group c.args.told.now.keys told c.loop-next.added.items c.loop-next.pending.items c.pop.new.self.items next c.loop-next.invariant c.in-Some.ensures.items
    c.insert.new.self.keys (same_keys told c.insert.new.self.keys next c.in_ok-is_new.is_new new.keys new.added c.if-is_new.false) (seen_before told next c.in_ok-is_new.is_new new.added c.if-is_new.false)

pub returns : goal.returns
returns c =
    telling_ends c.args.all.now c.args.group c.args.told.now.keys c.loop-next.told.keys c.loop-next.added.items c.loop-next.pending.items
    (omega (arith, c.in_default.ensures.cases.0, c.loop-next.pending.ok.0)) c.loop-next.invariant
