use Rattle.std.proofs.Common.{◌∷◌, [], Contains, inl, inr, sym, subst, ◌∙◌}
use Rattle.std.specs.Map.Iter.{deref_pair}
use Rattle.std.proofs.lemmas.List.Elements.{Contains-append_left, Contains-push}
use Rattle.std.proofs.lemmas.Map.Iter.{iter_end}
use Rattle.dsa_inlining.proofs.SeenNodes.{SeesEntries, none_seen, more_seen, all_seen, seen_before, entries_push}
use Rattle.dsa_inlining.proofs.representatives.first_of_nodes.Goals as goal

pub loop-number-init : goal.loop-number-init
loop-number-init c = subst (SeesEntries [] c.args.seen.now.keys c.args.seen.now.keys) (sym c.new-numbers.ensures.items) (none_seen c.args.seen.now.keys)

pub loop-number-preserved : goal.loop-number-preserved
loop-number-preserved c =
    let before = c.args.seen.now.keys in
    let seen = c.loop-number.seen.keys in
    let numbers = c.loop-number.numbers.items in
    let number = c.in-Some.number.now in
    let target = c.in-Some.target.now in
    subst (λ entries. SeesEntries entries before c.insert.new.self.keys numbers) (sym (entries_push c.loop-number.yielded (c.in-Some.number, c.in-Some.target)))
    (more_seen _ before seen numbers numbers c.insert.new.self.keys number target c.loop-number.invariant c.in_ok-is_new.ensures.keys (λ other has. has)
    (inl (seen_before seen target.node c.in_ok-is_new.is_new c.in_ok-is_new.ensures.added c.if-is_new.false)))

pub loop-number-preserved-in-Continue-branch-2 : goal.loop-number-preserved-in-Continue-branch-2
loop-number-preserved-in-Continue-branch-2 c =
    let before = c.args.seen.now.keys in
    let seen = c.loop-number.seen.keys in
    let numbers = c.loop-number.numbers.items in
    let number = c.in-Some.number.now in
    let target = c.in-Some.target.now in
    let pushed = sym c.in_ok-push.ensures.items in
    subst (λ entries. SeesEntries entries before c.insert.new.self.keys c.push.new.self.items) (sym (entries_push c.loop-number.yielded (c.in-Some.number, c.in-Some.target)))
    (more_seen _ before seen numbers c.push.new.self.items c.insert.new.self.keys number target c.loop-number.invariant c.in_ok-is_new.ensures.keys
    (λ other has. subst (λ l. Contains l other) pushed (Contains-append_left numbers (number ∷ []) other has)) (inr (subst (λ l. Contains l number) pushed (Contains-push numbers number))))

pub returns : goal.returns
returns c =
    let before = c.args.seen.now.keys in
    let all = iter_end deref_pair c.args.targets.now.entries c.loop-number.yielded c.into_iter-number-iterator.result c.loop-number.number-iterator c.next.new.self c.next.result
    (c.into_iter-number-iterator.ensures.into_iter_gives ∙ c.iter-number-items.ensures.rest) c.loop-number.yielded_by c.in-None.is c.next.ensures.steps in
    all_seen c.args.targets.now before c.loop-number.seen.keys c.loop-number.numbers.items c.iter-number-items.ensures.unique
    (subst (λ entries. SeesEntries entries before c.loop-number.seen.keys c.loop-number.numbers.items) all.0 c.loop-number.invariant)
