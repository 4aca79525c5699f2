use Rattle.std.proofs.Common.{◌≡◌, suc, ◌+◌, Err, length, sym, ap, subst, arith}
use Rattle.std.specs.Prelude.{IsErrAnd}
use Rattle.call_graph.specs.GroupViews.{groups_of}
use Rattle.dsa_bottom_up.specs.AssembledGroups.Making.{IsMaking}
use Rattle.dsa_bottom_up.proofs.Ending.{making_begins}
use Rattle.dsa_bottom_up.specs.declared.program.GraphErr.TheVariants as E
use Rattle.dsa_bottom_up.specs.Making.{made_in, AreKeptBelow}
use Rattle.dsa_bottom_up.proofs.Finishing.{groups_many}
use Rattle.dsa_bottom_up.proofs.Keeping.{kept_begins}
use Rattle.dsa_bottom_up.proofs.Counted.{SoFar, none_so_far, one_more, group_refused, start_refused}
use Rattle.dsa_bottom_up.proofs.program.bottom_up.Goals as goal

pub loop-number-init : goal.loop-number-init
loop-number-init c =
    let making = c.in_ok-making.making in
    let empty = c.in_ok-making.ensures in
    let before = made_in c.args.tac.now c.args.groups.now making in
    none_so_far c.args.tac.now c.args.groups.now c.args.counts.now.functions.items making (making_begins before empty.graphs empty.functions empty.escaping)
    (kept_begins c.args.tac.now c.args.groups.now making empty)

pub count_group-requires-clause-making : goal.count_group-requires-clause-making
count_group-requires-clause-making c = c.loop-number.invariant.made

pub count_group-requires-clause-kept : goal.count_group-requires-clause-kept
count_group-requires-clause-kept c = c.loop-number.invariant.kept

pub add_group-requires-clause-kept : goal.add_group-requires-clause-kept
add_group-requires-clause-kept c = c.loop-number.invariant.kept

pub add_group-requires-clause-making : goal.add_group-requires-clause-making
add_group-requires-clause-making c = c.loop-number.invariant.made

pub loop-number-preserved : goal.loop-number-preserved
loop-number-preserved c =
    let tac = c.args.tac.now in
    let groups = c.args.groups.now in
    let counts = c.args.counts.now.functions.items in
    let number = c.loop-number.number in
    let next : suc number ≡ number + 1 = omega arith in
    subst (SoFar tac groups counts c.add_group.new.self) next
    (one_more tac groups counts c.loop-number.making c.add_group.new.self number c.loop-number.invariant c.in_ok-add_group.ensures.making c.in_ok-add_group.ensures.kept c.in_ok-add_group.ensures.begins c.in_ok-count_group.ensures.few
    c.in_ok-add_group.ensures.least c.in_ok-add_group.ensures.bare)

pub returns-in_err-count_group-clause-refused : goal.returns-in_err-count_group-clause-refused
returns-in_err-count_group-clause-refused c = λ start count is.
    let error = c.in_err-count_group.field-0.0 in
    let same : E.TooMany count ≡ error = subst (λ r. IsErrAnd r (λ e. e ≡ error)) is c.from_residual-in_err-count_group.ensures.1 in
    let many = c.in_err-count_group.ensures.many count (ap Err (sym same)) in
    group_refused c.args.tac.now c.args.groups.now c.args.counts.now.functions.items c.loop-number.making c.args.counts.now.start c.loop-number.number count c.loop-number.invariant c.requires.grouped start many.0 many.1

pub count_start-requires-clause-making : goal.count_start-requires-clause-making
count_start-requires-clause-making c =
    let all = groups_many c.args.groups.now in
    let read = c.len-number-end.ensures in
    let size = c.args.groups.now.members.ok.0 in
    let past = c.loop-number-test.false in
    let within = c.loop-number.auto.number-end in
    let same : c.loop-number.number ≡ length (groups_of c.args.groups.now) = omega (arith, all, read, size, past, within) in
    subst (IsMaking (made_in c.args.tac.now c.args.groups.now c.loop-number.making)) same c.loop-number.invariant.made

pub count_start-requires-clause-kept : goal.count_start-requires-clause-kept
count_start-requires-clause-kept c =
    let all = groups_many c.args.groups.now in
    let read = c.len-number-end.ensures in
    let size = c.args.groups.now.members.ok.0 in
    let past = c.loop-number-test.false in
    let within = c.loop-number.auto.number-end in
    let same : c.loop-number.number ≡ length (groups_of c.args.groups.now) = omega (arith, all, read, size, past, within) in
    subst (AreKeptBelow (made_in c.args.tac.now c.args.groups.now c.loop-number.making)) same c.loop-number.invariant.kept

pub finish-requires-clause-making : goal.finish-requires-clause-making
finish-requires-clause-making c =
    let all = groups_many c.args.groups.now in
    let read = c.len-number-end.ensures in
    let size = c.args.groups.now.members.ok.0 in
    let past = c.loop-number-test.false in
    let within = c.loop-number.auto.number-end in
    let same : c.loop-number.number ≡ length (groups_of c.args.groups.now) = omega (arith, all, read, size, past, within) in
    subst (IsMaking (made_in c.args.tac.now c.args.groups.now c.loop-number.making)) same c.loop-number.invariant.made

pub finish-requires-clause-kept : goal.finish-requires-clause-kept
finish-requires-clause-kept c =
    let all = groups_many c.args.groups.now in
    let read = c.len-number-end.ensures in
    let size = c.args.groups.now.members.ok.0 in
    let past = c.loop-number-test.false in
    let within = c.loop-number.auto.number-end in
    let same : c.loop-number.number ≡ length (groups_of c.args.groups.now) = omega (arith, all, read, size, past, within) in
    subst (AreKeptBelow (made_in c.args.tac.now c.args.groups.now c.loop-number.making)) same c.loop-number.invariant.kept

pub returns-in_err-count_start-clause-refused : goal.returns-in_err-count_start-clause-refused
returns-in_err-count_start-clause-refused c = λ start count is.
    let tac = c.args.tac.now in
    let groups = c.args.groups.now in
    let counts = c.args.counts.now.functions.items in
    let error = c.in_err-count_start.field-0.0 in
    let told : E.TooMany count ≡ error = subst (λ r. IsErrAnd r (λ e. e ≡ error)) is c.from_residual-in_err-count_start.ensures.1 in
    let many = c.in_err-count_start.ensures.many count (ap Err (sym told)) in
    let all = groups_many groups in
    let read = c.len-number-end.ensures in
    let size = groups.members.ok.0 in
    let past = c.loop-number-test.false in
    let within = c.loop-number.auto.number-end in
    let same : c.loop-number.number ≡ length (groups_of groups) = omega (arith, all, read, size, past, within) in
    start_refused tac groups counts c.loop-number.making c.args.counts.now.start count (subst (SoFar tac groups counts c.loop-number.making) same c.loop-number.invariant) c.requires.grouped start many.0 many.1

pub returns-clause-graphs : goal.returns-clause-graphs
returns-clause-graphs c = c.in_ok-finish.ensures.graphs

pub returns-clause-functions : goal.returns-clause-functions
returns-clause-functions c = c.in_ok-finish.ensures.begins.functions

pub returns-clause-closed : goal.returns-clause-closed
returns-clause-closed c = c.in_ok-finish.ensures.closed

pub returns-clause-smallest : goal.returns-clause-smallest
returns-clause-smallest c = λ start.
    let tac = c.args.tac.now in
    let groups = c.args.groups.now in
    let counts = c.args.counts.now.functions.items in
    let all = groups_many groups in
    let read = c.len-number-end.ensures in
    let size = groups.members.ok.0 in
    let past = c.loop-number-test.false in
    let within = c.loop-number.auto.number-end in
    let same : c.loop-number.number ≡ length (groups_of groups) = omega (arith, all, read, size, past, within) in
    let so_far : SoFar tac groups counts c.loop-number.making (length (groups_of groups)) = subst (SoFar tac groups counts c.loop-number.making) same c.loop-number.invariant in
    c.in_ok-finish.ensures.smallest start (so_far.least start)

pub returns-clause-least_below : goal.returns-clause-least_below
returns-clause-least_below c = λ start.
    let tac = c.args.tac.now in
    let groups = c.args.groups.now in
    let counts = c.args.counts.now.functions.items in
    let all = groups_many groups in
    let read = c.len-number-end.ensures in
    let size = groups.members.ok.0 in
    let past = c.loop-number-test.false in
    let within = c.loop-number.auto.number-end in
    let same : c.loop-number.number ≡ length (groups_of groups) = omega (arith, all, read, size, past, within) in
    let so_far : SoFar tac groups counts c.loop-number.making (length (groups_of groups)) = subst (SoFar tac groups counts c.loop-number.making) same c.loop-number.invariant in
    so_far.below start c.in_ok-finish.field-0 c.in_ok-finish.ensures.begins

pub returns-clause-least : goal.returns-clause-least
returns-clause-least c = λ start.
    let tac = c.args.tac.now in
    let groups = c.args.groups.now in
    let counts = c.args.counts.now.functions.items in
    let all = groups_many groups in
    let read = c.len-number-end.ensures in
    let size = groups.members.ok.0 in
    let past = c.loop-number-test.false in
    let within = c.loop-number.auto.number-end in
    let same : c.loop-number.number ≡ length (groups_of groups) = omega (arith, all, read, size, past, within) in
    let so_far : SoFar tac groups counts c.loop-number.making (length (groups_of groups)) = subst (SoFar tac groups counts c.loop-number.making) same c.loop-number.invariant in
    c.in_ok-finish.ensures.least start (so_far.least start) (so_far.bare start)

pub returns-clause-few : goal.returns-clause-few
returns-clause-few c =
    let tac = c.args.tac.now in
    let groups = c.args.groups.now in
    let counts = c.args.counts.now.functions.items in
    let all = groups_many groups in
    let read = c.len-number-end.ensures in
    let size = groups.members.ok.0 in
    let past = c.loop-number-test.false in
    let within = c.loop-number.auto.number-end in
    let same : c.loop-number.number ≡ length (groups_of groups) = omega (arith, all, read, size, past, within) in
    let so_far : SoFar tac groups counts c.loop-number.making (length (groups_of groups)) = subst (SoFar tac groups counts c.loop-number.making) same c.loop-number.invariant in
    so_far.few c.in_ok-finish.field-0 c.in_ok-finish.ensures.begins

pub returns-clause-few_first : goal.returns-clause-few_first
returns-clause-few_first c = c.in_ok-count_start.ensures.few c.in_ok-finish.field-0 c.in_ok-finish.ensures.begins
