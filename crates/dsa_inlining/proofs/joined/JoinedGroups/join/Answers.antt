use Rattle.graph_unification.specs.Memory.{owner_of}
use Rattle.graph_unification.proofs.NamedSteps.{on_ok}
use Rattle.dsa_inlining.specs.Crossed.{IsJoined, IsCrossed}
use Rattle.dsa_inlining.specs.OuterCalls.Listed.{ToldCome}
use Rattle.dsa_inlining.specs.Shown.{code_of, shown, callee_of, copies_of}
use Rattle.dsa_inlining.proofs.Joining.{joins_then}
use Rattle.dsa_inlining.specs.Joined.{groups_of}
use Rattle.dsa_inlining.proofs.Aligning.{told_crossed, crossed_joins, joined_call_kept}
use Rattle.dsa_inlining.proofs.ListedGroups.{crossed_told}
use Rattle.dsa_inlining.proofs.GroupCrossings.ToldGroups.{known_kept}
use Rattle.dsa_inlining.proofs.joined.JoinedGroups.join.Goals as goal

pub join_told-requires-clause-joined : goal.join_told-requires-clause-joined
join_told-requires-clause-joined c =
    let own = c.args.crossed in
    known_kept (groups_of own c.args.before) c.requires.known.code.made c.args.self.now (shown own c.args.graph.now) (shown own c.join_call.new.graph) c.requires.graph.sound c.in_ok-join_call.ensures.joins.goes c.requires.joined

pub returns-clause-joins : goal.returns-clause-joins
returns-clause-joins c =
    let own = c.args.crossed in
    let tac = code_of own in
    let made = c.requires.known.code.made in
    let callee = callee_of own in
    let copies = copies_of own in
    let owner = owner_of c.args.owner in
    let site = c.args.site in
    let arguments = c.args.arguments.now in
    let called = own.called in
    on_ok c.join_told.result c.join_told.ensures.joins
    (λ told. joins_then tac made callee (shown own c.args.graph.now) (shown own c.join_call.new.graph) (shown own c.join_told.new.graph) c.requires.graph.sound c.in_ok-join_call.ensures.graph.sound
    (IsJoined tac owner site arguments called callee copies) (ToldCome callee callee copies) (IsCrossed tac owner site arguments called callee copies)
    (joined_call_kept tac.structs made callee copies tac owner site arguments called)
    (λ graph crossed. (crossed_joins tac owner site arguments called callee copies graph crossed, crossed_told tac owner site arguments called callee copies graph crossed))
    (λ graph joined come. told_crossed tac owner site arguments called callee copies graph joined come) c.in_ok-join_call.ensures.joins told)
