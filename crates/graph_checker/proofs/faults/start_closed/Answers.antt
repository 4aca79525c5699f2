use Rattle.std.proofs.Common.{refl, arith}
use Rattle.std.proofs.lemmas.Result.{IfOk-weaker}
use Rattle.graph_checker.specs.Programs.{family_of}
use Rattle.graph_checker.proofs.GroupsFit.{many_groups}
use Rattle.graph_checker.proofs.Decided.{fails_by}
use Rattle.graph_checker.proofs.ClosedGroups.Groups.{start_shows}
use Rattle.graph_checker.proofs.Before.{sound_before}
use Rattle.graph_checker.proofs.GraphFaults.Groups.{start_judged}
use Rattle.graph_checker.proofs.faults.start_closed.Goals as goal

pub returns-then-not-branch : goal.returns-then-not-branch
returns-then-not-branch c = fails_by c.in_ok-start_graph_closed.field-0 c.in_ok-start_graph_closed.ensures (λ closed. closed.last) c.if-not-branch.true

pub start_closed-requires-clause-sound : goal.start_closed-requires-clause-sound
start_closed-requires-clause-sound c =
    let program = c.args.program in
    sound_before program c.requires.program _ (let many = many_groups program c.requires.program in omega (arith, many)) c.requires.groups

pub returns-then-not-branch-2 : goal.returns-then-not-branch-2
returns-then-not-branch-2 c = fails_by c.in_ok-start_closed.field-0 c.in_ok-start_closed.ensures (λ closed. closed.start) c.if-not-branch-2.true

pub returns : goal.returns
returns c =
    let program = c.args.program in
    let family = family_of program in
    IfOk-weaker c.first_closed.result _ _
    (λ first is.
    start_judged family (c.in_ok-start_graph_closed.ensures.0 c.if-not-branch.false) (c.in_ok-start_closed.ensures.0 c.if-not-branch-2.false) first
    (is family refl (start_shows program)))
    c.first_closed.ensures
