use Rattle.std.proofs.Common.{sym, ◌∙◌, arith}
use Rattle.std.proofs.lemmas.Bool.{false≢true}
use Rattle.heap_graph.proofs.Split.{all_closed}
use Rattle.graph_checker.specs.declared.program.Program.{Program}
use Rattle.graph_checker.specs.Programs.{family_of}
use Rattle.graph_checker.proofs.GroupsFit.{many_groups}
use Rattle.graph_checker.proofs.GraphFaults.Groups.{grouped, one_more}
use Rattle.graph_checker.proofs.faults.closed_fault.Goals as goal

pub loop-number-preserved : goal.loop-number-preserved
loop-number-preserved c =
    let program : Program = record { tac = c.args.tac; groups = c.args.groups; graphs = c.args.graphs } in
    one_more (family_of program) c.loop-number.number c.loop-number.invariant (c.in_ok-group_closed.ensures.0 c.if-not-branch.false)

pub returns-then-not-branch-2 : goal.returns-then-not-branch-2
returns-then-not-branch-2 c =
    let program : Program = record { tac = c.args.tac; groups = c.args.groups; graphs = c.args.graphs } in
    let many = many_groups program c.requires in (
      (λ number less. c.loop-number.invariant number (omega (arith, less, many, c.loop-number-test.false, c.len-number-end.ensures, c.args.groups.now.members.ok.0))),
      (λ start. false≢true (sym c.if-not-branch-2.true ∙ c.in_ok-start_closed.ensures.1 start)),
    )

pub returns : goal.returns
returns c =
    let program : Program = record { tac = c.args.tac; groups = c.args.groups; graphs = c.args.graphs } in
    let many = many_groups program c.requires in
    all_closed (family_of program) (grouped program c.requires)
    (λ number less. c.loop-number.invariant number (omega (arith, less, many, c.loop-number-test.false, c.len-number-end.ensures, c.args.groups.now.members.ok.0)))
    (c.in_ok-start_closed.ensures.0 c.if-not-branch-2.false)
