use Rattle.std.proofs.Common.{◌≡◌, List, Some, length, refl, sym, ap, ◌∙◌, arith}
use Rattle.std.specs.Prelude.{slice_get, option_map}
use Rattle.std.proofs.lemmas.Option.{slice_get_read, slice_get-map}
use Rattle.std.proofs.lemmas.Result.{IfOk-weaker}
use Rattle.tac_ir.specs.declared.register.FunctionId.{FunctionId}
use Rattle.call_graph.specs.ClassLists.{numbers_of}
use Rattle.call_graph.specs.GroupViews.{groups_of}
use Rattle.graph_checker.proofs.GroupsFit.{many_groups}
use Rattle.graph_checker.proofs.ClosedGroups.Groups.{there_within}
use Rattle.graph_checker.proofs.Before.{sound_before}
use Rattle.graph_checker.proofs.GraphFaults.Groups.{graph_fails, members_judged, members_within, members_numbered}
use Rattle.graph_checker.proofs.faults.group_closed.Goals as goal

pub returns-then-not-branch : goal.returns-then-not-branch
returns-then-not-branch c =
    let program = c.args.program in
    let at = c.args.number in
    let own = there_within (groups_of program.groups.now) at (let many = many_groups program c.requires.program in omega (arith, many, c.requires.within)) in
    graph_fails program c.requires.program at own.0 own.1 c.in_ok-group_graph_closed.field-0 (c.in_ok-group_graph_closed.ensures own.0 own.1) c.if-not-branch.true

pub members_closed-requires-clause-sound : goal.members_closed-requires-clause-sound
members_closed-requires-clause-sound c =
    let program = c.args.program in
    sound_before program c.requires.program c.args.number (let many = many_groups program c.requires.program in omega (arith, many, c.requires.within)) c.requires.before

pub members_closed-requires-clause-within : goal.members_closed-requires-clause-within
members_closed-requires-clause-within c =
    let program = c.args.program in
    let at = c.args.number in
    let lists = program.groups.now.members.items in
    let items = c.as_slice-members.result.now in
    let found : slice_get (groups_of program.groups.now) at ≡ Some (numbers_of items) =
    slice_get-map (λ members. numbers_of members.items) lists at
    ∙ (ap (option_map (λ members. numbers_of members.items)) (slice_get_read lists (length lists) at c.index.result.now refl c.requires.within c.index.ensures)
    ∙ ap (λ (l : List FunctionId). Some (numbers_of l)) (sym c.as_slice-members.ensures.value)) in
    members_within program c.requires.program at items found

pub members_closed-requires-clause-group : goal.members_closed-requires-clause-group
members_closed-requires-clause-group c =
    let program = c.args.program in
    let at = c.args.number in
    let lists = program.groups.now.members.items in
    let items = c.as_slice-members.result.now in
    let found : slice_get (groups_of program.groups.now) at ≡ Some (numbers_of items) =
    slice_get-map (λ members. numbers_of members.items) lists at
    ∙ (ap (option_map (λ members. numbers_of members.items)) (slice_get_read lists (length lists) at c.index.result.now refl c.requires.within c.index.ensures)
    ∙ ap (λ (l : List FunctionId). Some (numbers_of l)) (sym c.as_slice-members.ensures.value)) in
    members_numbered program c.requires.program at items found

pub returns : goal.returns
returns c =
    let program = c.args.program in
    let at = c.args.number in
    let lists = program.groups.now.members.items in
    let items = c.as_slice-members.result.now in
    let found : slice_get (groups_of program.groups.now) at ≡ Some (numbers_of items) =
    slice_get-map (λ members. numbers_of members.items) lists at
    ∙ (ap (option_map (λ members. numbers_of members.items)) (slice_get_read lists (length lists) at c.index.result.now refl c.requires.within c.index.ensures)
    ∙ ap (λ (l : List FunctionId). Some (numbers_of l)) (sym c.as_slice-members.ensures.value)) in
    IfOk-weaker c.members_closed.result _ _
    (λ closed is.
    members_judged program c.requires.program at (numbers_of items) found c.in_ok-group_graph_closed.field-0 (c.in_ok-group_graph_closed.ensures (numbers_of items) found) c.if-not-branch.false closed is)
    c.members_closed.ensures
