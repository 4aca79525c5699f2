use Rattle.std.proofs.Common.{◌≡◌, false, List, Some, length, refl, sym, ap, subst, ◌∙◌, arith}
use Rattle.std.specs.Prelude.{slice_get, option_map}
use Rattle.std.proofs.lemmas.Option.{slice_get_read, slice_get-map}
use Rattle.std.proofs.lemmas.Result.{IfOk-weaker}
use Rattle.tac_ir.specs.declared.register.FunctionId.{FunctionId}
use Rattle.call_graph.specs.ClassLists.{numbers_of}
use Rattle.call_graph.specs.GroupViews.{groups_of}
use Rattle.heap_graph.specs.Shows.{ShowsGroup}
use Rattle.graph_checker.proofs.Decided.{judged_of, sound_fails, members_fail, complete_fails, needed_judged, edges_known, all_within}
use Rattle.graph_checker.proofs.graphs.group_graph_closed.Goals as goal

pub returns-then-not-is_sound : goal.returns-then-not-is_sound
returns-then-not-is_sound c = λ members other.
    let program = c.args.program in
    let fit = c.requires.program in
    let at = c.args.group in
    let lists = program.groups.now.members.items in
    let graphs = program.graphs.now.graphs.items in
    let graph = c.index-graph.result.now in
    let items = c.as_slice-members.result.now in
    let found : slice_get (groups_of program.groups.now) at ≡ Some (numbers_of items) =
    slice_get-map (λ members. numbers_of members.items) lists at
    ∙ (ap (option_map (λ members. numbers_of members.items)) (slice_get_read lists (length lists) at c.index.result.now refl c.requires.within c.index.ensures)
    ∙ ap (λ (l : List FunctionId). Some (numbers_of l)) (sym c.as_slice-members.ensures.value)) in
    let stored : slice_get graphs at ≡ Some graph = slice_get_read graphs (length graphs) at graph refl (omega (arith, fit.whole.graphs, c.requires.within)) c.index-graph.ensures in
    judged_of program fit at (numbers_of items) found false (sound_fails program fit at (numbers_of items) found graph stored c.is_sound.result c.is_sound.ensures c.if-not-is_sound.true) members other

pub are_members_sound-requires-clause-within : goal.are_members_sound-requires-clause-within
are_members_sound-requires-clause-within c =
    let program = c.args.program in
    let fit = c.requires.program in
    let at = c.args.group in
    let lists = program.groups.now.members.items in
    let graphs = program.graphs.now.graphs.items in
    let graph = c.index-graph.result.now in
    let items = c.as_slice-members.result.now in
    let found : slice_get (groups_of program.groups.now) at ≡ Some (numbers_of items) =
    slice_get-map (λ members. numbers_of members.items) lists at
    ∙ (ap (option_map (λ members. numbers_of members.items)) (slice_get_read lists (length lists) at c.index.result.now refl c.requires.within c.index.ensures)
    ∙ ap (λ (l : List FunctionId). Some (numbers_of l)) (sym c.as_slice-members.ensures.value)) in
    let stored : slice_get graphs at ≡ Some graph = slice_get_read graphs (length graphs) at graph refl (omega (arith, fit.whole.graphs, c.requires.within)) c.index-graph.ensures in
    all_within program fit at items found graph stored

pub returns-then-not-branch : goal.returns-then-not-branch
returns-then-not-branch c = λ members other.
    let program = c.args.program in
    let fit = c.requires.program in
    let at = c.args.group in
    let lists = program.groups.now.members.items in
    let graphs = program.graphs.now.graphs.items in
    let graph = c.index-graph.result.now in
    let items = c.as_slice-members.result.now in
    let found : slice_get (groups_of program.groups.now) at ≡ Some (numbers_of items) =
    slice_get-map (λ members. numbers_of members.items) lists at
    ∙ (ap (option_map (λ members. numbers_of members.items)) (slice_get_read lists (length lists) at c.index.result.now refl c.requires.within c.index.ensures)
    ∙ ap (λ (l : List FunctionId). Some (numbers_of l)) (sym c.as_slice-members.ensures.value)) in
    let stored : slice_get graphs at ≡ Some graph = slice_get_read graphs (length graphs) at graph refl (omega (arith, fit.whole.graphs, c.requires.within)) c.index-graph.ensures in
    judged_of program fit at (numbers_of items) found false
    (members_fail program fit at (numbers_of items) found graph stored c.in_ok-are_members_sound.field-0 c.in_ok-are_members_sound.ensures c.if-not-branch.true) members other

pub complete_closed-requires-clause-edges : goal.complete_closed-requires-clause-edges
complete_closed-requires-clause-edges c =
    let program = c.args.program in
    let fit = c.requires.program in
    let at = c.args.group in
    let lists = program.groups.now.members.items in
    let graphs = program.graphs.now.graphs.items in
    let graph = c.index-graph.result.now in
    let items = c.as_slice-members.result.now in
    let found : slice_get (groups_of program.groups.now) at ≡ Some (numbers_of items) =
    slice_get-map (λ members. numbers_of members.items) lists at
    ∙ (ap (option_map (λ members. numbers_of members.items)) (slice_get_read lists (length lists) at c.index.result.now refl c.requires.within c.index.ensures)
    ∙ ap (λ (l : List FunctionId). Some (numbers_of l)) (sym c.as_slice-members.ensures.value)) in
    let stored : slice_get graphs at ≡ Some graph = slice_get_read graphs (length graphs) at graph refl (omega (arith, fit.whole.graphs, c.requires.within)) c.index-graph.ensures in
    edges_known program fit at (numbers_of items) found graph stored c.is_sound.result c.is_sound.ensures c.if-not-is_sound.false

pub complete_closed-requires-clause-members : goal.complete_closed-requires-clause-members
complete_closed-requires-clause-members c =
    let program = c.args.program in
    let fit = c.requires.program in
    let at = c.args.group in
    let lists = program.groups.now.members.items in
    let graphs = program.graphs.now.graphs.items in
    let graph = c.index-graph.result.now in
    let items = c.as_slice-members.result.now in
    let found : slice_get (groups_of program.groups.now) at ≡ Some (numbers_of items) =
    slice_get-map (λ members. numbers_of members.items) lists at
    ∙ (ap (option_map (λ members. numbers_of members.items)) (slice_get_read lists (length lists) at c.index.result.now refl c.requires.within c.index.ensures)
    ∙ ap (λ (l : List FunctionId). Some (numbers_of l)) (sym c.as_slice-members.ensures.value)) in
    let stored : slice_get graphs at ≡ Some graph = slice_get_read graphs (length graphs) at graph refl (omega (arith, fit.whole.graphs, c.requires.within)) c.index-graph.ensures in
    let same : length c.as_slice-functions.result.now ≡ length program.tac.now.functions.items = ap length c.as_slice-functions.ensures.value ∙ fit.whole.functions in
    λ k d less. let below = all_within program fit at items found graph stored k d less in omega (arith, below, same)

pub returns-then-not-branch-2 : goal.returns-then-not-branch-2
returns-then-not-branch-2 c = λ members other.
    let program = c.args.program in
    let fit = c.requires.program in
    let at = c.args.group in
    let lists = program.groups.now.members.items in
    let graphs = program.graphs.now.graphs.items in
    let graph = c.index-graph.result.now in
    let items = c.as_slice-members.result.now in
    let found : slice_get (groups_of program.groups.now) at ≡ Some (numbers_of items) =
    slice_get-map (λ members. numbers_of members.items) lists at
    ∙ (ap (option_map (λ members. numbers_of members.items)) (slice_get_read lists (length lists) at c.index.result.now refl c.requires.within c.index.ensures)
    ∙ ap (λ (l : List FunctionId). Some (numbers_of l)) (sym c.as_slice-members.ensures.value)) in
    let stored : slice_get graphs at ≡ Some graph = slice_get_read graphs (length graphs) at graph refl (omega (arith, fit.whole.graphs, c.requires.within)) c.index-graph.ensures in
    judged_of program fit at (numbers_of items) found false
    (complete_fails program fit at (numbers_of items) found graph stored c.in_ok-complete_closed.field-0
    (λ table family shows. c.in_ok-complete_closed.ensures table family (subst (ShowsGroup table family (numbers_of items) graph) (sym c.as_slice-functions.ensures.value) shows)) c.if-not-branch-2.true)
    members other

pub are_members_needed-requires-clause-within : goal.are_members_needed-requires-clause-within
are_members_needed-requires-clause-within c =
    let program = c.args.program in
    let fit = c.requires.program in
    let at = c.args.group in
    let lists = program.groups.now.members.items in
    let graphs = program.graphs.now.graphs.items in
    let graph = c.index-graph.result.now in
    let items = c.as_slice-members.result.now in
    let found : slice_get (groups_of program.groups.now) at ≡ Some (numbers_of items) =
    slice_get-map (λ members. numbers_of members.items) lists at
    ∙ (ap (option_map (λ members. numbers_of members.items)) (slice_get_read lists (length lists) at c.index.result.now refl c.requires.within c.index.ensures)
    ∙ ap (λ (l : List FunctionId). Some (numbers_of l)) (sym c.as_slice-members.ensures.value)) in
    let stored : slice_get graphs at ≡ Some graph = slice_get_read graphs (length graphs) at graph refl (omega (arith, fit.whole.graphs, c.requires.within)) c.index-graph.ensures in
    all_within program fit at items found graph stored

pub returns : goal.returns
returns c =
    let program = c.args.program in
    let fit = c.requires.program in
    let at = c.args.group in
    let lists = program.groups.now.members.items in
    let graphs = program.graphs.now.graphs.items in
    let graph = c.index-graph.result.now in
    let items = c.as_slice-members.result.now in
    let found : slice_get (groups_of program.groups.now) at ≡ Some (numbers_of items) =
    slice_get-map (λ members. numbers_of members.items) lists at
    ∙ (ap (option_map (λ members. numbers_of members.items)) (slice_get_read lists (length lists) at c.index.result.now refl c.requires.within c.index.ensures)
    ∙ ap (λ (l : List FunctionId). Some (numbers_of l)) (sym c.as_slice-members.ensures.value)) in
    let stored : slice_get graphs at ≡ Some graph = slice_get_read graphs (length graphs) at graph refl (omega (arith, fit.whole.graphs, c.requires.within)) c.index-graph.ensures in
    IfOk-weaker c.are_members_needed.result _ _
    (λ needed is. λ members other.
    judged_of program fit at (numbers_of items) found needed
    (needed_judged program fit at (numbers_of items) found graph stored c.is_sound.result c.is_sound.ensures c.if-not-is_sound.false c.in_ok-are_members_sound.field-0
    c.in_ok-are_members_sound.ensures c.if-not-branch.false c.in_ok-complete_closed.field-0
    (λ table family shows. c.in_ok-complete_closed.ensures table family (subst (ShowsGroup table family (numbers_of items) graph) (sym c.as_slice-functions.ensures.value) shows)) c.if-not-branch-2.false
    needed is)
    members other)
    c.are_members_needed.ensures
