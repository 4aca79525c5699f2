use Rattle.std.proofs.Common.{◌≡◌, ◌<◌, Some, length, refl, ap, ◌∙◌, arith}
use Rattle.std.specs.Prelude.{slice_get}
use Rattle.std.proofs.lemmas.Option.{slice_get_read, slice_get_within}
use Rattle.std.proofs.lemmas.List.{length-map}
use Rattle.call_graph.specs.ClassLists.{numbers_of}
use Rattle.call_graph.specs.GroupViews.{groups_of}
use Rattle.graph_checker.proofs.Members.{is_member, number_told}
use Rattle.graph_checker.proofs.program.Program.member.Goals as goal

pub returns-clause-member : goal.returns-clause-member
returns-clause-member c =
    let program = c.args.self in
    let is = c.requires.program in
    let number = c.args.function.0 in
    let groups = program.groups.now.group_of.items in
    let graphs = program.graphs.now.graphs.items in
    let functions = program.graphs.now.functions.items in
    let definitions = program.tac.now.functions.items in
    let at = c.index-group.result.now in
    let numbered : slice_get groups number ≡ Some at = slice_get_read groups (length groups) number at refl (omega (arith, is.of.each, c.requires.within)) c.index-group.ensures in
    let stored : slice_get graphs at ≡ Some c.index.result.now =
    let place = is.of.group number at numbered in
    let below = slice_get_within (groups_of program.groups.now) at place.0 place.1 in
    let many : length (groups_of program.groups.now) ≡ length program.groups.now.members.items = length-map program.groups.now.members.items (λ members. numbers_of members.items) in
    let within : at < length graphs = omega (arith, below, many, is.graphs) in
    slice_get_read graphs (length graphs) at c.index.result.now refl within c.index.ensures in
    let told : slice_get functions number ≡ Some c.index-own.result.now = slice_get_read functions (length functions) number c.index-own.result.now refl (omega (arith, is.functions, c.requires.within)) c.index-own.ensures in
    let defined : slice_get definitions number ≡ Some c.index-2.result.now = slice_get_read definitions (length definitions) number c.index-2.result.now refl c.requires.within c.index-2.ensures in
    is_member program is number at _ numbered stored c.index-own.result.now told refl refl c.index-2.result.now defined refl refl

pub returns-clause-stored : goal.returns-clause-stored
returns-clause-stored c =
    let program = c.args.self in
    let is = c.requires.program in
    let number = c.args.function.0 in
    let groups = program.groups.now.group_of.items in
    let graphs = program.graphs.now.graphs.items in
    let at = c.index-group.result.now in
    let numbered : slice_get groups number ≡ Some at = slice_get_read groups (length groups) number at refl (omega (arith, is.of.each, c.requires.within)) c.index-group.ensures in
    let place = is.of.group number at numbered in
    let below = slice_get_within (groups_of program.groups.now) at place.0 place.1 in
    let many : length (groups_of program.groups.now) ≡ length program.groups.now.members.items = length-map program.groups.now.members.items (λ members. numbers_of members.items) in
    let within : at < length graphs = omega (arith, below, many, is.graphs) in
    ap (λ n. slice_get graphs n) (number_told program is number at numbered) ∙ slice_get_read graphs (length graphs) at c.index.result.now refl within c.index.ensures
