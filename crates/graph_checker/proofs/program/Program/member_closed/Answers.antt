use Rattle.std.proofs.Common.{◌≡◌, Some, length, map, refl, sym, ap, subst, ◌∙◌}
use Rattle.std.specs.Prelude.{slice_get, option_map}
use Rattle.std.proofs.lemmas.Option.{slice_get_read, slice_get-map}
use Rattle.tac_ir.specs.States.{InFunction}
use Rattle.tac_ir.specs.Views.{tac_of, op_in, function_in}
use Rattle.heap_graph.specs.Closed.{group_of}
use Rattle.graph_checker.specs.Programs.{family_of}
use Rattle.graph_checker.specs.Fits.{AllFit}
use Rattle.graph_checker.proofs.CodeJudged.{formals_fail, function_judged}
use Rattle.graph_checker.proofs.GroupsFit.{points_fit, calls_within}
use Rattle.graph_checker.proofs.program.Program.member_closed.Goals as goal

pub code_closed-requires-clause-fit : goal.code_closed-requires-clause-fit
code_closed-requires-clause-fit c =
    let program = c.args.self in
    let table = program.tac.now.types in
    let number = c.args.function.0 in
    let definitions = program.tac.now.functions.items in
    let code = c.index-code.result.now in
    let stored : slice_get definitions number ≡ Some code = slice_get_read definitions (length definitions) number code refl c.requires.within c.index-code.ensures in
    let defined : slice_get (tac_of program.tac.now).functions number ≡ Some (function_in table code) = slice_get-map (function_in table) definitions number ∙ ap (option_map (function_in table)) stored in
    subst (λ g. AllFit program g (map (op_in table) code.points.items)) (sym c.member-own.ensures.member.group)
    (points_fit program c.requires.program number c.requires.within (function_in table code) defined)

pub code_closed-requires-clause-objects : goal.code_closed-requires-clause-objects
code_closed-requires-clause-objects c =
    let definitions = c.args.self.tac.now.functions.items in
    let code = c.index-code.result.now in
    c.requires.program.objects c.args.function.0 code (slice_get_read definitions (length definitions) c.args.function.0 code refl c.requires.within c.index-code.ensures)

pub code_closed-requires-clause-code : goal.code_closed-requires-clause-code
code_closed-requires-clause-code c =
    let program = c.args.self in
    let table = program.tac.now.types in
    let number = c.args.function.0 in
    let definitions = program.tac.now.functions.items in
    let code = c.index-code.result.now in
    let stored : slice_get definitions number ≡ Some code = slice_get_read definitions (length definitions) number code refl c.requires.within c.index-code.ensures in
    slice_get-map (function_in table) definitions number ∙ ap (option_map (function_in table)) stored

pub returns-in_ok-code_closed : goal.returns-in_ok-code_closed
returns-in_ok-code_closed c =
    let program = c.args.self in
    let table = program.tac.now.types in
    let family = family_of program in
    let number = c.args.function.0 in
    let definitions = program.tac.now.functions.items in
    let code = c.index-code.result.now in
    let function = function_in table code in
    let member = c.member-own.ensures.member in
    let stored : slice_get definitions number ≡ Some code = slice_get_read definitions (length definitions) number code refl c.requires.within c.index-code.ensures in
    let defined : slice_get (tac_of program.tac.now).functions number ≡ Some function = slice_get-map (function_in table) definitions number ∙ ap (option_map (function_in table)) stored in
    let fits = points_fit program c.requires.program number c.requires.within function defined in
    function_judged family number function defined (calls_within program c.requires.program (Some (group_of family number)) (InFunction number) function fits) c.formals_closed.result
    (c.formals_closed.ensures family number member.names) c.if-formals_closed.true c.in_ok-code_closed.field-0 (c.in_ok-code_closed.ensures member)

pub returns-else-formals_closed : goal.returns-else-formals_closed
returns-else-formals_closed c =
    let program = c.args.self in
    let table = program.tac.now.types in
    let family = family_of program in
    let number = c.args.function.0 in
    let definitions = program.tac.now.functions.items in
    let code = c.index-code.result.now in
    let stored : slice_get definitions number ≡ Some code = slice_get_read definitions (length definitions) number code refl c.requires.within c.index-code.ensures in
    let defined : slice_get (tac_of program.tac.now).functions number ≡ Some (function_in table code) = slice_get-map (function_in table) definitions number ∙ ap (option_map (function_in table)) stored in
    formals_fail family number (function_in table code) defined c.formals_closed.result (c.formals_closed.ensures family number c.member-own.ensures.member.names) c.if-formals_closed.false
