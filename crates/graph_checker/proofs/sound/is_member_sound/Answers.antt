use Rattle.std.proofs.Common.{◌≡◌, ◌<◌, Some, length, refl, ap, ◌∙◌, arith}
use Rattle.std.specs.Prelude.{slice_get, option_map}
use Rattle.std.proofs.lemmas.Option.{slice_get_read, slice_get-map}
use Rattle.std.proofs.lemmas.Result.{IfOk-weaker}
use Rattle.tac_ir.specs.Views.{tac_of, function_in}
use Rattle.graph_checker.specs.Programs.{family_of}
use Rattle.graph_checker.proofs.Decided.{member_judged}
use Rattle.graph_checker.proofs.sound.is_member_sound.Goals as goal

pub returns : goal.returns
returns c =
    let program = c.args.program in
    let table = program.tac.now.types in
    let number = c.args.member.0 in
    let functions = program.graphs.now.functions.items in
    let definitions = program.tac.now.functions.items in
    let own = c.index-own.result.now in
    let code = c.index-code.result.now in
    let within : number < length functions = omega (arith, c.requires.program.whole.functions, c.requires.within) in
    let there : slice_get functions number ≡ Some own = slice_get_read functions (length functions) number own refl within c.index-own.ensures in
    let stored : slice_get definitions number ≡ Some code = slice_get_read definitions (length definitions) number code refl c.requires.within c.index-code.ensures in
    let defined : slice_get (tac_of program.tac.now).functions number ≡ Some (function_in table code) = slice_get-map (function_in table) definitions number ∙ ap (option_map (function_in table)) stored in
    IfOk-weaker c.are_names_sound.result _ _
    (λ sound is. member_judged table (family_of program) c.args.graph.now functions number own (function_in table code) there defined sound (is table)) c.are_names_sound.ensures
