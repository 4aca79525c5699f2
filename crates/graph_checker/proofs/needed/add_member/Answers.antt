use Rattle.std.proofs.Common.{◌≡◌, ◌<◌, List, Some, length, map, refl, sym, ap, subst, ◌∙◌, arith}
use Rattle.std.specs.Prelude.{slice_get, option_map}
use Rattle.std.proofs.lemmas.Option.{slice_get_read, slice_get-map}
use Rattle.std.proofs.lemmas.Result.{IfOk-weaker}
use Rattle.tac_ir.specs.declared.op.Op.{Op}
use Rattle.tac_ir.specs.States.{InFunction}
use Rattle.tac_ir.specs.Views.{tac_of, op_in, function_in}
use Rattle.heap_graph.specs.Marks.{Adds, IsNamedBy}
use Rattle.heap_graph.proofs.Adding.{adds_both}
use Rattle.graph_checker.specs.Programs.{family_of}
use Rattle.graph_checker.specs.Fits.{AllFit}
use Rattle.graph_checker.proofs.GroupsFit.{points_fit}
use Rattle.graph_checker.specs.Needed.{AnyOf, IsImageFrom}
use Rattle.graph_checker.proofs.Needing.{needed_in}
use Rattle.graph_checker.proofs.needed.add_member.Goals as goal

pub add_points-requires-clause-fit : goal.add_points-requires-clause-fit
add_points-requires-clause-fit c =
    let program = c.args.program in
    let table = program.tac.now.types in
    let number = c.args.member.0 in
    let definitions = program.tac.now.functions.items in
    let code = c.index-code.result.now in
    let stored : slice_get definitions number ≡ Some code = slice_get_read definitions (length definitions) number code refl c.requires.within c.index-code.ensures in
    let defined : slice_get (tac_of program.tac.now).functions number ≡ Some (function_in table code) = slice_get-map (function_in table) definitions number ∙ ap (option_map (function_in table)) stored in
    subst (λ (l : List Op). AllFit program c.member-own.result.group (map (op_in table) l)) (sym c.as_slice.ensures.value)
    (subst (λ g. AllFit program g (map (op_in table) code.points.items)) (sym c.member-own.ensures.member.group)
    (points_fit program c.requires.program number c.requires.within (function_in table code) defined))

pub returns : goal.returns
returns c =
    let program = c.args.program in
    let family = family_of program in
    let table = program.tac.now.types in
    let number = c.args.member.0 in
    let functions = program.graphs.now.functions.items in
    let definitions = program.tac.now.functions.items in
    let own = c.index-graph.result.now in
    let code = c.index-code.result.now in
    let function = function_in table code in
    let within : number < length functions = omega (arith, c.requires.program.whole.functions, c.requires.within) in
    let there : slice_get functions number ≡ Some own = slice_get_read functions (length functions) number own refl within c.index-graph.ensures in
    let stored : slice_get definitions number ≡ Some code = slice_get_read definitions (length definitions) number code refl c.requires.within c.index-code.ensures in
    let defined : slice_get (tac_of program.tac.now).functions number ≡ Some function = slice_get-map (function_in table) definitions number ∙ ap (option_map (function_in table)) stored in
    let old = c.args.needed.now.marks in
    let mid = c.add_names.new.self.marks in
    let new = c.add_points.new.needed.marks in
    IfOk-weaker c.add_points.result _ _
    (λ _ adds.
    needed_in family functions number own function there defined old new
    (adds_both old mid new (IsNamedBy own.names) (AnyOf (IsImageFrom family (InFunction number)) function.points) c.add_names.ensures
    (subst (λ (l : List Op). Adds mid new (AnyOf (IsImageFrom family (InFunction number)) (map (op_in table) l))) c.as_slice.ensures.value (adds (InFunction number) c.member-own.ensures.member))))
    c.add_points.ensures
