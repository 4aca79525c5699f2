use Rattle.std.proofs.Common.{◌≡◌, ◌++◌, List, subst, ◌∙◌, append_assoc}
use Rattle.std.proofs.lemmas.Result.{IfOk-weaker}
use Rattle.tac_ir.specs.declared.program.Function.{Function}
use Rattle.call_graph.specs.RowLists.{gathered}
use Rattle.call_graph.specs.TakenLists.{NumbersFunctions, at_point, at_function, at_global}
use Rattle.call_graph.proofs.TakenAgree.{tells_taken}
use Rattle.call_graph.proofs.taken.taken_functions.Goals as goal

pub returns : goal.returns
returns c =
    let tac = c.args.tac.now in
    let names = c.in_ok-names.names in
    let numbered = subst (λ (l : List Function). NumbersFunctions names 0 l) c.as_slice.ensures.value c.in_ok-names.ensures in
    let functions = gathered at_function tac.functions.items in
    let points = gathered at_point tac.start.points.items in
    let globals = gathered (at_global names) tac.globals.items in
    let one : c.add_functions.new.taken.items ≡ functions = c.in_ok-add_functions.ensures ∙ (λ i. c.new-taken.ensures.items i ++ gathered at_function (c.as_slice-2.ensures.value i)) in
    let two : c.add_points.new.taken.items ≡ functions ++ points = c.in_ok-add_points.ensures ∙ (λ i. one i ++ gathered at_point (c.as_slice-3.ensures.value i)) in
    let three : c.add_globals.new.taken.items ≡ (functions ++ points) ++ globals = c.in_ok-add_globals.ensures ∙ (λ i. two i ++ gathered (at_global names) (c.as_slice-4.ensures.value i)) in
    IfOk-weaker c.marks.result _ _ (λ made told.
    tells_taken tac names c.as_slice-5.result.now made.items c.len.result numbered (c.as_slice-5.ensures.value ∙ (three ∙ append_assoc functions points globals)) (c.len.ensures ∙ tac.functions.ok.0) told) c.marks.ensures
