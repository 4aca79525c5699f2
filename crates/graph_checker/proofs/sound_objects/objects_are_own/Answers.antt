use Rattle.std.proofs.Common.{sym, ap, ◌∙◌}
use Rattle.std.proofs.lemmas.Bool.{false≢true}
use Rattle.graph_checker.specs.Tests.{parameter_numbers, variable_numbers}
use Rattle.graph_checker.proofs.OwnTold.{marks_moved, objects_told, parameters_pass, variables_pass}
use Rattle.graph_checker.proofs.sound_objects.objects_are_own.Goals.{then-are_marked, else-are_marked}
use Rattle.graph_checker.proofs.sound_objects.objects_are_own.Goals as goal

pub returns : goal.returns
returns c = λ table.
    let function = c.args.function.now in
    let names = c.args.names.now in
    let parameters = c.in_ok-own_parameters.own_parameters.items in
    let variables = c.in_ok-own_variables.own_variables.items in
    let parameter_marks = marks_moved _ _ _ _ parameters c.in_ok-own_parameters.ensures (c.len.ensures ∙ names.parameter_objects.ok.0)
    (c.as_slice-2.ensures.value ∙ (c.in_ok-own.ensures.parameters ∙ ap parameter_numbers c.as_slice.ensures.value)) in
    let variable_marks = marks_moved _ _ _ _ variables c.in_ok-own_variables.ensures (c.len-2.ensures ∙ names.variable_objects.ok.0)
    (c.as_slice-3.ensures.value ∙ (c.in_ok-own.ensures.variables ∙ ap variable_numbers c.as_slice.ensures.value)) in
    elim c.if-are_marked.branch [
      | then-are_marked w ↦ (
        λ is. objects_told table function names parameters variables parameter_marks variable_marks (c.are_marked.ensures.0 w.if-are_marked.true) (w.are_marked-then-are_marked.ensures.0 (sym w.result-is ∙ is)),
        λ told. w.result-is ∙ w.are_marked-then-are_marked.ensures.1 (variables_pass table function names parameters variables parameter_marks variable_marks told),
      )
      | else-are_marked w ↦ (
        λ is. absurd (false≢true (sym w.if-are_marked.false ∙ (sym w.result-is ∙ is))),
        λ told. w.result-is ∙ c.are_marked.ensures.1 (parameters_pass table function names parameters variables parameter_marks variable_marks told),
      )
    ]
