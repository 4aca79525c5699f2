use Rattle.std.proofs.Common.{ap, sym, ◌∙◌}
use Rattle.c_typed.specs.Types.{CType}
use Rattle.c_typed.specs.Table.{types_in}
use Rattle.tac_ir.specs.States.{InFunction}
use Rattle.heap_graph.specs.Closed.{parameters_in, parameters_of, formals_closed}
use Rattle.heap_graph.specs.Frozen.{target_in}
use Rattle.graph_checker.specs.Formals.{have_targets}
use Rattle.graph_checker.proofs.Formal.{formals_shown}
use Rattle.graph_checker.proofs.formals.formals_closed.Goals as goal

pub returns-in-Function : goal.returns-in-Function
returns-in-Function c =
    let table = c.args.types.now in
    let types = parameters_in (types_in table c.in-Function.parameters) in
    λ family function shows.
    c.have_targets.ensures
    ∙ (ap (λ targets. have_targets (target_in targets) 0 types) c.as_slice.ensures.value
    ∙ (formals_shown family function c.args.names.now shows 0 types
    ∙ ap (λ (c_type : CType). formals_closed family (InFunction function) function 0 (parameters_of c_type)) (sym c.in-Function.ensures.means ∙ c.number_of.ensures.means)))
