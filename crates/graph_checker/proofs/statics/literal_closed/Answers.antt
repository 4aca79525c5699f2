use Rattle.std.proofs.Common.{◌≡◌, Some, sym, ap, ◌∙◌}
use Rattle.c_typed.specs.Table.{structs_in, type_in}
use Rattle.heap_graph.specs.Frozen.{bare, optional_target, static_in}
use Rattle.graph_checker.specs.Objects.{is_static}
use Rattle.graph_checker.proofs.ClosedObjects.Found.{got_as}
use Rattle.graph_checker.proofs.statics.literal_closed.Goals as goal

pub object_closed-requires-clause-some : goal.object_closed-requires-clause-some
object_closed-requires-clause-some c =
    let table = c.args.types.now in
    c.requires.some c.args.number.0 _ (got_as (λ literal. type_in table literal.c_type) c.args.literals.now c.args.number.0 c.get.result c.in-Some.literal c.get.ensures.lookup c.in-Some.is)

pub returns-in-Some-literal : goal.returns-in-Some-literal
returns-in-Some-literal c =
    let table = c.args.types.now in
    let graph = bare table c.args.graph.now in
    let c_type = type_in table c.in-Some.literal.now.c_type in
    let target : optional_target (Some c.in-Some-literal.target) ≡ static_in c.args.graph.now.literals c.args.number.0
    = sym (ap optional_target c.in-Some-literal.is) ∙ c.literal.ensures in
    c.object_closed.ensures
    ∙ ((λ i. is_static (structs_in table) graph (target i) (Some c_type))
    ∙ ap (is_static (structs_in table) graph (static_in c.args.graph.now.literals c.args.number.0))
    (sym (got_as (λ literal. type_in table literal.c_type) c.args.literals.now c.args.number.0 c.get.result c.in-Some.literal c.get.ensures.lookup c.in-Some.is)))
