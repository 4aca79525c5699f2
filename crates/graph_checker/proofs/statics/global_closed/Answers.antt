use Rattle.std.proofs.Common.{◌≡◌, Some, sym, ap, ◌∙◌}
use Rattle.c_typed.specs.Table.{structs_in, type_in}
use Rattle.heap_graph.specs.Frozen.{bare, optional_target, static_in}
use Rattle.graph_checker.specs.Objects.{is_static}
use Rattle.graph_checker.proofs.ClosedObjects.Found.{got_as}
use Rattle.graph_checker.proofs.statics.global_closed.Goals as goal

pub object_closed-requires-clause-some : goal.object_closed-requires-clause-some
object_closed-requires-clause-some c =
    let table = c.args.types.now in
    c.requires.some c.args.number.0 _ (got_as (λ global. type_in table global.c_type) c.args.globals.now c.args.number.0 c.get.result c.in-Some.global c.get.ensures.lookup c.in-Some.is)

pub returns-in-Some-global : goal.returns-in-Some-global
returns-in-Some-global c =
    let table = c.args.types.now in
    let graph = bare table c.args.graph.now in
    let c_type = type_in table c.in-Some.global.now.c_type in
    let target : optional_target (Some c.in-Some-global.target) ≡ static_in c.args.graph.now.globals c.args.number.0
    = sym (ap optional_target c.in-Some-global.is) ∙ c.global.ensures in
    c.object_closed.ensures
    ∙ ((λ i. is_static (structs_in table) graph (target i) (Some c_type))
    ∙ ap (is_static (structs_in table) graph (static_in c.args.graph.now.globals c.args.number.0))
    (sym (got_as (λ global. type_in table global.c_type) c.args.globals.now c.args.number.0 c.get.result c.in-Some.global c.get.ensures.lookup c.in-Some.is)))
