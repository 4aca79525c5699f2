use Rattle.std.proofs.Common.{◌+◌, false, true, map, drop, refl, sym, ◌∙◌, arith}
use Rattle.std.proofs.lemmas.List.{at_drop_more, at_drop_all}
use Rattle.tac_ir.specs.Views.{object_in}
use Rattle.heap_graph.specs.Closed.{locals_closed}
use Rattle.graph_checker.proofs.Locals.{type_at, first_local}
use Rattle.graph_checker.proofs.objects.locals_closed.Goals as goal

pub loop-object-init : goal.loop-object-init
loop-object-init c = λ family owner graph names. refl

pub object_closed-requires-clause-some : goal.object_closed-requires-clause-some
object_closed-requires-clause-some c = c.requires.some c.loop-object.object-index _ (type_at c.args.types.now c.args.objects.now c.loop-object.object-index _ c.loop-object-test.true)

pub returns-then-not-object_closed : goal.returns-then-not-object_closed
returns-then-not-object_closed c =
    let table = c.args.types.now in
    let index = c.loop-object.object-index in
    λ family owner graph names.
    first_local table family owner c.args.graph.now c.args.names.now _ (drop (index + 1) c.args.objects.now) c.object-target.result false graph names c.object-target.ensures
    (sym c.if-not-object_closed.true ∙ c.object_closed.ensures)
    ∙ (sym (at_drop_more (λ objects. locals_closed family owner (map (object_in table) objects)) c.args.objects.now index _ c.loop-object-test.true)
    ∙ c.loop-object.invariant family owner graph names)

pub loop-object-preserved : goal.loop-object-preserved
loop-object-preserved c =
    let table = c.args.types.now in
    let index = c.loop-object.object-index in
    λ family owner graph names.
    first_local table family owner c.args.graph.now c.args.names.now _ (drop (index + 1) c.args.objects.now) c.object-target.result true graph names c.object-target.ensures
    (sym c.if-not-object_closed.false ∙ c.object_closed.ensures)
    ∙ (sym (at_drop_more (λ objects. locals_closed family owner (map (object_in table) objects)) c.args.objects.now index _ c.loop-object-test.true)
    ∙ c.loop-object.invariant family owner graph names)

pub returns : goal.returns
returns c =
    λ family owner graph names.
    sym (at_drop_all (λ objects. locals_closed family owner (map (object_in c.args.types.now) objects)) c.args.objects.now c.loop-object.object-index (omega arith))
    ∙ c.loop-object.invariant family owner graph names
