use Rattle.std.proofs.Common.{◌≤◌, ◌*◌, List, sym, subst, arith}
use Rattle.c_typed.specs.Layouts.{greatest}
use Rattle.tac_ir.specs.declared.program.LocalObject.{LocalObject}
use Rattle.pool_rewrite.specs.Placing.{end_behind}
use Rattle.pool_rewrite.specs.Views.{function_plan_of}
use Rattle.pool_rewrite.specs.Rewritable.{local_layouts, word_count}
use Rattle.pool_rewrite.proofs.PlacedObjects.{front_inside}
use Rattle.pool_rewrite.proofs.frames.places_of.Goals as goal

pub front_of-front-requires : goal.front_of-front-requires
front_of-front-requires c =
    let function = c.args.function.now in
    let front = 8 * word_count (function_plan_of c.args.plan.now) function in
    let inside = front_inside c.args.types.now front function.objects.items in
    let within : end_behind front (local_layouts c.args.types.now function.objects.items) ≤ greatest = c.requires in
    omega (arith, inside, within)

pub placed-requires : goal.placed-requires
placed-requires c =
    let table = c.args.types.now in
    let function = c.args.function.now in
    let within : end_behind (8 * word_count (function_plan_of c.args.plan.now) function) (local_layouts table function.objects.items) ≤ greatest = c.requires in
    subst (λ n. end_behind n (local_layouts table c.as_slice.result.now) ≤ greatest) (sym c.front_of-front.ensures)
    (subst (λ (objects : List LocalObject). end_behind (8 * word_count (function_plan_of c.args.plan.now) function) (local_layouts table objects) ≤ greatest) (sym c.as_slice.ensures.value) within)
