use Rattle.std.proofs.Common.{arith, ap, ◌∙◌, [], ◌∷◌, ◌++◌}
use Rattle.std.proofs.lemmas.Result.{err_from_is_err_and}
use Rattle.c_syntax.specs.Views as views
use Rattle.c_reader.proofs.Reaching as Rows
use Rattle.c_reader.proofs.ItemRows as steps
use Rattle.c_reader.proofs.item.read_items.Goals as goal

pub loop-items-init : goal.loop-items-init
loop-items-init c =
    record { listed = Rows.listed_from _ _ _ _ _ _ _ c.new-items.ensures.items; within = omega arith }

pub returns-in_err-next : goal.returns-in_err-next
returns-in_err-next c =
    let p = err_from_is_err_and c.from_residual.result c.from_residual.ensures.1 in
    rw (p.1, p.2) (Rows.listed_fails _ c.loop-items.invariant.listed c.in_err-next.ensures.gives)

pub loop-items-smaller : goal.loop-items-smaller
loop-items-smaller c =
    omega (arith, steps.some_less c.in-Some.is c.in_ok-next.ensures.shorter)

pub loop-items-preserved : goal.loop-items-preserved
loop-items-preserved c =
    record { listed = Rows.listed_next _ _ _ _ _ c.loop-items.invariant.listed (c.in_ok-push-in-Some.ensures.items ∙ ap (λ v. c.loop-items.items.items ++ v ∷ []) c.in-Some.item-is) c.in-Some.is c.in_ok-next.ensures.gives; within = omega (arith, steps.some_less c.in-Some.is c.in_ok-next.ensures.shorter) }

pub returns-in-None : goal.returns-in-None
returns-in-None c =
    Rows.found_as (Rows.listed_end _ _ _ c.loop-items.invariant.listed c.in-None.is c.in_ok-next.ensures.gives) (Rows.folds_map views.item_tree c.loop-items.items.items)
