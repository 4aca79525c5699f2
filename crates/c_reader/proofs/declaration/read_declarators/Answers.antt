use Rattle.std.proofs.Common.{arith, ap, ◌∙◌, [], ◌∷◌, ◌++◌}
use Rattle.std.proofs.lemmas.Result.{err_from_is_err_and}
use Rattle.c_syntax.specs.Views as views
use Rattle.c_reader.proofs.Reaching as Rows
use Rattle.c_reader.proofs.declaration.read_declarators.Goals as goal

pub loop-declarators-init : goal.loop-declarators-init
loop-declarators-init c =
    record { listed = Rows.listed_from _ _ _ _ _ _ _ (c.in_ok-push.ensures.items ∙ ap (λ vs. vs ++ c.args.first ∷ []) c.new-declarators.ensures.items); within = omega arith }

pub returns-in_err-next-clause-gives : goal.returns-in_err-next-clause-gives
returns-in_err-next-clause-gives c =
    let p = err_from_is_err_and c.from_residual-in_err-next.result c.from_residual-in_err-next.ensures.1 in
    rw (p.1, p.2) (Rows.listed_fails _ c.loop-declarators.invariant.listed c.in_err-next.ensures.gives)

pub loop-declarators-smaller : goal.loop-declarators-smaller
loop-declarators-smaller c =
    omega (arith, c.in_ok-next.ensures.shorter)

pub returns-in-None-clause-shorter : goal.returns-in-None-clause-shorter
returns-in-None-clause-shorter c =
    omega (arith, c.in_ok-next.ensures.shorter)

pub loop-declarators-preserved : goal.loop-declarators-preserved
loop-declarators-preserved c =
    record { listed = Rows.listed_next _ _ _ _ _ c.loop-declarators.invariant.listed (c.in_ok-push-in-Some.ensures.items ∙ ap (λ v. c.loop-declarators.declarators.items ++ v ∷ []) c.in-Some.declarator-is) c.in-Some.is c.in_ok-next.ensures.gives; within = omega (arith, c.in_ok-next.ensures.shorter) }

pub returns-in-None-clause-gives : goal.returns-in-None-clause-gives
returns-in-None-clause-gives c =
    Rows.found_as (Rows.listed_end _ _ _ c.loop-declarators.invariant.listed c.in-None.is c.in_ok-next.ensures.gives) (Rows.folds_map views.init_declarator_tree c.loop-declarators.declarators.items)
