use Rattle.std.proofs.Common.{◌≡◌, List, [], ◌∷◌, ◌++◌, map, take, ap, ◌∙◌, arith}
use Rattle.std.proofs.lemmas.List.{take_all}
use Rattle.slab_space.specs.declared.kind.PoolKind.{PoolKind}
use Rattle.slab_space.specs.declared.kind.PoolKind.TheVariants.{Mixed}
use Rattle.tac_ir.specs.declared.program.Function.{Function}
use Rattle.tac_ir.specs.Views.{function_in}
use Rattle.pool_rewrite.specs.Plan as spec
use Rattle.pool_rewrite.specs.Views.{function_plan_of}
use Rattle.pool_rewrite.proofs.MappedLists.{mapped_twice_next}
use Rattle.pool_rewrite.proofs.single.one_pool.Goals as goal

pub loop-function-preserved : goal.loop-function-preserved
loop-function-preserved c =
    let types = c.args.tac.now.types in
    let function = c._function-item.result in
    mapped_twice_next function_plan_of spec.one_pool_function (function_in types) c.loop-function.functions.items c.push-in-loop-function.new.self.items c.in_ok-function_plan.field-0
    c.deref-function-items.result.now c.loop-function._function-index function c.in_ok-push-2.ensures.items (c.in_ok-function_plan.ensures (function_in types function))
    (omega (arith, c.loop-function-test.true, c.deref-function-items.ensures.len, c.loop-function.auto._function-index-end)) c._function-item.is c.loop-function.invariant

pub returns : goal.returns
returns c =
    let tac = c.args.tac.now in
    let items = c.deref-function-items.result.now in
    let whole : take c.loop-function._function-index items ≡ items =
    take_all c.loop-function._function-index items (omega (arith, c.loop-function-test.false, c.deref-function-items.ensures.len, c.loop-function.auto._function-index-end)) in
    let kinds : c.push.new.self.items ≡ Mixed ∷ [] = c.in_ok-push.ensures.items ∙ ap (λ (kinds : List PoolKind). kinds ++ Mixed ∷ []) c.new-kinds.ensures.items in
    let functions : map function_plan_of c.loop-function.functions.items ≡ map spec.one_pool_function (map (function_in tac.types) tac.functions.items) =
    c.loop-function.invariant ∙ ap (λ (functions : List Function). map spec.one_pool_function (map (function_in tac.types) functions)) (whole ∙ c.deref-function-items.ensures.value) in
    λ i. record { kinds = kinds i; functions = functions i; start = c.in_ok-start.ensures i }
