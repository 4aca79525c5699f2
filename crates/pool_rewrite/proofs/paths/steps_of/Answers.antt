use Rattle.std.proofs.Common.{◌≡◌, List, [], ◌++◌, map, drop, sym, ap, ◌∙◌, arith}
use Rattle.std.proofs.lemmas.List.{append-nil, drop_all}
use Rattle.c_typed.specs.Table.{structs_in}
use Rattle.tac_ir.specs.declared.path.Step.{Step}
use Rattle.tac_ir.specs.Views as T
use Rattle.pool_ir.specs.declared.path.Step as O
use Rattle.pool_ir.specs.Views as V
use Rattle.pool_rewrite.specs.Rewriting as R
use Rattle.pool_rewrite.specs.Rewritable.{known_type}
use Rattle.pool_rewrite.proofs.TypedParts.{steps_further}
use Rattle.pool_rewrite.proofs.paths.steps_of.Goals as goal

pub loop-step-init : goal.loop-step-init
loop-step-init c =
    ap (λ (made : List O.Step). map V.step_of made ++ R.steps_of (structs_in c.args.types.now) (known_type c.args.types.now c.args.whole) (map T.step_of c.args.steps.now)) c.new-made.ensures.items

pub loop-step-preserved : goal.loop-step-preserved
loop-step-preserved c =
    steps_further c.args.types.now c.loop-step.c_type c.args.steps.now c.loop-step.step-index c.step-item.result c.loop-step.made.items c.push.new.self.items
    (R.steps_of (structs_in c.args.types.now) (known_type c.args.types.now c.args.whole) (map T.step_of c.args.steps.now)) c.in_ok-next.next
    c.loop-step-test.true c.step-item.is c.in_ok-push.ensures.items c.in_ok-next.ensures c.loop-step.invariant

pub returns : goal.returns
returns c =
    let steps = c.args.steps.now in
    let made = map V.step_of c.loop-step.made.items in
    let past : drop c.loop-step.step-index steps ≡ [] = drop_all c.loop-step.step-index steps (omega (arith, c.loop-step-test.false)) in
    sym (append-nil made)
    ∙ (ap (λ (others : List Step). made ++ R.steps_of (structs_in c.args.types.now) (known_type c.args.types.now c.loop-step.c_type) (map T.step_of others)) (sym past) ∙ c.loop-step.invariant)
