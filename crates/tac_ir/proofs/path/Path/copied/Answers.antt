use Rattle.std.proofs.Common.{◌≡◌, map, ap, ◌∙◌, arith}
use Rattle.std.proofs.lemmas.List.{take_all}
use Rattle.tac_ir.specs.Views.{step_of}
use Rattle.tac_ir.proofs.path.Path.copied.Goals as goal

pub returns : goal.returns
returns c =
    let items = c.deref-step-items.result.now in
    let whole = take_all c.loop-step.step-index items (omega (arith, c.loop-step-test.false, c.deref-step-items.ensures.len, c.loop-step.auto.step-index-end)) in
    let steps : map step_of c.loop-step.steps.items ≡ map step_of c.args.self.now.steps.items = c.loop-step.invariant.steps ∙ ap (map step_of) (whole ∙ c.deref-step-items.ensures.value) in
    λ table i. record { base = c.loop-step.invariant.base table i; steps = steps i }
