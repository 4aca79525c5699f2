use Rattle.std.proofs.Common.{◌++◌, map, refl, arith}
use Rattle.pool_ir.specs.Views.{frame_of, function_of, step_of}
use Rattle.stack_code.specs.Emitting.{step_code, steps_code}
use Rattle.stack_code.specs.Fitting.{StepFits}
use Rattle.stack_code.proofs.AppendedParts.{all_further, appended, appended_all}
use Rattle.stack_code.proofs.paths.push_steps.Goals as goal

pub push_step-requires-clause-fits : goal.push_step-requires-clause-fits
push_step-requires-clause-fits c =
    (all_further (StepFits (frame_of c.args.function.now.frame)) step_of c.args.steps.now c.loop-step.step-index c.step-item.result c.step-item.result c.loop-step-test.true c.step-item.is c.loop-step.invariant.fits).0

pub loop-step-preserved : goal.loop-step-preserved
loop-step-preserved c =
    let function = function_of c.args.function.now in
    let steps = c.args.steps.now in
    let step = c.step-item.result in
    record {
      fits = (all_further (StepFits (frame_of c.args.function.now.frame)) step_of steps c.loop-step.step-index step step c.loop-step-test.true c.step-item.is c.loop-step.invariant.fits).1;
      code = appended step_of (step_code function) (steps_code function) refl (λ _ _. refl) steps c.loop-step.step-index step step c.loop-step.code.items c.push_step.new.code.items
          (c.args.code.now.items ++ steps_code function (map step_of steps)) c.loop-step-test.true c.step-item.is c.in_ok-push_step.ensures c.loop-step.invariant.code;
    }

pub returns : goal.returns
returns c =
    let function = function_of c.args.function.now in
    let steps = c.args.steps.now in
    appended_all step_of (step_code function) (steps_code function) refl (λ _ _. refl) steps c.loop-step.step-index c.loop-step.code.items
    (c.args.code.now.items ++ steps_code function (map step_of steps)) (omega (arith, c.loop-step-test.false)) c.loop-step.invariant.code
