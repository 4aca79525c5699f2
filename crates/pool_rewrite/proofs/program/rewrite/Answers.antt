use Rattle.std.proofs.Common.{List, map, sym, subst, ◌∙◌, arith}
use Rattle.tac_ir.specs.declared.program.Function.{Function}
use Rattle.tac_ir.specs.Views.{function_in, tac_of}
use Rattle.pool_rewrite.specs.declared.plan.FunctionPlan.{FunctionPlan}
use Rattle.pool_rewrite.specs.Rewriting as R
use Rattle.pool_rewrite.specs.Rewritable.{FramesFit}
use Rattle.pool_rewrite.specs.Views.{function_plan_of}
use Rattle.pool_rewrite.proofs.program.rewrite.Goals as goal

pub functions_of-requires : goal.functions_of-requires
functions_of-requires c =
    let tac = c.args.tac.now in
    record {
      fit = subst (λ (plans : List FunctionPlan). FramesFit tac.types plans c.as_slice.result.now) (sym c.as_slice-plans.ensures.value)
          (subst (λ (functions : List Function). FramesFit tac.types c.args.plan.now.functions.items functions) (sym c.as_slice.ensures.value) c.requires.frames);
      found = c.in_ok-found.ensures;
    }

pub find-requires : goal.find-requires
find-requires c = record { literals = c.requires.literals; small = omega (arith, c.requires.statics) }

pub function_of-requires : goal.function_of-requires
function_of-requires c = record { fits = c.requires.start; found = c.in_ok-found.ensures }

pub returns : goal.returns
returns c =
    let tac = c.args.tac.now in
    let functions = c.in_ok-functions_of.ensures
    ∙ (λ i. R.functions_of (tac_of tac) (map function_plan_of (c.as_slice-plans.ensures.value i)) (map (function_in tac.types) (c.as_slice.ensures.value i))) in
    λ i. record {
      functions = functions i;
      start = c.in_ok-function_of.ensures i;
      kinds = (c.in_ok-from_slice.ensures.items ∙ c.as_slice-2.ensures.value) i;
      globals = c.in_ok-found.ensures.statics.size i;
      contents = c.in_ok-first_contents.ensures i;
    }
