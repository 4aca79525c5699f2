-- Rewritten code fits where lowered code is in its ranges.
use Rattle.std.proofs.Common.{◌≡◌, ℕ, ◌≤◌, List, Option, Some, None, refl, ap, subst, arith}
use Rattle.std.specs.Prelude.{unwrap_or}
use Rattle.c_typed.specs.Typed.{Program}
use Rattle.c_typed.specs.Programs.{IsWellTyped}
use Rattle.c_typed.specs.TypedNodes.{program_nodes, greatest_nodes}
use Rattle.c_rules.specs.Named.{NamedType}
use Rattle.c_types.specs.Limits.{exceeded}
use Rattle.tac_ir.specs.Code.{Function, Tac}
use Rattle.tac_ir.specs.States.{Owner, InStart, InFunction, function_of}
use Rattle.tac_build.specs.ProgramCode.{Code}
use Rattle.pool_ir.specs.Code.{FrameLayout}
use Rattle.pool_rewrite.specs.Plan.{FunctionPlan, Plan, one_pool}
use Rattle.pool_rewrite.specs.Placing.{frame_of}
use Rattle.pool_rewrite.specs.Rewriting.{rewritten}
use Rattle.pool_simulation.specs.InStep.{plan_for, frame_for, greatest_frame, Fits}
use Rattle.pool_simulation.proofs.FirstObjects.{exact_by_fit}
use Rattle.pool_simulation.proofs.LiteralBytes.{length-first_contents}
use Rattle.backend_correct.specs.Descriptors.{FewDescriptors}
use Rattle.backend_correct.proofs.Ranges.{ranges, one_pool_few}
use Rattle.stack_code.specs.Fitting.{CodeFits}
use Rattle.backend_correct.specs.Planned.{Planned}
use Rattle.backend_correct.proofs.Fitting.{SmallFrames, code_fits, one_pool_planned}

module _ (tac : Tac) (plan : Plan) (fits : Fits tac plan) where
  own_frame : (owner : Owner) (function : Function) → function_of tac owner ≡ Some function → (frame_of tac.structs (plan_for plan owner) function).size ≤ greatest_frame
  own_frame owner function is = subst (λ (frame : FrameLayout). frame.size ≤ greatest_frame) (same owner function is) (fits.frames owner)
    where
      same : (owner : Owner) (function : Function) → function_of tac owner ≡ Some function → frame_for tac plan owner ≡ frame_of tac.structs (plan_for plan owner) function
      same owner function is = rw is refl

  frames_small : SmallFrames tac plan
  frames_small = record {
    functions = λ number own function served is.
        subst (λ (own : FunctionPlan). (frame_of tac.structs own function).size ≤ greatest_frame) (ap (λ (found : Option FunctionPlan). unwrap_or found plan.start) served) (own_frame (InFunction number) function is);
    start = own_frame InStart tac.start refl;
  }

-- Code that a plan makes of lowered code fits, where the plan keeps to its descriptors.
pub rewritten_fits : (program : Program) (tac : Tac) → Code program tac → (most : ℕ) (plan : Plan) → Planned most plan → Fits tac plan → CodeFits most (rewritten plan tac)
rewritten_fits program tac code most plan planned fits =
    code_fits program tac code most plan planned (frames_small tac plan fits) (let long = length-first_contents tac (exact_by_fit tac fits.statics) in omega (arith, long)) fits.statics

-- That of one pool fits, with one action at a place.
pub one_pool_rewritten_fits : (program : Program) (tac : Tac) → Code program tac → Fits tac (one_pool tac) → CodeFits 1 (rewritten (one_pool tac) tac)
one_pool_rewritten_fits program tac code fits = rewritten_fits program tac code 1 (one_pool tac) (one_pool_planned tac) fits

-- So does the code that a plan with few descriptors makes of an accepted program's.
pub accepted_fits : (program : Program) (tac : Tac) (named_types : List NamedType) → Code program tac → IsWellTyped program → exceeded program named_types ≡ None → program_nodes program ≤ greatest_nodes
    → (most : ℕ) (plan : Plan) → Planned most plan → FewDescriptors plan → CodeFits most (rewritten plan tac)
accepted_fits program tac named_types code well none few most plan planned within = rewritten_fits program tac code most plan planned (ranges program tac named_types code well none few plan within)

pub one_pool_accepted_fits : (program : Program) (tac : Tac) (named_types : List NamedType) → Code program tac → IsWellTyped program → exceeded program named_types ≡ None → program_nodes program ≤ greatest_nodes
    → CodeFits 1 (rewritten (one_pool tac) tac)
one_pool_accepted_fits program tac named_types code well none few =
    accepted_fits program tac named_types code well none few 1 (one_pool tac) (one_pool_planned tac) (one_pool_few tac)
