-- Points of each kind are made as the code with pools has them.
use Rattle.std.proofs.Common.{Result, Ok, Err, IfOk, refl}
use Rattle.pool_ir.specs.declared.op.Op as pool_op
use Rattle.tac_ir.specs.declared.op.Op as tac_op
use Rattle.tac_ir.specs.declared.program.Tac as memory_tac
use Rattle.tac_ir.specs.Views.{tac_of}
use Rattle.pool_rewrite.specs.declared.locals.Locals.{Locals}
use Rattle.pool_rewrite.specs.declared.plan.FunctionPlan as memory_plan
use Rattle.pool_rewrite.specs.Views.{function_plan_of}
use Rattle.pool_rewrite.specs.Made.{MakesPlain, MakesSized, MakesAccess, MakesPooled, MakesPoint}

module _ {E : Type 0} (tac : memory_tac.Tac) (plan : memory_plan.FunctionPlan) (locals : Locals) (op : tac_op.Op) where
  pub plain_made : (result : Result pool_op.Op E) → IfOk result (λ made. MakesPlain op made) → IfOk result (λ made. MakesPoint tac plan locals op made)
  plain_made (Ok made) h = λ own frame told. h tac.types (tac_of tac) (function_plan_of plan) own frame
  plain_made (Err error) h = tt

  pub sized_made : (result : Result pool_op.Op E) → IfOk result (λ made. MakesSized tac.types op made) → IfOk result (λ made. MakesPoint tac plan locals op made)
  sized_made (Ok made) h = λ own frame told. h (tac_of tac) (function_plan_of plan) own frame refl
  sized_made (Err error) h = tt

  pub access_made : (result : Result pool_op.Op E) → IfOk result (λ made. MakesAccess tac locals op made) → IfOk result (λ made. MakesPoint tac plan locals op made)
  access_made (Ok made) h = λ own frame told. h (function_plan_of plan) own frame told
  access_made (Err error) h = tt

  pub pooled_made : (result : Result pool_op.Op E) → IfOk result (λ made. MakesPooled tac plan op made) → IfOk result (λ made. MakesPoint tac plan locals op made)
  pooled_made (Ok made) h = λ own frame told. h own frame
  pooled_made (Err error) h = tt
