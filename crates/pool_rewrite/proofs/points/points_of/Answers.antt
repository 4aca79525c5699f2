use Rattle.std.proofs.Common.{◌≡◌, List, map, take, ap, ◌∙◌, arith}
use Rattle.std.proofs.lemmas.List.{take_all}
use Rattle.tac_ir.specs.declared.op.Op.{Op}
use Rattle.tac_ir.specs.Views.{op_in, tac_of}
use Rattle.pool_ir.specs.Views as V
use Rattle.pool_rewrite.specs.Rewriting as R
use Rattle.pool_rewrite.specs.Views.{function_plan_of}
use Rattle.pool_rewrite.proofs.MappedLists.{mapped_twice_next}
use Rattle.pool_rewrite.proofs.points.points_of.Goals as goal

pub loop-op-preserved : goal.loop-op-preserved
loop-op-preserved c = λ own frame told.
    let tac = c.args.tac.now in
    mapped_twice_next V.op_of (R.op_of (tac_of tac) (function_plan_of c.args.plan.now) own frame) (op_in tac.types) c.loop-op.made.items c.push.new.self.items c.in_ok-point_of.field-0 c.args.points.now c.loop-op.op-index c.op-item.result
    c.in_ok-push.ensures.items (c.in_ok-point_of.ensures own frame told) c.loop-op-test.true c.op-item.is (c.loop-op.invariant own frame told)

pub returns : goal.returns
returns c = λ own frame told.
    let tac = c.args.tac.now in
    let points = c.args.points.now in
    let all : take c.loop-op.op-index points ≡ points = take_all c.loop-op.op-index points (omega (arith, c.loop-op-test.false)) in
    c.loop-op.invariant own frame told ∙ ap (λ (ops : List Op). map (R.op_of (tac_of tac) (function_plan_of c.args.plan.now) own frame) (map (op_in tac.types) ops)) all
