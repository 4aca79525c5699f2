use Rattle.pool_rewrite.proofs.MadePoints.{access_made, pooled_made}
use Rattle.pool_rewrite.proofs.points.point_of.Goals as goal

pub returns-in-Address : goal.returns-in-Address
returns-in-Address c = access_made c.args.tac.now c.args.plan.now c.args.locals.now c.args.op.now c.access_point.result c.access_point.ensures

pub returns-in-Load : goal.returns-in-Load
returns-in-Load c = access_made c.args.tac.now c.args.plan.now c.args.locals.now c.args.op.now c.access_point-in-Load.result c.access_point-in-Load.ensures

pub returns-in-Store : goal.returns-in-Store
returns-in-Store c = access_made c.args.tac.now c.args.plan.now c.args.locals.now c.args.op.now c.access_point-in-Store.result c.access_point-in-Store.ensures

pub returns-in-Allocate : goal.returns-in-Allocate
returns-in-Allocate c = pooled_made c.args.tac.now c.args.plan.now c.args.locals.now c.args.op.now c.pool_point.result c.pool_point.ensures

pub returns-in-Free : goal.returns-in-Free
returns-in-Free c = pooled_made c.args.tac.now c.args.plan.now c.args.locals.now c.args.op.now c.pool_point-in-Free.result c.pool_point-in-Free.ensures

pub returns-in-Call : goal.returns-in-Call
returns-in-Call c = pooled_made c.args.tac.now c.args.plan.now c.args.locals.now c.args.op.now c.pool_point-in-Call.result c.pool_point-in-Call.ensures
