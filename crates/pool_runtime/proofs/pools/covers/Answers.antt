use Rattle.std.proofs.Common.{sym}
use Rattle.pool_runtime.proofs.Covering.{nothing_found, no_pool_found, pool_found}
use Rattle.pool_runtime.proofs.pools.covers.Goals as goal

pub returns-in_default : goal.returns-in_default
returns-in_default c = nothing_found c.args.slabs.now c.args.pools.now c.args.address c.args.width c.in_default.ensures

pub returns-in-None : goal.returns-in-None
returns-in-None c = no_pool_found c.args.slabs.now c.args.pools.now c.args.address c.args.width c.in-Some.found c.in-Some.ensures (sym c.in-None.ensures.value)

pub returns-in-Some-get : goal.returns-in-Some-get
returns-in-Some-get c =
    pool_found c.args.slabs.now c.args.pools.now c.args.address c.args.width c.in-Some.found c.in-Some.ensures c.in-Some-get.pool.now c.covers.result (sym c.in-Some-get.ensures.value) c.covers.ensures
