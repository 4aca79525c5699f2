use Rattle.std.proofs.Common.{reverse}
use Rattle.machine.proofs.Performing.{only_frees}
use Rattle.machine.proofs.calls.Calls.perform_in_pools.Goals as goal

pub returns-in-PoolDestroy : goal.returns-in-PoolDestroy
returns-in-PoolDestroy c = λ code function k h. rw (c.in-PoolDestroy.is, ← c.self.view_is) (c.destroy_pool.ensures.performs code function (reverse c.self.inside.callers.items))

pub returns-in-PoolAlloc : goal.returns-in-PoolAlloc
returns-in-PoolAlloc c = λ code function k h. rw (c.in-PoolAlloc.is, ← c.self.view_is) (c.allocate.ensures.performs code function (reverse c.self.inside.callers.items))

pub returns-in_default : goal.returns-in_default
returns-in_default c = λ code function k h.
    let is = only_frees c.args.instr c.requires.pools c.in_default.not-PoolInit c.in_default.not-PoolDestroy c.in_default.not-PoolAlloc in
    rw (is, ← c.self.view_is) (c.free.ensures.performs code function (reverse c.self.inside.callers.items))
