use Rattle.std.proofs.Common.{sym, ◌∙◌}
use Rattle.pool_runtime.proofs.Loads.{have_sizes}
use Rattle.pool_runtime.proofs.Numbers.{index_some, index_none, index_other, index_gone}
use Rattle.pool_runtime.proofs.pools.Pools.index.Goals as goal

pub index-requires : goal.index-requires
index-requires c = record { sizes = have_sizes c.self.inside c.self.invariant c.args.id.0 c.in-Some-get.pool.now (sym c.in-Some-get.ensures.value) }

pub returns-in_default : goal.returns-in_default
returns-in_default c = rw (← c.self.view_is) (index_none c.self.inside c.self.invariant c.args.id.0 c.args.address c.in_default.ensures)

pub returns-then-found-id : goal.returns-then-found-id
returns-then-found-id c = rw (← c.self.view_is) (index_other c.self.inside c.self.invariant c.args.id.0 c.args.address c.in-Some.found c.in-Some.ensures c.if-found-id.true)

pub returns-in-Some-get : goal.returns-in-Some-get
returns-in-Some-get c = rw (← c.self.view_is) (c.index.ensures ∙ index_some c.self.inside c.self.invariant c.args.id.0 c.args.address c.in-Some-get.pool.now (sym c.in-Some-get.ensures.value) c.in-Some.found c.in-Some.ensures)

pub returns-in-None : goal.returns-in-None
returns-in-None c = rw (← c.self.view_is) (index_gone c.self.inside c.self.invariant c.args.id.0 c.args.address (sym c.in-None.ensures.value))
