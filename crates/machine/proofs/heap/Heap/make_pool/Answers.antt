use Rattle.std.proofs.Common.{◌≡◌, suc, length, ◌∙◌, arith}
use Rattle.slab_space.specs.Pools.{init_step}
use Rattle.pool_isa.specs.Tally as counted
use Rattle.machine.specs.Heaps.{tally_of}
use Rattle.machine.proofs.heap.Heap.make_pool.Goals as goal

pub returns-clause-ok : goal.returns-clause-ok
returns-clause-ok c =
    let pools : c.init.new.self ≡ init_step c.args.self.now.pools c.args.kind = c.in_ok-pool.ensures.ok in
    let number : c.in_ok-pool.field-0.0 ≡ suc (length c.args.self.now.pools.pools) = c.in_ok-pool.ensures.number ∙ omega arith in
    let tally : tally_of c.pool_made.new.self ≡ counted.pool_made c.args.site (suc (length c.args.self.now.pools.pools)) (tally_of c.args.self.now.tally) = c.pool_made.ensures ∙ (λ i. counted.pool_made c.args.site (number i) (c.reserve.ensures.same i)) in
    λ i. record { globals = c.args.self.now.globals; pools = pools i; tally = tally i }
