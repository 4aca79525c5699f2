use Rattle.std.proofs.Common.{◌≡◌, Some, sym, subst}
use Rattle.slab_space.specs.Space.{Space}
use Rattle.slab_space.specs.Pools.{store_step}
use Rattle.pool_runtime.specs.Tables.{IsPools}
use Rattle.pool_runtime.specs.Seen.{pools_of}
use Rattle.pool_runtime.proofs.Loads.{have_sizes, word_held}
use Rattle.pool_runtime.proofs.Written.{stored, is_stored, not_stored}
use Rattle.pool_runtime.proofs.pools.Pools.store.Goals as goal

pub covers-there-requires-clause-sizes : goal.covers-there-requires-clause-sizes
covers-there-requires-clause-sizes c = have_sizes c.self.inside c.self.invariant

pub write_word-requires-clause-held : goal.write_word-requires-clause-held
write_word-requires-clause-held c = word_held c.self.inside c.self.invariant c.args.address c.args.width c.requires.least c.if-there.ensures

pub invariant_of-self : goal.invariant_of-self
invariant_of-self c =
    subst (λ (space : Space). IsPools (record c.self.inside { slabs = record c.self.inside.slabs { space = space } })) (sym c.write_word.ensures)
    (is_stored c.self.inside c.self.invariant c.args.address c.args.width c.args.word c.requires.least c.if-there.ensures)

pub returns-then-there-clause-step : goal.returns-then-there-clause-step
returns-then-there-clause-step c =
    rw (← c.self.view_is, c.if-there.true)
    (subst (λ (space : Space). store_step (pools_of c.self.inside) c.args.address c.args.width c.args.word ≡ Some (pools_of (record c.self.inside { slabs = record c.self.inside.slabs { space = space } }))) (sym c.write_word.ensures)
    (stored c.self.inside c.self.invariant c.args.address c.args.width c.args.word c.requires.least c.if-there.ensures))

pub returns-else-there-clause-step : goal.returns-else-there-clause-step
returns-else-there-clause-step c =
    rw (← c.self.view_is, c.if-there.false) (not_stored c.self.inside c.self.invariant c.args.address c.args.width c.args.word c.requires.least c.if-there.ensures)
