use Rattle.std.proofs.Common.{Some, ◌∙◌, ap}
use Rattle.pool_runtime.proofs.Loads.{have_sizes, word_held, loaded, not_loaded}
use Rattle.pool_runtime.proofs.pools.Pools.load.Goals as goal

pub covers-requires-clause-sizes : goal.covers-requires-clause-sizes
covers-requires-clause-sizes c = have_sizes c.self.inside c.self.invariant

pub read_word-requires-clause-held : goal.read_word-requires-clause-held
read_word-requires-clause-held c = word_held c.self.inside c.self.invariant c.args.address c.args.width c.requires.least c.if-covers.ensures

pub returns-then-covers-clause-step : goal.returns-then-covers-clause-step
returns-then-covers-clause-step c = rw (← c.self.view_is) (ap Some c.read_word.ensures.word ∙ loaded c.self.inside c.self.invariant c.args.address c.args.width c.requires.least c.if-covers.ensures)

pub returns-else-covers-clause-step : goal.returns-else-covers-clause-step
returns-else-covers-clause-step c = rw (← c.self.view_is) (not_loaded c.self.inside c.self.invariant c.args.address c.args.width c.requires.least c.if-covers.ensures)
