use Rattle.std.proofs.Common.{arith}
use Rattle.std.proofs.lemmas.Grind.{common_steps}
use Rattle.pool_runtime.proofs.pool.add_class.Goals as goal

pub returns : goal.returns
returns c = record { cells = c.new.result; items = grind (arith, common_steps); sized = c.new.ensures.size; none = record { runs = c.new.ensures.runs; live = c.new.ensures.live; made = c.new.ensures.made; freed = c.new.ensures.freed } }
