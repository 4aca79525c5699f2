use Rattle.std.proofs.Common.{◌∙◌, ◌*◌, ap, length}
use Rattle.std.proofs.lemmas.List.{length-replicate}
use Rattle.run_theory.specs.Words.{zeros}
use Rattle.pool_runtime.proofs.Undone.{new_space}
use Rattle.pool_runtime.proofs.slabs.Slabs.new.Goals as goal

pub returns-clause-space : goal.returns-clause-space
unfolding zeros
returns-clause-space c = new_space c.new.result c.args.limit c.requires.most c.new.ensures.owners (ap length c.new.ensures.bytes ∙ length-replicate (4096 * c.args.limit) 0)
