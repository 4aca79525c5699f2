use Rattle.tac_build.proofs.Points.{on_ok_then}
use Rattle.tac_build.proofs.FirstStores.{begins_register}
use Rattle.tac_build.proofs.builder.Builder.begin.Goals as goal

pub returns-then-home-clause-code : goal.returns-then-home-clause-code
returns-then-home-clause-code c = c.store_first.ensures.code

pub returns-else-home-clause-code : goal.returns-else-home-clause-code
returns-else-home-clause-code c = on_ok_then c.write.result (λ code. begins_register c.args.types.now c.args.home c.args.value c.args.self.now c.write.new.self c.if-home.false code) c.write.ensures.code
