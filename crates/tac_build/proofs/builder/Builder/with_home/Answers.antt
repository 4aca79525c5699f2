use Rattle.std.proofs.Common.{refl}
use Rattle.tac_build.specs.declared.builder.Builder.{Builder}
use Rattle.tac_build.proofs.FirstStores.{pushed_spot, same_spot}
use Rattle.tac_build.proofs.builder.Builder.with_home.Goals as goal

pub returns-in_ok-push-clause-spot : goal.returns-in_ok-push-clause-spot
returns-in_ok-push-clause-spot c = λ table.
    let new : Builder = record c.args.self.now { objects = c.push.new.self } in
    pushed_spot table c.args.home c.args.self.now new c.if-home.true refl refl c.in_ok-push.ensures.items

pub returns-else-home-clause-spot : goal.returns-else-home-clause-spot
returns-else-home-clause-spot c = λ table. same_spot table c.args.home c.args.self.now c.if-home.false
