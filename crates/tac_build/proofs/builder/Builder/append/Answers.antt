use Rattle.std.proofs.Common.{refl}
use Rattle.tac_build.specs.declared.builder.Builder.{Builder}
use Rattle.tac_build.proofs.Points.{emits_appended, grows_appended}
use Rattle.tac_build.proofs.builder.Builder.append.Goals as goal

pub returns-clause-code : goal.returns-clause-code
returns-clause-code c = λ table.
    let new : Builder = record c.args.self.now { points = c.push.new.self } in
    emits_appended table c.args.self.now new c.args.op c.requires.filled c.in_ok-push.ensures.items refl refl

pub returns-clause-grows : goal.returns-clause-grows
returns-clause-grows c =
    let new : Builder = record c.args.self.now { points = c.push.new.self } in
    grows_appended c.args.self.now new c.args.op c.in_ok-push.ensures.items
