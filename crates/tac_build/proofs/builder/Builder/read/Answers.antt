use Rattle.tac_ir.specs.Views.{path_in}
use Rattle.tac_build.proofs.Points.{if_ok}
use Rattle.tac_build.proofs.HeldTypes.{loaded_holds}
use Rattle.tac_build.proofs.builder.Builder.read.Goals as goal

pub returns-in-Memory-clause-holds : goal.returns-in-Memory-clause-holds
returns-in-Memory-clause-holds c =
    if_ok _ _ c.load.result
    (λ lowered code. loaded_holds c.scalar-scalar.result (λ any. path_in any c.in-Memory.place.path.value) c.args.self.now c.load.new.self lowered code c.args.types.now c.scalar-scalar.ensures.stands)
    c.load.ensures.code
