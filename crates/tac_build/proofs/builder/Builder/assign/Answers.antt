use Rattle.tac_ir.specs.Views.{path_in, scalar_in}
use Rattle.tac_build.specs.Code.{WritesLocal, Stores}
use Rattle.tac_build.specs.Building.{lowered_in, home_in, Lowers}
use Rattle.tac_build.specs.Lowering.{LoweredHolds}
use Rattle.tac_build.proofs.AssignmentLowering.{writes_holds, stores_holds}
use Rattle.tac_build.proofs.Points.{if_ok}
use Rattle.tac_build.proofs.builder.Builder.assign.Goals as goal

pub returns-in-Register-clause-holds : goal.returns-in-Register-clause-holds
returns-in-Register-clause-holds c =
    if_ok (Lowers (λ table points. WritesLocal points (home_in table c.in-Register.home) (lowered_in table c.args.value)) c.args.self.now c.write_local.new.self)
    (λ lowered. LoweredHolds c.args.types.now c.args.value → LoweredHolds c.args.types.now lowered) c.write_local.result
    (λ lowered code. writes_holds c.in-Register.home c.args.value c.args.self.now c.write_local.new.self lowered c.requires.value code c.args.types.now)
    c.write_local.ensures.code

pub returns-in-Memory-clause-holds : goal.returns-in-Memory-clause-holds
returns-in-Memory-clause-holds c =
    if_ok (Lowers (λ table points. Stores points c.args.is_used (path_in table c.in-Memory.place.path.value) (scalar_in table c.scalar-scalar.result) (lowered_in table c.args.value)) c.args.self.now c.store.new.self)
    (λ lowered. LoweredHolds c.args.types.now c.args.value → LoweredHolds c.args.types.now lowered) c.store.result
    (λ lowered code. stores_holds c.args.is_used (λ table. path_in table c.in-Memory.place.path.value) (λ table. scalar_in table c.scalar-scalar.result) c.args.value c.args.self.now c.store.new.self lowered
    c.requires.value code c.args.types.now)
    c.store.ensures.code
