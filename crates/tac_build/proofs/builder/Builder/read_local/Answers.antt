use Rattle.tac_ir.specs.declared.register.Register.TheVariants as R
use Rattle.tac_ir.specs.Code.{Held}
use Rattle.tac_build.specs.Building.{points_in, spot_of}
use Rattle.tac_build.specs.Spots.{expression}
use Rattle.tac_build.proofs.Points.{if_ok, fills_same}
use Rattle.tac_build.proofs.Everywhere.{holds_integer, holds_pointer}
use Rattle.tac_build.proofs.builder.Builder.read_local.Goals as goal

pub returns-in-Integer-clause-holds : goal.returns-in-Integer-clause-holds
returns-in-Integer-clause-holds c =
    if_ok _ _ c.held.result (λ lowered told. holds_integer c.args.types.now lowered c.in-Integer.int_type (Held (R.Local c.args.home.local)) (told c.args.types.now)) c.held.ensures

pub returns-in-Pointer-clause-holds : goal.returns-in-Pointer-clause-holds
returns-in-Pointer-clause-holds c =
    if_ok _ _ c.pointer_value.result
    (λ lowered code. holds_pointer lowered c.in-Pointer.target (λ any. expression (spot_of any c.args.self.now))
    (λ any. (code any (points_in any c.pointer_value.new.self) (fills_same (points_in any c.pointer_value.new.self))).2) c.args.types.now c.in-Pointer.ensures.stands)
    c.pointer_value.ensures.code
