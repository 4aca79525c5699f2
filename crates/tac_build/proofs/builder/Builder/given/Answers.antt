use Rattle.tac_ir.specs.declared.register.Register.TheVariants as R
use Rattle.tac_ir.specs.Code.{Held}
use Rattle.tac_build.proofs.Points.{if_ok}
use Rattle.tac_build.proofs.Everywhere.{holds_integer}
use Rattle.tac_build.proofs.builder.Builder.given.Goals as goal

pub returns-in-Integer-clause-holds : goal.returns-in-Integer-clause-holds
returns-in-Integer-clause-holds c =
    if_ok _ _ c.held.result (λ lowered told. holds_integer c.args.types.now lowered c.in-Integer.int_type (Held (R.Call c.args.site)) (told c.args.types.now)) c.held.ensures
