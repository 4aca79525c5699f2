use Rattle.std.proofs.Common.{sym, ap, ◌∙◌}
use Rattle.tac_ir.specs.Code.{Held, IntegerOperand, PointerOperand}
use Rattle.tac_ir.specs.Views.{scalar_in}
use Rattle.tac_build.specs.ProgramCode.{stored_argument}
use Rattle.tac_build.proofs.functions.stored_argument.Goals as goal

pub returns-in-Integer : goal.returns-in-Integer
returns-in-Integer c = λ table number own.
    ap (λ register. IntegerOperand (Held register)) own ∙ ap (λ scalar. stored_argument number (scalar_in table scalar)) (sym c.in-Integer.is)

pub returns-in-Pointer : goal.returns-in-Pointer
returns-in-Pointer c = λ table number own. ap PointerOperand own ∙ ap (λ scalar. stored_argument number (scalar_in table scalar)) (sym c.in-Pointer.is)
