use Rattle.std.proofs.Common.{refl, ap, ◌∙◌}
use Rattle.std.proofs.lemmas.Result.{IfOk-weaker}
use Rattle.c_typed.specs.Types.{CType}
use Rattle.c_typed.proofs.Grown.{void_stands}
use Rattle.c_rules.specs.Operators.{unconverted_value}
use Rattle.c_types_state.specs.Operands.{operand_in}
use Rattle.c_types_expressions.proofs.calls.given_to_free.Goals as goal

pub returns-clause-stands : goal.returns-clause-stands
returns-clause-stands c =
    IfOk-weaker c.unconverted.result _ _ (λ made stands table h. stands table (void_stands table (record { 0 = 0 }) refl).0 h) c.unconverted.ensures.stands

pub returns-clause-unconverted : goal.returns-clause-unconverted
returns-clause-unconverted c =
    IfOk-weaker c.unconverted.result _ _
    (λ made is table. is table ∙ ap (λ (target : CType). unconverted_value target (operand_in table c.args.operand)) (void_stands table (record { 0 = 0 }) refl).1)
    c.unconverted.ensures.unconverted
