use Rattle.std.proofs.Common.{◌≡◌, sym, ap, ◌∙◌, refl}
use Rattle.c_typed.specs.declared.c_type.CType as number
use Rattle.c_typed.specs.Types as T
use Rattle.c_typed.specs.Table.{type_in}
use Rattle.c_typed.proofs.Grown.{void_stands}
use Rattle.c_rules.specs.Operators.{agreed_pointer, target_of}
use Rattle.c_types_state.specs.Finding.{each_in}
use Rattle.c_types_state.specs.Operands.{operand_in}
use Rattle.c_types_expressions.specs.Binary.{type_or_void}
use Rattle.c_types_expressions.proofs.binary.agreed_target.Goals as goal

pub returns-in-None-clause-stands : goal.returns-in-None-clause-stands
returns-in-None-clause-stands c =
    let void : number.CType = record { 0 = 0 } in
    (void_stands c.args.checker.now.table void refl).0

pub returns-in-None-clause-target : goal.returns-in-None-clause-target
returns-in-None-clause-target c =
    let table = c.args.checker.now.table in
    let void : number.CType = record { 0 = 0 } in
    let is : T.Pointer T.Void ≡ agreed_pointer (operand_in table c.args.a.now) (operand_in table c.args.b.now) =
    sym (ap (λ t. type_or_void (each_in type_in table t)) c.in-None.is) ∙ c.agreed_type.ensures.agreed in
    (void_stands table void refl).1 ∙ ap target_of is
