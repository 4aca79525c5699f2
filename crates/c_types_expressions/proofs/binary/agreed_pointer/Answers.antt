use Rattle.std.proofs.Common.{◌≡◌, Some, sym, ap, subst, ◌∙◌, refl}
use Rattle.std.proofs.lemmas.Result.{IfOk-weaker}
use Rattle.c_typed.specs.declared.c_type.CType as number
use Rattle.c_typed.specs.Types as T
use Rattle.c_typed.specs.Table.{type_in, Stands}
use Rattle.c_typed.proofs.Grown.{void_stands}
use Rattle.c_rules.specs.Known.{give}
use Rattle.c_rules.specs.Operators.{agreed_pointer}
use Rattle.c_types_state.specs.Finding.{Finds, IsType, AllStand, each_in}
use Rattle.c_types_state.proofs.Findings.{finds-give}
use Rattle.c_types_state.specs.Operands.{operand_in}
use Rattle.c_types_expressions.specs.Binary.{type_or_void}
use Rattle.c_types_expressions.proofs.binary.agreed_pointer.Goals as goal

pub pointer_to-requires : goal.pointer_to-requires
pointer_to-requires c =
    let void : number.CType = record { 0 = 0 } in
    (void_stands c.args.checker.now.table void refl).0

pub returns-in-Some : goal.returns-in-Some
returns-in-Some c =
    let table = c.args.checker.now.table in
    finds-give (
      subst (AllStand Stands table) c.in-Some.is c.agreed_type.ensures.stands,
      sym (ap (λ t. type_or_void (each_in type_in table t)) c.in-Some.is) ∙ c.agreed_type.ensures.agreed,
    )

pub returns-in-None : goal.returns-in-None
returns-in-None c =
    let old = c.args.checker.now in
    let a = operand_in old.table c.args.a.now in
    let b = operand_in old.table c.args.b.now in
    let void : number.CType = record { 0 = 0 } in
    let is : T.Pointer T.Void ≡ agreed_pointer a b = sym (ap (λ t. type_or_void (each_in type_in old.table t)) c.in-None.is) ∙ c.agreed_type.ensures.agreed in
    let same : T.Pointer (type_in old.table void) ≡ agreed_pointer a b = ap T.Pointer (void_stands old.table void refl).1 ∙ is in
    IfOk-weaker c.pointer_to.result _ _
    (λ made found. subst (λ its. Finds IsType (give its) old c.pointer_to.new.self (Some made)) same found)
    c.pointer_to.ensures.made
