use Rattle.std.proofs.Common.{refl, sym, ap, subst}
use Rattle.tac_ir.specs.declared.op.Operand.TheVariants as P
use Rattle.tac_ir.specs.Code.{IntegerOperand}
use Rattle.tac_ir.specs.Views.{tree_of, operand_of}
use Rattle.tac_build.specs.Building.{lowered_in}
use Rattle.tac_build.proofs.Points.{on_ok_then}
use Rattle.tac_build.proofs.FirstStores.{HasOperand, begins_memory}
use Rattle.tac_build.proofs.builder.Builder.store_first.Goals as goal

pub returns-in-Integer-clause-code : goal.returns-in-Integer-clause-code
returns-in-Integer-clause-code c =
    let table = c.args.types.now in
    let operand = operand_of (P.Integer c.into_inner.result) in
    let given = subst (λ lowered. HasOperand (lowered_in table lowered) operand) (sym c.in-Integer.is) (ap (λ tree. IntegerOperand (tree_of tree)) c.into_inner.ensures) in
    on_ok_then c.store_operand.result (λ code. begins_memory table c.args.home c.args.value c.in_ok-path.path.value c.scalar-scalar.result operand c.args.self.now c.store_operand.new.self c.requires.object c.in_ok-path.ensures c.scalar-scalar.ensures.code given code)
    c.store_operand.ensures.code

pub returns-in-Pointer-clause-code : goal.returns-in-Pointer-clause-code
returns-in-Pointer-clause-code c =
    let table = c.args.types.now in
    let operand = operand_of (P.Pointer c.in-Pointer.register) in
    let given = subst (λ lowered. HasOperand (lowered_in table lowered) operand) (sym c.in-Pointer.is) refl in
    on_ok_then c.store_operand-in-Pointer.result (λ code. begins_memory table c.args.home c.args.value c.in_ok-path.path.value c.scalar-scalar.result operand c.args.self.now c.store_operand-in-Pointer.new.self c.requires.object c.in_ok-path.ensures c.scalar-scalar.ensures.code given code)
    c.store_operand-in-Pointer.ensures.code
