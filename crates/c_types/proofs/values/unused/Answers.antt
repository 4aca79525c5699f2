use Rattle.std.proofs.Common.{◌≡◌, sym, ap, subst, ◌∙◌}
use Rattle.c_typed.specs.declared.typed.Value.{Value}
use Rattle.c_typed.specs.Views.{value_in, ValueStands}
use Rattle.c_rules.specs.Elaborated.{known_value}
use Rattle.c_rules.specs.Operators.{dropped}
use Rattle.c_types_state.proofs.Findings.{seen-known}
use Rattle.c_types_state.specs.Operands.{OperandStands, operand_in}
use Rattle.c_types_expressions.proofs.Giving.{stands-now}
use Rattle.c_types.proofs.Covering.{covers-passes}
use Rattle.c_types.proofs.values.unused.Goals as goal

pub returns : goal.returns
returns c =
    let table = c.value.new.pass.checker.table in
    let passes = c.in_ok-operand.ensures in
    let operand = c.in_ok-operand.operand in
    let same : c.deref_mut.result.now ≡ c.in_ok-value.value.value = c.deref_mut.ensures.value in
    record {
      covers = covers-passes passes;
      made = (
        c.leave_unused.ensures.stands table (subst (λ (v : Value). ValueStands table v) (sym same) (c.in_ok-value.ensures.stands table (stands-now OperandStands operand_in passes.finds))),
        c.leave_unused.ensures.unused table ∙ ap (λ (v : Value). dropped (value_in table v)) same
            ∙ ap dropped (c.in_ok-value.ensures.value table ∙ ap known_value (seen-known OperandStands operand_in table operand _ passes.finds.known)),
      );
    }
