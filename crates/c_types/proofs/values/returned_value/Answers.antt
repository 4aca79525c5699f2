use Rattle.std.proofs.Common.{◌≡◌, ◌||◌, Option, sym, ap, subst, ◌∙◌}
use Rattle.std.proofs.lemmas.Result.{IfOk-weaker}
use Rattle.c_syntax.specs.Views.{expr_tree}
use Rattle.c_typed.specs.Table.{type_in}
use Rattle.c_rules.specs.declared.rule.TypeRule.TheVariants as T
use Rattle.c_rules.specs.Known.{unless}
use Rattle.c_types_state.specs.Finding.{AllStand, each_in}
use Rattle.c_types_state.specs.declared.operands.Operand as memory_operand
use Rattle.c_types_state.specs.Operands.{OperandStands, operand_in}
use Rattle.c_types_expressions.proofs.Giving.{stands-now}
use Rattle.c_types.proofs.Returning.{fits_known, noted-stands, noted-all_stand, returned-stays, makes-returned}
use Rattle.c_types.proofs.values.returned_value.Goals as goal
use Rattle.c_types.proofs.values.returned_value.Goals.{in-Some, in-None, then-is_void, else-is_void}

pub fits-fits-requires-clause-target : goal.fits-fits-requires-clause-target
fits-fits-requires-clause-target c = (returned-stays c.args.place c.place_of-value_place.result (expr_tree c.args.tree.now) c.args.expected c.args.pass.now c.is_void-is_void.result c.requires c.require.ensures.noted c.in_ok-operand.ensures).0

pub fits-fits-requires-clause-operand : goal.fits-fits-requires-clause-operand
fits-fits-requires-clause-operand c = subst (λ (o : Option memory_operand.Operand). AllStand OperandStands c.value.new.pass.checker.table o) c.in-Some.is (stands-now OperandStands operand_in c.in_ok-operand.ensures.finds)

pub value_as-requires-clause-c_type : goal.value_as-requires-clause-c_type
value_as-requires-clause-c_type c =
    noted-stands c.value.new.pass.checker c.require-2.new.self (unless c.if-is_void.require T.T10 c.place_of-value_place.result) c.args.expected c.require-2.ensures.noted
    (returned-stays c.args.place c.place_of-value_place.result (expr_tree c.args.tree.now) c.args.expected c.args.pass.now c.is_void-is_void.result c.requires c.require.ensures.noted c.in_ok-operand.ensures).0

pub value_as-requires-clause-operand : goal.value_as-requires-clause-operand
value_as-requires-clause-operand c =
    noted-all_stand c.value.new.pass.checker c.require-2.new.self (unless c.if-is_void.require T.T10 c.place_of-value_place.result) c.in_ok-operand.operand c.require-2.ensures.noted
    (stands-now OperandStands operand_in c.in_ok-operand.ensures.finds)

pub returns : goal.returns
returns c =
    let table = c.value.new.pass.checker.table in
    let its : c.match-operand.fits ≡ fits_known (type_in table c.args.expected) (each_in operand_in table c.in_ok-operand.operand) =
    elim c.match-operand.branch [
      | in-Some w ↦ w.fits-is ∙ w.fits-fits.ensures ∙ ap (λ (o : Option memory_operand.Operand). fits_known (type_in table c.args.expected) (each_in operand_in table o)) (sym w.in-Some.is)
      | in-None w ↦ w.fits-is ∙ ap (λ (o : Option memory_operand.Operand). fits_known (type_in table c.args.expected) (each_in operand_in table o)) (sym w.in-None.is)
    ] in
    let holds : c.if-is_void.require ≡ (c.is_void-is_void.result || c.match-operand.fits) =
    elim c.if-is_void.branch [
      | then-is_void w ↦ w.require-is ∙ w.if-is_void.true ∙ ap (λ b. b || c.match-operand.fits) (sym w.if-is_void.true)
      | else-is_void w ↦ w.require-is ∙ ap (λ b. b || c.match-operand.fits) (sym w.if-is_void.false)
    ] in
    IfOk-weaker c.value_as.result _ _
    (λ v made. makes-returned c.args.place c.place_of-value_place.result (expr_tree c.args.tree.now) c.args.expected c.args.pass.now c.is_void-is_void.result c.requires c.require.ensures.noted c.in_ok-operand.ensures
    c.if-is_void.require c.match-operand.fits c.place_of-value_place.ensures c.is_void-is_void.ensures holds its c.require-2.ensures.noted made)
    c.value_as.ensures
