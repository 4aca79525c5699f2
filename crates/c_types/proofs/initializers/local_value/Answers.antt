use Rattle.std.proofs.Common.{◌≡◌, Option, refl, ap, subst, ◌∙◌}
use Rattle.std.proofs.lemmas.Result.{IfOk-weaker}
use Rattle.c_syntax.specs.Views.{expr_tree}
use Rattle.c_typed.specs.Table.{type_in}
use Rattle.c_types_state.specs.Finding.{AllStand, each_in, noted}
use Rattle.c_types_state.specs.declared.operands.Operand as memory_operand
use Rattle.c_types_state.specs.Operands.{OperandStands, operand_in}
use Rattle.c_types_expressions.specs.declared.pass.Pass.{Pass}
use Rattle.c_types_expressions.proofs.Giving.{stands-now}
use Rattle.c_types_expressions.proofs.Passing.{with_checker}
use Rattle.c_types.proofs.Returning.{noted-stands, noted-all_stand}
use Rattle.c_types.proofs.LocalFirsts.{behind_local, behind-some, behind-none, behind-aggregate, local-stands, local-made}
use Rattle.c_types.proofs.initializers.local_value.Goals.{then-is_scalar+in-Some, then-is_scalar+in_default, else-is_scalar}
use Rattle.c_types.proofs.initializers.local_value.Goals as goal

pub fits-fits-requires-clause-target : goal.fits-fits-requires-clause-target
fits-fits-requires-clause-target c =
    (local-stands (expr_tree c.args.tree.now) c.args.c_type c.args.pass.now (with_checker c.args.pass.now c.require.new.self) c.value.new.pass c.is_aggregate-is_scalar.result c.place_of-place.result c.in_ok-operand.operand
    c.requires c.require.ensures.noted c.in_ok-operand.ensures).0

pub fits-fits-requires-clause-operand : goal.fits-fits-requires-clause-operand
fits-fits-requires-clause-operand c = subst (λ (o : Option memory_operand.Operand). AllStand OperandStands c.value.new.pass.checker.table o) c.in-Some.is (stands-now OperandStands operand_in c.in_ok-operand.ensures.finds)

pub value_as-requires : goal.value_as-requires
value_as-requires c =
    let s = c.args.pass.now in
    let t = c.value.new.pass in
    let r = c.if-is_scalar.pass in
    let aggregate = c.is_aggregate-is_scalar.result in
    let place = c.place_of-place.result in
    let operand = c.in_ok-operand.operand in
    let table = t.checker.table in
    let c_type = type_in table c.args.c_type in
    let behind = behind_local aggregate place c_type (each_in operand_in table operand) in
    let same : (r.checker ≡ record t.checker { least = noted t.checker.least behind }) × (r.named.items ≡ t.named.items) =
    elim c.if-is_scalar.branch [
      | then-is_scalar+in-Some w ↦ (
        ap (λ (p : Pass). p.checker) w.pass-is ∙ w.require-in-Some.ensures.noted
            ∙ (λ i. record t.checker { least = noted t.checker.least (behind-some aggregate table place c_type operand w.in-Some.operand w.fits-fits.result w.if-is_scalar.true w.in-Some.is w.fits-fits.ensures i) }),
        ap (λ (p : Pass). p.named.items) w.pass-is,
      )
      | then-is_scalar+in_default w ↦ (
        ap (λ (p : Pass). p.checker) w.pass-is ∙ (λ i. record t.checker { least = noted t.checker.least (behind-none aggregate table place c_type operand w.if-is_scalar.true w.in_default.not-Some i) }),
        ap (λ (p : Pass). p.named.items) w.pass-is,
      )
      | else-is_scalar w ↦ (
        ap (λ (p : Pass). p.checker) w.pass-is ∙ (λ i. record t.checker { least = noted t.checker.least (behind-aggregate aggregate place c_type (each_in operand_in table operand) w.if-is_scalar.false i) }),
        ap (λ (p : Pass). p.named.items) w.pass-is,
      )
    ] in
    record {
      c_type =
          noted-stands t.checker r.checker behind c.args.c_type same.0
          (local-stands (expr_tree c.args.tree.now) c.args.c_type s (with_checker s c.require.new.self) t aggregate place operand c.requires c.require.ensures.noted c.in_ok-operand.ensures).0;
      operand = noted-all_stand t.checker r.checker behind operand same.0 (stands-now OperandStands operand_in c.in_ok-operand.ensures.finds);
    }

pub returns : goal.returns
returns c =
    let s = c.args.pass.now in
    let t = c.value.new.pass in
    let r = c.if-is_scalar.pass in
    let aggregate = c.is_aggregate-is_scalar.result in
    let place = c.place_of-place.result in
    let operand = c.in_ok-operand.operand in
    let table = t.checker.table in
    let c_type = type_in table c.args.c_type in
    let behind = behind_local aggregate place c_type (each_in operand_in table operand) in
    let same : (r.checker ≡ record t.checker { least = noted t.checker.least behind }) × (r.named.items ≡ t.named.items) =
    elim c.if-is_scalar.branch [
      | then-is_scalar+in-Some w ↦ (
        ap (λ (p : Pass). p.checker) w.pass-is ∙ w.require-in-Some.ensures.noted
            ∙ (λ i. record t.checker { least = noted t.checker.least (behind-some aggregate table place c_type operand w.in-Some.operand w.fits-fits.result w.if-is_scalar.true w.in-Some.is w.fits-fits.ensures i) }),
        ap (λ (p : Pass). p.named.items) w.pass-is,
      )
      | then-is_scalar+in_default w ↦ (
        ap (λ (p : Pass). p.checker) w.pass-is ∙ (λ i. record t.checker { least = noted t.checker.least (behind-none aggregate table place c_type operand w.if-is_scalar.true w.in_default.not-Some i) }),
        ap (λ (p : Pass). p.named.items) w.pass-is,
      )
      | else-is_scalar w ↦ (
        ap (λ (p : Pass). p.checker) w.pass-is ∙ (λ i. record t.checker { least = noted t.checker.least (behind-aggregate aggregate place c_type (each_in operand_in table operand) w.if-is_scalar.false i) }),
        ap (λ (p : Pass). p.named.items) w.pass-is,
      )
    ] in
    IfOk-weaker c.value_as.result _ _
    (λ v h. local-made (expr_tree c.args.tree.now) c.args.c_type s (with_checker s c.require.new.self) t aggregate place operand r v.value
    c.is_aggregate-is_scalar.ensures c.requires c.place_of-place.ensures c.require.ensures.noted refl c.in_ok-operand.ensures same.0 same.1 h)
    c.value_as.ensures
