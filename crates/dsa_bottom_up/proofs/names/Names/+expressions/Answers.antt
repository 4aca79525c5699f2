use Rattle.std.proofs.Common.{◌≡◌, ◌+◌, IfOk, refl, sym, ap, subst, ◌∙◌, arith}
use Rattle.std.proofs.lemmas.List.{drop_all}
use Rattle.c_typed.specs.declared.c_type.Shape.TheVariants as S
use Rattle.c_typed.specs.Types.{Pointer}
use Rattle.c_typed.specs.Views.{values_in, ValuesStand}
use Rattle.dsa_bottom_up.specs.Counting.{counted_values}
use Rattle.dsa_bottom_up.specs.Counts.{CountsValue, CountsValues, CountsDesignator, around_in}
use Rattle.dsa_bottom_up.proofs.Shapes.{void_in}
use Rattle.dsa_bottom_up.proofs.Arms.{if_both, if_then, whole, shaped, sum_of, call_counts, library_call_counts, next_left}
use Rattle.dsa_bottom_up.proofs.names.Names.+expressions.Goals as goal

pub value-returns-in-NullPointer : goal.value-returns-in-NullPointer
value-returns-in-NullPointer t c =
    subst (λ tree. CountsValue c.args.types.now c.args.self.now c.args.scope.now tree c.new-in-NullPointer.result) (sym c.in-NullPointer.is)
    (λ stands. shaped c.args.types.now (S.Pointer (record { 0 = 0 })) 1 1 _ c.new-in-NullPointer.result (ap Pointer (void_in c.args.types.now)) refl c.new-in-NullPointer.ensures.shape c.new-in-NullPointer.ensures.count)

pub value-returns-in_ok-arguments-in-Call : goal.value-returns-in_ok-arguments-in-Call
value-returns-in_ok-arguments-in-Call t c =
    let name = subst (λ function. CountsDesignator c.args.types.now c.args.self.now c.args.scope.now function c.in_ok-name-in-Call.name) c.deref-in-Call.ensures (c.in_ok-name-in-Call.ensures {u = tt}) in
    let given = subst (λ items. CountsValues c.args.types.now c.args.self.now c.args.scope.now items c.in_ok-arguments-in-Call.arguments) c.as_slice.ensures.value (c.in_ok-arguments-in-Call.ensures {u = tt}) in
    subst (λ tree. IfOk c.call.result (CountsValue c.args.types.now c.args.self.now c.args.scope.now tree)) (sym c.in-Call.is)
    (if_then c.call.result
    (λ made its. call_counts c.args.types.now c.args.self.now c.args.scope.now made c.in-Call.arguments c.in-Call.is_used c.in-Call.place c.in-Call.function c.in-Call.c_type c.returned.result c.in_ok-name-in-Call.name.count c.in_ok-arguments-in-Call.arguments c.returned.ensures (λ stands. (name stands).count) given its)
    c.call.ensures)

pub value-returns-in_ok-arguments-in-LibraryCall : goal.value-returns-in_ok-arguments-in-LibraryCall
value-returns-in_ok-arguments-in-LibraryCall t c =
    let given = subst (λ items. CountsValues c.args.types.now c.args.self.now c.args.scope.now items c.in_ok-arguments-in-LibraryCall.arguments) c.as_slice-in-LibraryCall.ensures.value (c.in_ok-arguments-in-LibraryCall.ensures {u = tt}) in
    subst (λ tree. IfOk c.call-in-LibraryCall.result (CountsValue c.args.types.now c.args.self.now c.args.scope.now tree)) (sym c.in-LibraryCall.is)
    (if_then c.call-in-LibraryCall.result
    (λ made its. library_call_counts c.args.types.now c.args.self.now c.args.scope.now made c.in-LibraryCall.arguments c.in-LibraryCall.function c.in-LibraryCall.groups c.in-LibraryCall.place c.library_returned.result c.in_ok-name-in-LibraryCall.name c.in_ok-arguments-in-LibraryCall.arguments (c.library_returned.ensures c.args.types.now) (omega (arith, c.in_ok-name-in-LibraryCall.ensures {u = tt})) given its)
    c.call-in-LibraryCall.ensures)

pub alike-returns : goal.alike-returns
alike-returns t c =
    if_both c.expression.result
    (λ made same total. λ stands. whole c.args.types.now c.in_ok-operand.operand.shape c.in_ok-operand.operand.count _ _ made (c.in_ok-operand.ensures {u = tt} stands).shape (c.in_ok-operand.ensures {u = tt} stands).count same total)
    c.expression.ensures.shape (c.expression.ensures.count c.args.types.now)

pub like_first-returns : goal.like_first-returns
like_first-returns t c =
    if_both c.expression.result
    (λ made same total. λ first second. whole c.args.types.now c.in_ok-first.first.shape c.in_ok-below.below _ _ made (c.in_ok-first.ensures {u = tt} first).shape (sum_of c.in_ok-first.first.count c.in_ok-second.second.count c.in_ok-below.below _ _ (c.in_ok-below.ensures {u = tt}) (c.in_ok-first.ensures {u = tt} first).count (c.in_ok-second.ensures {u = tt} second).count) same total)
    c.expression.ensures.shape (c.expression.ensures.count c.args.types.now)

pub choice-returns : goal.choice-returns
choice-returns t c =
    if_both c.expression.result
    (λ made same total. λ condition taken otherwise.
    let branches = sum_of c.in_ok-then.then.count c.in_ok-otherwise.otherwise.count c.in_ok-branches.branches _ _ (c.in_ok-branches.ensures {u = tt}) (c.in_ok-then.ensures {u = tt} taken).count (c.in_ok-otherwise.ensures {u = tt} otherwise).count in
    whole c.args.types.now c.in_ok-then.then.shape c.in_ok-below.below _ _ made (c.in_ok-then.ensures {u = tt} taken).shape
    (sum_of c.in_ok-condition.condition.count c.in_ok-branches.branches c.in_ok-below.below _ _ (c.in_ok-below.ensures {u = tt}) (c.in_ok-condition.ensures {u = tt} condition).count branches) same total)
    c.expression.ensures.shape (c.expression.ensures.count c.args.types.now)

pub assigned-returns : goal.assigned-returns
assigned-returns t c =
    if_both c.expression.result
    (λ made same total. λ object value. whole c.args.types.now c.shape_of.result c.in_ok-below.below _ _ made (sym c.shape_of.ensures.means ∙ (c.in_ok-object.ensures {u = tt} object).c_type) (sum_of c.in_ok-object.object.count c.in_ok-value.value.count c.in_ok-below.below _ _ (c.in_ok-below.ensures {u = tt}) (c.in_ok-object.ensures {u = tt} object).count (c.in_ok-value.ensures {u = tt} value).count) same total)
    c.expression.ensures.shape (c.expression.ensures.count c.args.types.now)

pub stepped-returns : goal.stepped-returns
stepped-returns t c =
    if_both c.expression.result
    (λ made same total. λ stands. whole c.args.types.now c.shape_of.result c.in_ok-object.object.count _ _ made (sym c.shape_of.ensures.means ∙ (c.in_ok-object.ensures {u = tt} stands).c_type) (c.in_ok-object.ensures {u = tt} stands).count same total)
    c.expression.ensures.shape (c.expression.ensures.count c.args.types.now)

-- ---- arguments

pub values-loop-value-init : goal.values-loop-value-init
values-loop-value-init t c = λ stand. (stand, omega arith)

pub values-loop-value-preserved : goal.values-loop-value-preserved
values-loop-value-preserved t c = λ stand.
    let table = c.args.types.now in
    let around = around_in table c.args.self.now c.args.scope.now in
    let values = c.args.values.now in
    let next = next_left values c.loop-value.value-index c.value-item.result (omega arith) c.value-item.is in
    let left = subst (λ left. ValuesStand table left × (c.loop-value.count + counted_values around (values_in table left) ≡ counted_values around (values_in table values))) next (c.loop-value.invariant stand) in
    (left.0.1, omega (arith, c.in_ok-count.ensures {u = tt}, (c.in_ok-one.ensures {u = tt} left.0.0).count, left.1))

pub values-returns : goal.values-returns
values-returns t c = λ stand.
    let table = c.args.types.now in
    let around = around_in table c.args.self.now c.args.scope.now in
    let values = c.args.values.now in
    let left = subst (λ left. c.loop-value.count + counted_values around (values_in table left) ≡ counted_values around (values_in table values)) (drop_all c.loop-value.value-index values (omega arith)) (c.loop-value.invariant stand).1 in
    omega (arith, left)
