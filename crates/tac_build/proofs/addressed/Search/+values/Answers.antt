use Rattle.std.proofs.Common.{◌+◌, ◌||◌, false, true, drop, refl, sym, ap, subst, ◌∙◌, arith}
use Rattle.std.proofs.lemmas.List.{drop_all}
use Rattle.c_typed.proofs.TypedStays.{value_in-call, value_in-library_call}
use Rattle.tac_build.specs.Homes.{takes}
use Rattle.tac_build.specs.Marks.{Marks}
use Rattle.tac_build.proofs.Marking.{Onward, marks_none, marks_then, onward_more, onward_end}
use Rattle.tac_build.proofs.MarkedTrees.{of_value, of_object, of_called, of_values, of_both, of_assigned, of_address, marks_kept, marks_behind, next_left}
use Rattle.tac_build.proofs.addressed.Search.+values.Goals.{value-then-not-is_behind, value-else-not-is_behind}
use Rattle.tac_build.proofs.addressed.Search.+values.Goals as goal

pub both-returns : goal.both-returns
both-returns t c = λ table. marks_then c.args.self.now c.value.new.self c.value-2.new.self _ _ (c.value.ensures table) (c.value-2.ensures table)

pub assigned-returns : goal.assigned-returns
assigned-returns t c = λ table. marks_then c.args.self.now c.object.new.self c.value.new.self _ _ (c.object.ensures table) (c.value.ensures table)

pub designator-returns-in-Named : goal.designator-returns-in-Named
designator-returns-in-Named t c = λ table. subst (λ f. Marks c.args.self.now c.args.self.now f) (sym (ap (of_called table) c.in-Named.is)) (marks_none c.args.self.now)

pub designator-returns-in-Grouped : goal.designator-returns-in-Grouped
designator-returns-in-Grouped t c = λ table. subst (λ f. Marks c.args.self.now c.designator.new.self f) (ap (of_called table) c.deref.ensures ∙ sym (ap (of_called table) c.in-Grouped.is)) (c.designator.ensures table)

pub designator-returns-in-Pointed : goal.designator-returns-in-Pointed
designator-returns-in-Pointed t c = λ table. subst (λ f. Marks c.args.self.now c.value.new.self f) (ap (of_value table false) c.deref-in-Pointed.ensures ∙ sym (ap (of_called table) c.in-Pointed.is)) (c.value.ensures table)

pub designator-returns-in-ThroughPointer : goal.designator-returns-in-ThroughPointer
designator-returns-in-ThroughPointer t c = λ table. subst (λ f. Marks c.args.self.now c.value-in-ThroughPointer.new.self f) (ap (of_value table false) c.deref-in-ThroughPointer.ensures ∙ sym (ap (of_called table) c.in-ThroughPointer.is)) (c.value-in-ThroughPointer.ensures table)

pub object-returns-in-Local : goal.object-returns-in-Local
object-returns-in-Local t c = λ table. subst (λ f. Marks c.args.self.now c.args.self.now f) (sym (ap (of_object table) c.in-Local.is)) (marks_none c.args.self.now)

pub object-returns-in-Global : goal.object-returns-in-Global
object-returns-in-Global t c = λ table. subst (λ f. Marks c.args.self.now c.args.self.now f) (sym (ap (of_object table) c.in-Global.is)) (marks_none c.args.self.now)

pub object-returns-in-Literal : goal.object-returns-in-Literal
object-returns-in-Literal t c = λ table. subst (λ f. Marks c.args.self.now c.args.self.now f) (sym (ap (of_object table) c.in-Literal.is)) (marks_none c.args.self.now)

pub object-returns-in-Grouped : goal.object-returns-in-Grouped
object-returns-in-Grouped t c = λ table. subst (λ f. Marks c.args.self.now c.object.new.self f) (ap (of_object table) c.deref.ensures ∙ sym (ap (of_object table) c.in-Grouped.is)) (c.object.ensures table)

pub object-returns-in-Pointed : goal.object-returns-in-Pointed
object-returns-in-Pointed t c = λ table. subst (λ f. Marks c.args.self.now c.value.new.self f) (ap (of_value table true) c.deref-in-Pointed.ensures ∙ sym (ap (of_object table) c.in-Pointed.is)) (c.value.ensures table)

pub object-returns-in-Element : goal.object-returns-in-Element
object-returns-in-Element t c = λ table. subst (λ f. Marks c.args.self.now c.both.new.self f) ((λ i. of_both table (c.deref-in-Element.ensures i) (c.deref-in-Element-2.ensures i)) ∙ sym (ap (of_object table) c.in-Element.is)) (c.both.ensures table)

pub object-returns-in-ElementOf : goal.object-returns-in-ElementOf
object-returns-in-ElementOf t c = λ table. subst (λ f. Marks c.args.self.now c.both-in-ElementOf.new.self f) ((λ i. of_both table (c.deref-in-ElementOf.ensures i) (c.deref-in-ElementOf-2.ensures i)) ∙ sym (ap (of_object table) c.in-ElementOf.is)) (c.both-in-ElementOf.ensures table)

pub object-returns-in-MemberOf : goal.object-returns-in-MemberOf
object-returns-in-MemberOf t c = λ table. subst (λ f. Marks c.args.self.now c.object-in-MemberOf.new.self f) (ap (of_object table) c.deref-in-MemberOf.ensures ∙ sym (ap (of_object table) c.in-MemberOf.is)) (c.object-in-MemberOf.ensures table)

pub object-returns-in-PointedMember : goal.object-returns-in-PointedMember
object-returns-in-PointedMember t c = λ table. subst (λ f. Marks c.args.self.now c.value-in-PointedMember.new.self f) (ap (of_value table true) c.deref-in-PointedMember.ensures ∙ sym (ap (of_object table) c.in-PointedMember.is)) (c.value-in-PointedMember.ensures table)

pub value-returns-in-Constant : goal.value-returns-in-Constant
value-returns-in-Constant t c = λ table. subst (λ f. Marks c.args.self.now c.args.self.now f) (sym (ap (of_value table c.args.is_behind) c.in-Constant.is)) (marks_none c.args.self.now)

pub value-returns-in-NullPointer : goal.value-returns-in-NullPointer
value-returns-in-NullPointer t c = λ table. subst (λ f. Marks c.args.self.now c.args.self.now f) (sym (ap (of_value table c.args.is_behind) c.in-NullPointer.is)) (marks_none c.args.self.now)

pub value-returns-in-Grouped : goal.value-returns-in-Grouped
value-returns-in-Grouped t c = λ table. subst (λ f. Marks c.args.self.now c.value.new.self f) (ap (of_value table c.args.is_behind) c.deref.ensures ∙ sym (ap (of_value table c.args.is_behind) c.in-Grouped.is)) (c.value.ensures table)

pub value-returns-in-Read : goal.value-returns-in-Read
value-returns-in-Read t c = λ table. subst (λ f. Marks c.args.self.now c.object.new.self f) (ap (of_object table) c.deref-in-Read.ensures ∙ sym (ap (of_value table c.args.is_behind) c.in-Read.is)) (c.object.ensures table)

pub value-returns-in-Decay : goal.value-returns-in-Decay
value-returns-in-Decay t c = λ table. subst (λ f. Marks c.args.self.now c.object-in-Decay.new.self f) (ap (of_object table) c.deref-in-Decay.ensures ∙ sym (ap (of_value table c.args.is_behind) c.in-Decay.is)) (c.object-in-Decay.ensures table)

pub value-returns-in-FunctionValue : goal.value-returns-in-FunctionValue
value-returns-in-FunctionValue t c = λ table. subst (λ f. Marks c.args.self.now c.designator.new.self f) (ap (of_called table) c.deref-in-FunctionValue.ensures ∙ sym (ap (of_value table c.args.is_behind) c.in-FunctionValue.is)) (c.designator.ensures table)

pub value-returns-in-Converted : goal.value-returns-in-Converted
value-returns-in-Converted t c = λ table. subst (λ f. Marks c.args.self.now c.value-in-Converted.new.self f) (ap (of_value table false) c.deref-in-Converted.ensures ∙ sym (ap (of_value table c.args.is_behind) c.in-Converted.is)) (c.value-in-Converted.ensures table)

pub value-returns-in-Repointed : goal.value-returns-in-Repointed
value-returns-in-Repointed t c = λ table. subst (λ f. Marks c.args.self.now c.value-in-Repointed.new.self f) (ap (of_value table false) c.deref-in-Repointed.ensures ∙ sym (ap (of_value table c.args.is_behind) c.in-Repointed.is)) (c.value-in-Repointed.ensures table)

pub value-returns-in-MadeNull : goal.value-returns-in-MadeNull
value-returns-in-MadeNull t c = λ table. subst (λ f. Marks c.args.self.now c.value-in-MadeNull.new.self f) (ap (of_value table false) c.deref-in-MadeNull.ensures ∙ sym (ap (of_value table c.args.is_behind) c.in-MadeNull.is)) (c.value-in-MadeNull.ensures table)

pub value-returns-in-Tested : goal.value-returns-in-Tested
value-returns-in-Tested t c = λ table. subst (λ f. Marks c.args.self.now c.value-in-Tested.new.self f) (ap (of_value table false) c.deref-in-Tested.ensures ∙ sym (ap (of_value table c.args.is_behind) c.in-Tested.is)) (c.value-in-Tested.ensures table)

pub value-returns-in-Plus : goal.value-returns-in-Plus
value-returns-in-Plus t c = λ table. subst (λ f. Marks c.args.self.now c.value-in-Plus.new.self f) (ap (of_value table false) c.deref-in-Plus.ensures ∙ sym (ap (of_value table c.args.is_behind) c.in-Plus.is)) (c.value-in-Plus.ensures table)

pub value-returns-in-Minus : goal.value-returns-in-Minus
value-returns-in-Minus t c = λ table. subst (λ f. Marks c.args.self.now c.value-in-Minus.new.self f) (ap (of_value table false) c.deref-in-Minus.ensures ∙ sym (ap (of_value table c.args.is_behind) c.in-Minus.is)) (c.value-in-Minus.ensures table)

pub value-returns-in-Complement : goal.value-returns-in-Complement
value-returns-in-Complement t c = λ table. subst (λ f. Marks c.args.self.now c.value-in-Complement.new.self f) (ap (of_value table false) c.deref-in-Complement.ensures ∙ sym (ap (of_value table c.args.is_behind) c.in-Complement.is)) (c.value-in-Complement.ensures table)

pub value-returns-in-Not : goal.value-returns-in-Not
value-returns-in-Not t c = λ table. subst (λ f. Marks c.args.self.now c.value-in-Not.new.self f) (ap (of_value table false) c.deref-in-Not.ensures ∙ sym (ap (of_value table c.args.is_behind) c.in-Not.is)) (c.value-in-Not.ensures table)

pub value-returns-in-Arithmetic : goal.value-returns-in-Arithmetic
value-returns-in-Arithmetic t c = λ table. subst (λ f. Marks c.args.self.now c.both.new.self f) ((λ i. of_both table (c.deref-in-Arithmetic.ensures i) (c.deref-in-Arithmetic-2.ensures i)) ∙ sym (ap (of_value table c.args.is_behind) c.in-Arithmetic.is)) (c.both.ensures table)

pub value-returns-in-Compare : goal.value-returns-in-Compare
value-returns-in-Compare t c = λ table. subst (λ f. Marks c.args.self.now c.both-in-Compare.new.self f) ((λ i. of_both table (c.deref-in-Compare.ensures i) (c.deref-in-Compare-2.ensures i)) ∙ sym (ap (of_value table c.args.is_behind) c.in-Compare.is)) (c.both-in-Compare.ensures table)

pub value-returns-in-ComparePointers : goal.value-returns-in-ComparePointers
value-returns-in-ComparePointers t c = λ table. subst (λ f. Marks c.args.self.now c.both-in-ComparePointers.new.self f) ((λ i. of_both table (c.deref-in-ComparePointers.ensures i) (c.deref-in-ComparePointers-2.ensures i)) ∙ sym (ap (of_value table c.args.is_behind) c.in-ComparePointers.is)) (c.both-in-ComparePointers.ensures table)

pub value-returns-in-PointerPlus : goal.value-returns-in-PointerPlus
value-returns-in-PointerPlus t c = λ table. subst (λ f. Marks c.args.self.now c.both-in-PointerPlus.new.self f) ((λ i. of_both table (c.deref-in-PointerPlus.ensures i) (c.deref-in-PointerPlus-2.ensures i)) ∙ sym (ap (of_value table c.args.is_behind) c.in-PointerPlus.is)) (c.both-in-PointerPlus.ensures table)

pub value-returns-in-NumberPlus : goal.value-returns-in-NumberPlus
value-returns-in-NumberPlus t c = λ table. subst (λ f. Marks c.args.self.now c.both-in-NumberPlus.new.self f) ((λ i. of_both table (c.deref-in-NumberPlus.ensures i) (c.deref-in-NumberPlus-2.ensures i)) ∙ sym (ap (of_value table c.args.is_behind) c.in-NumberPlus.is)) (c.both-in-NumberPlus.ensures table)

pub value-returns-in-PointerMinus : goal.value-returns-in-PointerMinus
value-returns-in-PointerMinus t c = λ table. subst (λ f. Marks c.args.self.now c.both-in-PointerMinus.new.self f) ((λ i. of_both table (c.deref-in-PointerMinus.ensures i) (c.deref-in-PointerMinus-2.ensures i)) ∙ sym (ap (of_value table c.args.is_behind) c.in-PointerMinus.is)) (c.both-in-PointerMinus.ensures table)

pub value-returns-in-PointerDifference : goal.value-returns-in-PointerDifference
value-returns-in-PointerDifference t c = λ table. subst (λ f. Marks c.args.self.now c.both-in-PointerDifference.new.self f) ((λ i. of_both table (c.deref-in-PointerDifference.ensures i) (c.deref-in-PointerDifference-2.ensures i)) ∙ sym (ap (of_value table c.args.is_behind) c.in-PointerDifference.is)) (c.both-in-PointerDifference.ensures table)

pub value-returns-in-And : goal.value-returns-in-And
value-returns-in-And t c = λ table. subst (λ f. Marks c.args.self.now c.both-in-And.new.self f) ((λ i. of_both table (c.deref-in-And.ensures i) (c.deref-in-And-2.ensures i)) ∙ sym (ap (of_value table c.args.is_behind) c.in-And.is)) (c.both-in-And.ensures table)

pub value-returns-in-Or : goal.value-returns-in-Or
value-returns-in-Or t c = λ table. subst (λ f. Marks c.args.self.now c.both-in-Or.new.self f) ((λ i. of_both table (c.deref-in-Or.ensures i) (c.deref-in-Or-2.ensures i)) ∙ sym (ap (of_value table c.args.is_behind) c.in-Or.is)) (c.both-in-Or.ensures table)

pub value-returns-in-Conditional : goal.value-returns-in-Conditional
value-returns-in-Conditional t c = λ table.
    subst (λ f. Marks c.args.self.now c.both-in-Conditional.new.self f) ((λ i. λ number. of_value table false (c.deref-in-Conditional.ensures i) number || of_both table (c.deref-in-Conditional-2.ensures i) (c.deref-in-Conditional-3.ensures i) number) ∙ sym (ap (of_value table c.args.is_behind) c.in-Conditional.is))
    (marks_then c.args.self.now c.value-in-Conditional.new.self c.both-in-Conditional.new.self _ _ (c.value-in-Conditional.ensures table) (c.both-in-Conditional.ensures table))

pub value-returns-in-AddressOfFunction : goal.value-returns-in-AddressOfFunction
value-returns-in-AddressOfFunction t c = λ table. subst (λ f. Marks c.args.self.now c.designator-in-AddressOfFunction.new.self f) (ap (of_called table) c.deref-in-AddressOfFunction.ensures ∙ sym (ap (of_value table c.args.is_behind) c.in-AddressOfFunction.is)) (c.designator-in-AddressOfFunction.ensures table)

pub value-returns-in-Cast : goal.value-returns-in-Cast
value-returns-in-Cast t c = λ table. subst (λ f. Marks c.args.self.now c.value-in-Cast.new.self f) (ap (of_value table false) c.deref-in-Cast.ensures ∙ sym (ap (of_value table c.args.is_behind) c.in-Cast.is)) (c.value-in-Cast.ensures table)

pub value-returns-in-CastVoid : goal.value-returns-in-CastVoid
value-returns-in-CastVoid t c = λ table. subst (λ f. Marks c.args.self.now c.value-in-CastVoid.new.self f) (ap (of_value table false) c.deref-in-CastVoid.ensures ∙ sym (ap (of_value table c.args.is_behind) c.in-CastVoid.is)) (c.value-in-CastVoid.ensures table)

pub value-returns-in-Assign : goal.value-returns-in-Assign
value-returns-in-Assign t c = λ table. subst (λ f. Marks c.args.self.now c.assigned.new.self f) ((λ i. of_assigned table (c.deref-in-Assign.ensures i) (c.deref-in-Assign-2.ensures i)) ∙ sym (ap (of_value table c.args.is_behind) c.in-Assign.is)) (c.assigned.ensures table)

pub value-returns-in-AssignArithmetic : goal.value-returns-in-AssignArithmetic
value-returns-in-AssignArithmetic t c = λ table. subst (λ f. Marks c.args.self.now c.assigned-in-AssignArithmetic.new.self f) ((λ i. of_assigned table (c.deref-in-AssignArithmetic.ensures i) (c.deref-in-AssignArithmetic-2.ensures i)) ∙ sym (ap (of_value table c.args.is_behind) c.in-AssignArithmetic.is)) (c.assigned-in-AssignArithmetic.ensures table)

pub value-returns-in-AssignMoved : goal.value-returns-in-AssignMoved
value-returns-in-AssignMoved t c = λ table. subst (λ f. Marks c.args.self.now c.assigned-in-AssignMoved.new.self f) ((λ i. of_assigned table (c.deref-in-AssignMoved.ensures i) (c.deref-in-AssignMoved-2.ensures i)) ∙ sym (ap (of_value table c.args.is_behind) c.in-AssignMoved.is)) (c.assigned-in-AssignMoved.ensures table)

pub value-returns-in-StepInteger : goal.value-returns-in-StepInteger
value-returns-in-StepInteger t c = λ table. subst (λ f. Marks c.args.self.now c.object-in-StepInteger.new.self f) (ap (of_object table) c.deref-in-StepInteger.ensures ∙ sym (ap (of_value table c.args.is_behind) c.in-StepInteger.is)) (c.object-in-StepInteger.ensures table)

pub value-returns-in-StepPointer : goal.value-returns-in-StepPointer
value-returns-in-StepPointer t c = λ table. subst (λ f. Marks c.args.self.now c.object-in-StepPointer.new.self f) (ap (of_object table) c.deref-in-StepPointer.ensures ∙ sym (ap (of_value table c.args.is_behind) c.in-StepPointer.is)) (c.object-in-StepPointer.ensures table)

pub value-returns-after-not-is_behind : goal.value-returns-after-not-is_behind
value-returns-after-not-is_behind t c = λ table.
    let old = c.args.self.now in
    let object = c.in-AddressOf.object.value in
    let kept : Marks old c.if-not-is_behind.self (of_address table c.args.is_behind object) = elim c.if-not-is_behind.branch [
      | value-then-not-is_behind w ↦ subst (λ s. Marks old s (of_address table c.args.is_behind object)) (sym w.self-is) (marks_kept table old w.address.new.self c.args.is_behind w.deref-then-not-is_behind.result.now object w.if-not-is_behind.true w.deref-then-not-is_behind.ensures (w.address.ensures table))
      | value-else-not-is_behind w ↦ subst (λ s. Marks old s (of_address table c.args.is_behind object)) (sym w.self-is) (marks_behind table old c.args.is_behind object w.if-not-is_behind.false)
    ] in
    subst (λ f. Marks old c.object-in-AddressOf.new.self f)
    ((λ i. λ number. of_address table c.args.is_behind object number || of_object table (c.deref-in-AddressOf.ensures i) number) ∙ sym (ap (of_value table c.args.is_behind) c.in-AddressOf.is))
    (marks_then old c.if-not-is_behind.self c.object-in-AddressOf.new.self _ _ kept (c.object-in-AddressOf.ensures table))

pub value-returns-in-Call : goal.value-returns-in-Call
value-returns-in-Call t c = λ table.
    subst (λ f. Marks c.args.self.now c.values.new.self f)
    ((λ i. λ number. of_called table (c.deref-in-Call.ensures i) number || of_values table (c.as_slice.ensures.value i) number)
    ∙ (λ i. λ number. takes c.args.is_behind number (sym (value_in-call table c.in-Call.arguments c.in-Call.is_used c.in-Call.place c.in-Call.function c.in-Call.c_type) i))
    ∙ sym (ap (of_value table c.args.is_behind) c.in-Call.is))
    (marks_then c.args.self.now c.designator-in-Call.new.self c.values.new.self _ _ (c.designator-in-Call.ensures table) (c.values.ensures table))

pub value-returns-in-LibraryCall : goal.value-returns-in-LibraryCall
value-returns-in-LibraryCall t c = λ table.
    subst (λ f. Marks c.args.self.now c.values-in-LibraryCall.new.self f)
    (ap (of_values table) c.as_slice-in-LibraryCall.ensures.value
    ∙ (λ i. λ number. takes c.args.is_behind number (sym (value_in-library_call table c.in-LibraryCall.arguments c.in-LibraryCall.function c.in-LibraryCall.groups c.in-LibraryCall.place) i))
    ∙ sym (ap (of_value table c.args.is_behind) c.in-LibraryCall.is))
    (c.values-in-LibraryCall.ensures table)

pub values-loop-value-init : goal.values-loop-value-init
values-loop-value-init t c = λ table. record { scope = refl; flags = refl }

pub values-loop-value-preserved : goal.values-loop-value-preserved
values-loop-value-preserved t c = λ table.
    let values = c.args.values.now in
    let next = next_left values c.loop-value.value-index c.value-item.result (omega arith) c.value-item.is in
    onward_more c.args.self.now c.loop-value.self c.value.new.self (of_value table false c.value-item.result) (of_values table (drop (c.loop-value.value-index + 1) values)) (of_values table values)
    (subst (λ left. Onward c.args.self.now c.loop-value.self (of_values table left) (of_values table values)) next (c.loop-value.invariant table))
    (c.value.ensures table)

pub values-returns : goal.values-returns
values-returns t c = λ table.
    let values = c.args.values.now in
    onward_end c.args.self.now c.loop-value.self (of_values table values)
    (subst (λ left. Onward c.args.self.now c.loop-value.self (of_values table left) (of_values table values)) (drop_all c.loop-value.value-index values (omega arith)) (c.loop-value.invariant table))
