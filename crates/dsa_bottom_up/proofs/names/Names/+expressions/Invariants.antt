use Rattle.std.proofs.Common.{◌≡◌, ◌+◌, ◌*◌, max, drop}
use Rattle.c_typed.proofs.typed.Value.TheLaws as value_laws
use Rattle.c_typed.proofs.typed.Object.TheLaws as object_laws
use Rattle.c_typed.proofs.typed.Designator.TheLaws as designator_laws
use Rattle.c_typed.specs.Views.{values_in, ValuesStand}
use Rattle.dsa_bottom_up.specs.Counting.{counted_values}
use Rattle.dsa_bottom_up.specs.Counts.{around_in}
use Rattle.dsa_bottom_up.proofs.names.Names.+expressions.Given as goal

-- What counts in the values so far, with what counts in those that are left, is what counts in all.
abbrev pub invariant-values-loop-value : goal.invariant-values-loop-value
invariant-values-loop-value l =
    ValuesStand l.types l.values
    → ValuesStand l.types (drop l.value-index l.values)
    × (l.count + counted_values (around_in l.types l.self l.scope) (values_in l.types (drop l.value-index l.values)) ≡ counted_values (around_in l.types l.self l.scope) (values_in l.types l.values))

-- the depths of the trees that a call goes down; where it goes on with the same tree, it comes first
abbrev pub decreases-value : goal.decreases-value
decreases-value l = 8 * value_laws.the_size l.value.now

abbrev pub decreases-object : goal.decreases-object
decreases-object l = 8 * object_laws.the_size l.object.now

abbrev pub decreases-designator : goal.decreases-designator
decreases-designator l = 8 * designator_laws.the_size l.function.now

abbrev pub decreases-values : goal.decreases-values
decreases-values l = 8 * goal.size-values l + 1

abbrev pub decreases-alike : goal.decreases-alike
decreases-alike l = 8 * value_laws.the_size l.operand.now + 1

abbrev pub decreases-one_as : goal.decreases-one_as
decreases-one_as l = 8 * value_laws.the_size l.operand.now + 1

abbrev pub decreases-read : goal.decreases-read
decreases-read l = 8 * object_laws.the_size l.object.now + 1

abbrev pub decreases-first_element : goal.decreases-first_element
decreases-first_element l = 8 * object_laws.the_size l.object.now + 1

abbrev pub decreases-pointer_to : goal.decreases-pointer_to
decreases-pointer_to l = 8 * designator_laws.the_size l.function.now + 1

abbrev pub decreases-address : goal.decreases-address
decreases-address l = 8 * object_laws.the_size l.object.now + 1

abbrev pub decreases-function_address : goal.decreases-function_address
decreases-function_address l = 8 * designator_laws.the_size l.function.now + 1

abbrev pub decreases-stepped : goal.decreases-stepped
decreases-stepped l = 8 * object_laws.the_size l.object.now + 1

abbrev pub decreases-grouped : goal.decreases-grouped
decreases-grouped l = 8 * object_laws.the_size l.object.now + 1

abbrev pub decreases-pointed : goal.decreases-pointed
decreases-pointed l = 8 * value_laws.the_size l.pointer.now + 1

abbrev pub decreases-member : goal.decreases-member
decreases-member l = 8 * object_laws.the_size l.object.now + 1

abbrev pub decreases-pointed_member : goal.decreases-pointed_member
decreases-pointed_member l = 8 * value_laws.the_size l.pointer.now + 1

abbrev pub decreases-grouped_function : goal.decreases-grouped_function
decreases-grouped_function l = 8 * designator_laws.the_size l.function.now + 1

abbrev pub decreases-pointed_function : goal.decreases-pointed_function
decreases-pointed_function l = 8 * value_laws.the_size l.pointer.now + 1

abbrev pub decreases-called_pointer : goal.decreases-called_pointer
decreases-called_pointer l = 8 * value_laws.the_size l.pointer.now + 1

abbrev pub decreases-like_first : goal.decreases-like_first
decreases-like_first l = 8 * max (value_laws.the_size l.first.now) (value_laws.the_size l.second.now) + 1

abbrev pub decreases-both_as : goal.decreases-both_as
decreases-both_as l = 8 * max (value_laws.the_size l.first.now) (value_laws.the_size l.second.now) + 1

abbrev pub decreases-assigned : goal.decreases-assigned
decreases-assigned l = 8 * max (object_laws.the_size l.object.now) (value_laws.the_size l.value.now) + 1

abbrev pub decreases-element : goal.decreases-element
decreases-element l = 8 * max (value_laws.the_size l.pointer.now) (value_laws.the_size l.number.now) + 1

abbrev pub decreases-choice : goal.decreases-choice
decreases-choice l = 8 * max (value_laws.the_size l.condition.now) (max (value_laws.the_size l.then.now) (value_laws.the_size l.otherwise.now)) + 1
