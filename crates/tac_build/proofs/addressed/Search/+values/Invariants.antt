use Rattle.std.proofs.Common.{◌+◌, ◌*◌, max, drop}
use Rattle.c_typed.proofs.typed.Value.TheLaws as value_laws
use Rattle.c_typed.proofs.typed.Object.TheLaws as object_laws
use Rattle.c_typed.specs.Table.{Interned}
use Rattle.c_typed.specs.Views.{values_in}
use Rattle.tac_build.specs.Homes.{takes_any}
use Rattle.tac_build.proofs.Marking.{Onward}
use Rattle.tac_build.proofs.addressed.Search.+values.Given as goal

-- What is taken in the values that are left, behind what is marked so far, is what is taken in all.
abbrev pub invariant-values-loop-value : goal.invariant-values-loop-value
invariant-values-loop-value l =
    (table : Interned) → Onward l.initial.self l.self (λ number. takes_any number (values_in table (drop l.value-index l.values))) (λ number. takes_any number (values_in table l.values))

-- the depths of the trees that a call goes down; where it goes on with the same tree, it comes first
abbrev pub decreases-value : goal.decreases-value
decreases-value l = 8 * value_laws.the_size l.value.now

abbrev pub decreases-object : goal.decreases-object
decreases-object l = 8 * object_laws.the_size l.object.now

abbrev pub decreases-designator : goal.decreases-designator
decreases-designator l = 8 * goal.size-designator l

abbrev pub decreases-both : goal.decreases-both
decreases-both l = 8 * max (value_laws.the_size l.first.now) (value_laws.the_size l.second.now) + 1

abbrev pub decreases-assigned : goal.decreases-assigned
decreases-assigned l = 8 * max (object_laws.the_size l.object.now) (value_laws.the_size l.value.now) + 1

abbrev pub decreases-values : goal.decreases-values
decreases-values l = 8 * goal.size-values l + 1
