use Rattle.std.proofs.Common.{◌+◌, ◌*◌, drop}
use Rattle.tac_build.specs.Passing.{Passes}
use Rattle.tac_build.proofs.builder.Builder.+values.Given as goal

-- the size of the tree that a call goes down; where it goes on with the same tree, it comes first
abbrev pub decreases-value : goal.decreases-value
decreases-value l = 8 * goal.size-value l + 4

abbrev pub decreases-operation : goal.decreases-operation
decreases-operation l = 8 * goal.size-operation l + 3

abbrev pub decreases-pointer_operation : goal.decreases-pointer_operation
decreases-pointer_operation l = 8 * goal.size-pointer_operation l + 2

abbrev pub decreases-assignment : goal.decreases-assignment
decreases-assignment l = 8 * goal.size-assignment l + 1

abbrev pub decreases-target : goal.decreases-target
decreases-target l = 8 * goal.size-target l + 1

abbrev pub decreases-object : goal.decreases-object
decreases-object l = 8 * goal.size-object l

abbrev pub decreases-designator : goal.decreases-designator
decreases-designator l = 8 * goal.size-designator l

abbrev pub decreases-arguments : goal.decreases-arguments
decreases-arguments l = 8 * goal.size-arguments l + 5

abbrev pub decreases-library_call : goal.decreases-library_call
decreases-library_call l = 8 * goal.size-library_call l + 5

-- the arguments before the index are passed
abbrev pub invariant-arguments-loop-argument : goal.invariant-arguments-loop-argument
invariant-arguments-loop-argument l = Passes l.source l.scope l.arguments (drop l.argument-index l.arguments) l.fn.self l.self l.registers.items
