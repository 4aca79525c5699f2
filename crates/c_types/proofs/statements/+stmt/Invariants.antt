use Rattle.std.proofs.Common.{◌+◌, ◌*◌, drop}
use Rattle.c_syntax.proofs.statement.Stmt.TheLaws.{the_size}
use Rattle.c_types.specs.Parts.{around_in}
use Rattle.c_types.proofs.StatementsMade.{BlockFar, SwitchFar}
use Rattle.c_types.proofs.statements.+stmt.Given as goal

-- What was made so far, and then of the items that are left, is what is made of all.
abbrev pub invariant-block_items-loop-item : goal.invariant-block_items-loop-item
invariant-block_items-loop-item l =
    BlockFar (around_in l.fn.pass.checker.table l.around) l.fn.pass l.items (drop l.item-index l.items) l.pass l.made.items

abbrev pub invariant-switch_items-loop-item : goal.invariant-switch_items-loop-item
invariant-switch_items-loop-item l =
    SwitchFar (around_in l.fn.pass.checker.table l.around) l.int_type l.fn.pass l.items (drop l.item-index l.items) l.labels.values.keys l.labels.has_default l.pass l.made.items

-- the depths of the trees that a call goes down; where it goes on with the same tree, it comes first
abbrev pub decreases-statement : goal.decreases-statement
decreases-statement l = 8 * goal.size-statement l

abbrev pub decreases-block_stmt : goal.decreases-block_stmt
decreases-block_stmt l = 8 * goal.size-block_stmt l + 3

abbrev pub decreases-for_stmt : goal.decreases-for_stmt
decreases-for_stmt l = 8 * the_size l.body.now + 1

abbrev pub decreases-block_items : goal.decreases-block_items
decreases-block_items l = 8 * goal.size-block_items l + 2

abbrev pub decreases-block_item : goal.decreases-block_item
decreases-block_item l = 8 * goal.size-block_item l + 1

abbrev pub decreases-switch_items : goal.decreases-switch_items
decreases-switch_items l = 8 * goal.size-switch_items l + 2

abbrev pub decreases-switch_item : goal.decreases-switch_item
decreases-switch_item l = 8 * goal.size-switch_item l + 1
