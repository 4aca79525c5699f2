use Rattle.std.proofs.Common.{◌+◌, ◌*◌, max, drop}
use Rattle.c_typed.proofs.statement.Stmt.TheLaws as stmt_laws
use Rattle.dsa_bottom_up.proofs.Scoping.{BlockLeft, ItemsLeft}
use Rattle.dsa_bottom_up.proofs.names.Names.+statements.Given as goal

abbrev pub invariant-block-loop-item : goal.invariant-block-loop-item
invariant-block-loop-item l = BlockLeft l.types l.self l.initial.scope.items l.scope.items l.count (drop l.item-index l.items) l.items

abbrev pub invariant-items-loop-item : goal.invariant-items-loop-item
invariant-items-loop-item l = ItemsLeft l.types l.self l.initial.scope.items l.scope.items l.count (drop l.item-index l.items) l.items

-- the depths of the trees that a call goes down; where it goes on with the same tree, it comes first
abbrev pub decreases-statement : goal.decreases-statement
decreases-statement l = 8 * stmt_laws.the_size l.stmt.now

abbrev pub decreases-under : goal.decreases-under
decreases-under l = 8 * stmt_laws.the_size l.body.now + 1

abbrev pub decreases-either : goal.decreases-either
decreases-either l = 8 * max (stmt_laws.the_size l.then.now) (stmt_laws.the_size l.otherwise.now) + 1

abbrev pub decreases-turns : goal.decreases-turns
decreases-turns l = 8 * stmt_laws.the_size l.body.now + 1

abbrev pub decreases-block : goal.decreases-block
decreases-block l = 8 * goal.size-block l + 1

abbrev pub decreases-items : goal.decreases-items
decreases-items l = 8 * goal.size-items l + 1

abbrev pub decreases-block_item : goal.decreases-block_item
decreases-block_item l = 8 * goal.size-block_item l

abbrev pub decreases-switch_item : goal.decreases-switch_item
decreases-switch_item l = 8 * goal.size-switch_item l
