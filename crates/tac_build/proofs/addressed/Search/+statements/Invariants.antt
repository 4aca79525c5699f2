use Rattle.std.proofs.Common.{◌+◌, ◌*◌, length, drop}
use Rattle.c_typed.specs.Table.{Interned}
use Rattle.c_typed.specs.StatementViews.{block_in, switch_in}
use Rattle.tac_build.specs.Marks.{Within}
use Rattle.tac_build.proofs.MarkedStatements.{BlockLeft, ItemsLeft}
use Rattle.tac_build.proofs.addressed.Search.+statements.Given as goal

abbrev pub invariant-block-loop-item : goal.invariant-block-loop-item
invariant-block-loop-item l =
    Within l.initial.self.scope.items (length l.initial.self.flags.items) → (table : Interned) → BlockLeft l.initial.self l.self (block_in table (drop l.item-index l.items)) (block_in table l.items)

abbrev pub invariant-items-loop-item : goal.invariant-items-loop-item
invariant-items-loop-item l =
    Within l.initial.self.scope.items (length l.initial.self.flags.items) → (table : Interned) → ItemsLeft l.initial.self l.self (switch_in table (drop l.item-index l.items)) (switch_in table l.items)

-- the depths of the trees that a call goes down; where it goes on with the same tree, it comes first
abbrev pub decreases-statement : goal.decreases-statement
decreases-statement l = 8 * goal.size-statement l

abbrev pub decreases-block : goal.decreases-block
decreases-block l = 8 * goal.size-block l + 1

abbrev pub decreases-items : goal.decreases-items
decreases-items l = 8 * goal.size-items l + 1
