-- What stands in a statement's vector stands for types, as its row does.
use Rattle.std.proofs.Common.{Vec, Global, subst}
use Rattle.c_typed.specs.declared.statement.BlockItem.TheBlock.{hidden-the_row-BlockItem-0, items_hidden-the_row-BlockItem-0, hidden-the_row-SwitchItem-1, items_hidden-the_row-SwitchItem-1, items-the_row-BlockItem, items-the_row-SwitchItem}
use Rattle.c_typed.specs.declared.statement.Stmt as memory_stmt
use Rattle.c_typed.specs.declared.statement.Stmt.TheVariants as S
use Rattle.c_typed.specs.declared.statement.BlockItem as memory_item
use Rattle.c_typed.specs.declared.statement.BlockItem.TheVariants as B
use Rattle.c_typed.specs.declared.statement.SwitchItem as memory_switch
use Rattle.c_typed.specs.declared.statement.SwitchItem.TheVariants as W
use Rattle.c_typed.specs.declared.typed.Value as memory_value
use Rattle.c_typed.specs.Table.{Interned}
use Rattle.c_typed.specs.StatementViews.{StmtStands, BlockRowStands, SwitchRowStands, BlockStands, SwitchStands}

module _ (table : Interned) where
  block_row-items : (shape : _) (row : memory_stmt.Row_of-BlockItem shape) → BlockRowStands table row → BlockStands table (items-the_row-BlockItem shape row)
  block_row-items shape memory_stmt.end_of-BlockItem h = tt
  block_row-items shape (memory_stmt.more_of-BlockItem (B.Local local) others) h = (h.0, block_row-items _ others h.1)
  block_row-items shape (memory_stmt.more_of-BlockItem (B.Statement stmt) others) h = (h.0, block_row-items _ others h.1)

  switch_row-items : (shape : _) (row : memory_stmt.Row_of-SwitchItem shape) → SwitchRowStands table row → SwitchStands table (items-the_row-SwitchItem shape row)
  switch_row-items shape memory_stmt.end_of-SwitchItem h = tt
  switch_row-items shape (memory_stmt.more_of-SwitchItem (W.Case label) others) h = switch_row-items _ others h
  switch_row-items shape (memory_stmt.more_of-SwitchItem W.Default others) h = switch_row-items _ others h
  switch_row-items shape (memory_stmt.more_of-SwitchItem (W.Statement stmt) others) h = (h.0, switch_row-items _ others h.1)

  pub block-items : (items : Vec memory_item.BlockItem Global) → StmtStands table (S.Block items) → BlockStands table items.items
  block-items items h = subst (BlockStands table) (items_hidden-the_row-BlockItem-0 items) (block_row-items _ (hidden-the_row-BlockItem-0 items) h)

  pub switch-items : (value : memory_value.Value) (items : Vec memory_switch.SwitchItem Global) → StmtStands table (S.Switch value items) → SwitchStands table items.items
  switch-items value items h = subst (SwitchStands table) (items_hidden-the_row-SwitchItem-1 items) (switch_row-items _ (hidden-the_row-SwitchItem-1 items) h.1)
