-- What stands in a vector of a tree fits, as its row does.
use Rattle.std.proofs.Common.{Vec, Global, subst}
use Rattle.c_typed.specs.declared.statement.BlockItem.TheBlock.{hidden-the_row-BlockItem-0, items_hidden-the_row-BlockItem-0, hidden-the_row-SwitchItem-1, items_hidden-the_row-SwitchItem-1, items-the_row-BlockItem, items-the_row-SwitchItem}
use Rattle.c_typed.specs.declared.statement.Stmt as memory_stmt
use Rattle.c_typed.specs.declared.statement.Stmt.TheVariants as S
use Rattle.c_typed.specs.declared.statement.BlockItem as memory_item
use Rattle.c_typed.specs.declared.statement.BlockItem.TheVariants as B
use Rattle.c_typed.specs.declared.statement.SwitchItem as memory_switch
use Rattle.c_typed.specs.declared.statement.SwitchItem.TheVariants as W
use Rattle.c_typed.specs.declared.typed.Value as memory_value
use Rattle.c_typed.specs.Table.{Interned}
use Rattle.c_typed.specs.declared.typed.Designator.TheBlock.{hidden-the_row-Value-0, items_hidden-the_row-Value-0, items-the_row-Value}
use Rattle.ref_meaning.specs.Trees.{ValuesFit, RowFits, StmtFits, BlockRowFits, SwitchRowFits, BlockFits, SwitchFits}

module _ (table : Interned) where
  block_row-items : (shape : _) (row : memory_stmt.Row_of-BlockItem shape) → BlockRowFits table row → BlockFits table (items-the_row-BlockItem shape row)
  block_row-items shape memory_stmt.end_of-BlockItem h = tt
  block_row-items shape (memory_stmt.more_of-BlockItem (B.Local local) others) h = (h.0, block_row-items _ others h.1)
  block_row-items shape (memory_stmt.more_of-BlockItem (B.Statement stmt) others) h = (h.0, block_row-items _ others h.1)

  switch_row-items : (shape : _) (row : memory_stmt.Row_of-SwitchItem shape) → SwitchRowFits table row → SwitchFits table (items-the_row-SwitchItem shape row)
  switch_row-items shape memory_stmt.end_of-SwitchItem h = tt
  switch_row-items shape (memory_stmt.more_of-SwitchItem (W.Case label) others) h = switch_row-items _ others h
  switch_row-items shape (memory_stmt.more_of-SwitchItem W.Default others) h = switch_row-items _ others h
  switch_row-items shape (memory_stmt.more_of-SwitchItem (W.Statement stmt) others) h = (h.0, switch_row-items _ others h.1)

  pub block-items : (items : Vec memory_item.BlockItem Global) → StmtFits table (S.Block items) → BlockFits table items.items
  block-items items h = subst (BlockFits table) (items_hidden-the_row-BlockItem-0 items) (block_row-items _ (hidden-the_row-BlockItem-0 items) h)

  pub switch-items : (value : memory_value.Value) (items : Vec memory_switch.SwitchItem Global) → StmtFits table (S.Switch value items) → SwitchFits table items.items
  switch-items value items h = subst (SwitchFits table) (items_hidden-the_row-SwitchItem-1 items) (switch_row-items _ (hidden-the_row-SwitchItem-1 items) h.1)

  row-items : (shape : _) (row : memory_value.Row_of-Value shape) → RowFits table row → ValuesFit table (items-the_row-Value shape row)
  row-items shape memory_value.end_of-Value h = tt
  row-items shape (memory_value.more_of-Value first others) h = (h.0, row-items _ others h.1)

  pub ValuesFit-vec : (arguments : Vec memory_value.Value Global) → RowFits table (hidden-the_row-Value-0 arguments) → ValuesFit table arguments.items
  ValuesFit-vec arguments h = subst (ValuesFit table) (items_hidden-the_row-Value-0 arguments) (row-items _ (hidden-the_row-Value-0 arguments) h)
