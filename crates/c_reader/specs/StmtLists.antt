-- The syntax trees of what stands in braces, from the trees in memory.
use Rattle.std.specs.Prelude.{Box, Vec}
use Rattle.std.specs.declared.alloc.Global.{Global}
use Rattle.c_syntax.specs.declared.statement.Stmt.{Stmt}
use Rattle.c_syntax.specs.declared.statement.BlockItem.{BlockItem}
use Rattle.c_syntax.specs.declared.statement.BlockItem.TheVariants as B
use Rattle.c_syntax.specs.declared.statement.SwitchItem.{SwitchItem}
use Rattle.c_syntax.specs.declared.statement.SwitchItem.TheVariants as W
use Rattle.c_syntax.specs.Trees
use Rattle.c_reader.specs.Lists.{folds}
use Rattle.c_syntax.specs.Views.{expr_tree, declaration_tree, stmt_tree}

-- the syntax tree of a statement in a box
abbrev pub stmt_in : Box Stmt Global → Trees.StmtTree
stmt_in boxed = stmt_tree boxed.value

abbrev pub block_before : BlockItem → Trees.BlockTree → Trees.BlockTree
block_before (B.Declaration declaration) others = Trees.Declare (declaration_tree declaration) others
block_before (B.Statement stmt) others = Trees.Perform (stmt_tree stmt) others

abbrev pub switch_before : SwitchItem → Trees.SwitchTree → Trees.SwitchTree
switch_before (W.Case place value) others = Trees.Case place (expr_tree value) others
switch_before (W.Default place) others = Trees.Default place others
switch_before (W.Statement stmt) others = Trees.SwitchStmt (stmt_tree stmt) others

-- what stands in braces, from a vector
abbrev pub block_in : Vec BlockItem Global → Trees.BlockTree
block_in items = folds block_before items.items Trees.Close

abbrev pub switch_in : Vec SwitchItem Global → Trees.SwitchTree
switch_in items = folds switch_before items.items Trees.SwitchEnd
