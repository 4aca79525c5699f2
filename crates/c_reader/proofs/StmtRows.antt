-- A vector inside of a statement shows as a row. The tree of a row is that of its items.
use Rattle.std.proofs.Common.{◌≡◌, Vec, Global, refl, ap, ◌∙◌, sym}
use Rattle.c_syntax.specs.declared.statement.BlockItem.{BlockItem}
use Rattle.c_syntax.specs.declared.statement.BlockItem.TheBlock.{hidden-the_row-BlockItem-0, items_hidden-the_row-BlockItem-0, hidden-the_row-SwitchItem-1, items_hidden-the_row-SwitchItem-1}
use Rattle.c_syntax.specs.declared.statement.BlockItem.TheVariants as B
use Rattle.c_syntax.specs.declared.statement.SwitchItem.{SwitchItem}
use Rattle.c_syntax.specs.declared.statement.SwitchItem.TheVariants as W
use Rattle.c_syntax.specs.declared.statement.Stmt as memory_stmt
use Rattle.c_syntax.specs.Trees
use Rattle.c_syntax.specs.Views.{expr_tree, declaration_tree, stmt_tree, block_tree, switch_tree}
use Rattle.c_reader.specs.Lists.{folds}
use Rattle.c_reader.specs.StmtLists.{block_before, switch_before}

block_items : (shape : _) (row : memory_stmt.Row_of-BlockItem shape) → block_tree row ≡ folds block_before (memory_stmt.items-the_row-BlockItem shape row) Trees.Close
block_items shape memory_stmt.end_of-BlockItem = refl
block_items shape (memory_stmt.more_of-BlockItem (B.Declaration declaration) rest) = ap (Trees.Declare (declaration_tree declaration)) (block_items _ rest)
block_items shape (memory_stmt.more_of-BlockItem (B.Statement stmt) rest) = ap (Trees.Perform (stmt_tree stmt)) (block_items _ rest)

pub block_tree-vec : (items : Vec BlockItem Global) → folds block_before items.items Trees.Close ≡ block_tree (hidden-the_row-BlockItem-0 items)
block_tree-vec items = sym (block_items _ (hidden-the_row-BlockItem-0 items) ∙ ap (λ vs. folds block_before vs Trees.Close) (items_hidden-the_row-BlockItem-0 items))

switch_items : (shape : _) (row : memory_stmt.Row_of-SwitchItem shape) → switch_tree row ≡ folds switch_before (memory_stmt.items-the_row-SwitchItem shape row) Trees.SwitchEnd
switch_items shape memory_stmt.end_of-SwitchItem = refl
switch_items shape (memory_stmt.more_of-SwitchItem (W.Case place value) rest) = ap (Trees.Case place (expr_tree value)) (switch_items _ rest)
switch_items shape (memory_stmt.more_of-SwitchItem (W.Default place) rest) = ap (Trees.Default place) (switch_items _ rest)
switch_items shape (memory_stmt.more_of-SwitchItem (W.Statement stmt) rest) = ap (Trees.SwitchStmt (stmt_tree stmt)) (switch_items _ rest)

pub switch_tree-vec : (items : Vec SwitchItem Global) → folds switch_before items.items Trees.SwitchEnd ≡ switch_tree (hidden-the_row-SwitchItem-1 items)
switch_tree-vec items = sym (switch_items _ (hidden-the_row-SwitchItem-1 items) ∙ ap (λ vs. folds switch_before vs Trees.SwitchEnd) (items_hidden-the_row-SwitchItem-1 items))

pub same_five : {A B C D E F : Type 0} (f : A → B → C → D → E → F) {a a' : A} {b b' : B} {c c' : C} {d d' : D} {e e' : E} → a ≡ a' → b ≡ b' → c ≡ c' → d ≡ d' → e ≡ e' → f a b c d e ≡ f a' b' c' d' e'
same_five f {a = a} {a' = a'} {b = b} {b' = b'} {c = c} {c' = c'} {d = d} {d' = d'} {e = e} {e' = e'} p q r s u =
    ap (λ x. f x b c d e) p ∙ ap (λ x. f a' x c d e) q ∙ ap (λ x. f a' b' x d e) r ∙ ap (λ x. f a' b' c' x e) s ∙ ap (λ x. f a' b' c' d' x) u
